-- A connection between the calls of the keeper and within a put, and what the look-ups show.
use Rattle.std.specs.Prelude.{◌≡◌, ◌≤◌, false, [], ◌∷◌, length, IsTrue}
use Rattle.sqlite.specs.declared.types.Value.TheVariants.{Text, Blob}
use Rattle.sqlite.specs.Order.{Row, column}
use Rattle.sqlite_value.specs.Order.{bytes}
use Rattle.sqlite.specs.Effect.{Database}
use Rattle.sqlite.specs.State.{State, HasCleanDisk}
use Rattle.sqlite.specs.View.{doubt}
use Rattle.pl_keeper.specs.Archive.{Profile, Capture, Archive}
use Rattle.pl_keeper.specs.Listing.{Line}
use Rattle.pl_keeper.specs.Rows.{Holds}

-- the disk has returned what was written, and no fault has shut the database
pub record Lives (s : State) : Type 0 where
  pub clean : HasCleanDisk s
  pub is_open : IsTrue s.is_open

-- a call forgets no doubt of the disk, and opens no database that was shut
pub record Continues (old new : State) : Type 0 where
  pub clean : doubt old.is_clean ≤ doubt new.is_clean
  pub was_open : HasCleanDisk new → IsTrue new.is_open → IsTrue old.is_open

-- the database is open with no transaction
pub record IsIdle (s : State) : Type 0 where
  pub is_open : IsTrue s.is_open
  pub autocommit : s.in_transaction ≡ false

-- the database is open with no transaction, and what was last committed holds the archive
pub record Settled (Has : Database → Archive → Type 0) (s : State) (a : Archive) : Type 0 where
  pub is_open : IsTrue s.is_open
  pub autocommit : s.in_transaction ≡ false
  pub committed : s.committed ≡ s.now
  pub has : Has s.now a

-- a transaction is open, and sees the archive
pub record Within (s : State) (a : Archive) : Type 0 where
  pub is_open : IsTrue s.is_open
  pub inside : IsTrue s.in_transaction
  pub has : Holds s.now a

-- how the look-ups show a row: its body; its name; its profile and body; its key; all of these
abbrev pub body_of : Profile → Row
body_of p = Blob p.bytes ∷ []

abbrev pub name_of : Profile → Row
name_of p = Text p.name ∷ []

abbrev pub owner_and_body : Capture → Row
owner_and_body c = Text c.profile ∷ Blob c.bytes ∷ []

abbrev pub key_of : Capture → Row
key_of c = Text c.key ∷ []

abbrev pub listed_as : Capture → Row
listed_as c = Text c.key ∷ Text c.profile ∷ Blob c.bytes ∷ []

-- the line of such a row
abbrev pub line_in : Row → Line
line_in r = record {
  key = bytes (column r 0);
  profile = bytes (column r 1);
  length = length (bytes (column r 2));
}
