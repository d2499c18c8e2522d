-- How the archive stands in the tables of a database.
use Rattle.std.specs.Prelude.{◌≡◌, ◌⊎◌, Bool, true, false, List, [], ◌∷◌, map, ⊤, IsPermutation}
use Rattle.sqlite.specs.declared.types.Value.{Value}
use Rattle.sqlite.specs.declared.types.Value.TheVariants.{Text, Blob}
use Rattle.sqlite.specs.Order.{Row, column}
use Rattle.sqlite_value.specs.Order.{bytes}
use Rattle.sqlite.specs.Effect.{Database}
use Rattle.pl_keeper.specs.Archive.{Profile, Capture, Archive}
use Rattle.pl_keeper.specs.Schema.{no_tables, profiles_alone, both_tables}

-- the row of a profile under its row number, and that of a capture
abbrev pub profile_row : Value → Profile → Row
profile_row id p = id ∷ Text p.bench ∷ Text p.name ∷ Blob p.bytes ∷ []

abbrev pub capture_row : Value → Capture → Row
capture_row id c = id ∷ Text c.bench ∷ Text c.key ∷ Text c.profile ∷ Blob c.bytes ∷ []

-- the rows are those of these things, one after the other
abbrev pub AreRows : {X : Type 0} → (Value → X → Row) → List Row → List X → Type 0
AreRows row [] [] = ⊤
AreRows row [] (x ∷ xs) = ⊥
AreRows row (r ∷ rs) [] = ⊥
AreRows row (r ∷ rs) (x ∷ xs) = (id : Value) × (r ≡ row id x) × AreRows row rs xs

-- each of these things has one row, there are no other rows, and their order is free
unfoldable pub Stand : {X : Type 0} → (Value → X → Row) → List Row → List X → Type 0
Stand {X} row rows xs = (standing : List X) × IsPermutation xs standing × AreRows row rows standing

-- the database has the two tables and nothing else, and the archive stands in them
pub record Holds (db : Database) (a : Archive) : Type 0 where
  pub schema : db.schema ≡ both_tables
  pub profiles : Stand profile_row (db.trees 0) a.profiles
  pub captures : Stand capture_row (db.trees 2) a.captures

-- it has the table of profiles alone, and there are no captures
pub record HoldsProfiles (db : Database) (a : Archive) : Type 0 where
  pub schema : db.schema ≡ profiles_alone
  pub profiles : Stand profile_row (db.trees 0) a.profiles
  pub none : a.captures ≡ []

-- it has no table, and there is nothing
pub record HoldsNothing (db : Database) (a : Archive) : Type 0 where
  pub schema : db.schema ≡ no_tables
  pub none : (a.profiles ≡ []) × (a.captures ≡ [])

-- the table of profiles is there
abbrev pub HoldsSome : Database → Archive → Type 0
HoldsSome db a = HoldsProfiles db a ⊎ Holds db a

-- whichever of the two tables are there
abbrev pub HoldsAny : Database → Archive → Type 0
HoldsAny db a = HoldsNothing db a ⊎ HoldsSome db a

-- once a call has seen to the tables, both are there
abbrev pub HoldsOnce : Bool → Database → Archive → Type 0
HoldsOnce true = Holds
HoldsOnce false = HoldsAny

-- what a row says
abbrev pub profile_in : Row → Profile
profile_in r = record {
  bench = bytes (column r 1);
  name = bytes (column r 2);
  bytes = bytes (column r 3);
}

abbrev pub capture_in : Row → Capture
capture_in r = record {
  bench = bytes (column r 1);
  key = bytes (column r 2);
  profile = bytes (column r 3);
  bytes = bytes (column r 4);
}

-- what the rows of the tables say, where both are there, and where that of the profiles is alone
abbrev pub archive_in : Database → Archive
archive_in db = record {
  profiles = map profile_in (db.trees 0);
  captures = map capture_in (db.trees 2);
}

abbrev pub profiles_in : Database → Archive
profiles_in db = record { profiles = map profile_in (db.trees 0); captures = [] }
