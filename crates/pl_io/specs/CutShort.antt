-- What was sent before a connection failed.
use Rattle.std.specs.Prelude.{◌≡◌, ◌≢◌, ℕ, List, [], ◌++◌, Option}
use Rattle.pl_io.specs.Told.{plus}

-- a proper prefix of the text was written
pub record CutShort (old new : Option (List ℕ)) (text : List ℕ) : Type 0 where
  pub part : List ℕ
  pub missing : List ℕ
  pub some : missing ≢ []
  pub whole : part ++ missing ≡ text
  pub written : new ≡ plus old part
