-- The texts of SQL, and what each means under the schema.
use Rattle.std.proofs.Common.{◌≡◌, ℕ, pos, negsuc, List, [], ◌∷◌, codes, false, None, Ok, refl}
use Rattle.sqlite.specs.declared.types.Value.TheVariants.{Null, Int}
use Rattle.sqlite.specs.Source.TheVariants.{Values}
use Rattle.sqlite.specs.Command.TheVariants.{Insert, Select, CreateTable}
use Rattle.sqlite.specs.Term.{Term, lit, col, op2}
use Rattle.sqlite.specs.Query.{Query, inner, end}
use Rattle.sqlite.specs.Collation.TheVariants.{Binary}
use Rattle.sqlite.specs.Table.{Table}
use Rattle.sqlite.specs.Schema.{Schema}
use Rattle.sqlite_value.specs.declared.keys.Key.{Key}
use Rattle.sqlite_sql.specs.declared.ops.BinaryOp.TheVariants.{Compare}
use Rattle.sqlite_sql.specs.declared.ops.CompareOp.TheVariants.{Eq}
use Rattle.sqlite.specs.Compile.{table_defined_by}
use Rattle.sqlite.specs.Change.{created}
use Rattle.sqlite_tied.specs.Compute.{everything}
use Rattle.sqlite.specs.Listing.{understood, reads_listing}
use Rattle.sqlite.proofs.Callers.{IsPlain, command_of, statement_of}
use Rattle.pl_keeper.specs.Schema.{profiles_at, captures_at, no_tables, profiles_alone, both_tables}

-- ---- the queries: the rows of one table that pass, each by some of its columns, in an order

abbrev pub column_is : ℕ → ℕ → Term
column_is place parameter = op2 (Compare Eq Binary) (col 1 place) (col 0 parameter)

abbrev pub rows_where : ℕ → List Term → List Term → List (Term × Key) → Query
rows_where tree tests project order = record {
  from = inner tree end;
  filter = tests;
  group = None;
  project = project;
  distinct = false;
  collations = [];
  order = order;
  limit = lit (Int (negsuc 0));
  offset = lit (Int (pos 0));
}

abbrev pub of_bench : List Term
of_bench = column_is 1 0 ∷ []

abbrev pub of_both : List Term
of_both = column_is 1 0 ∷ column_is 2 1 ∷ []

abbrev pub by_label : List (Term × Key)
by_label = (col 1 2, record { collation = Binary; descending = false }) ∷ []

-- the text, under the schema, is this query, and neither reads the clock nor the list of objects
abbrev pub Asks : List ℕ → Query → List (List ℕ) → Type 0
Asks text query names =
    (command_of (understood both_tables text) ≡ Select (record { lets = []; body = query }) names)
    × (reads_listing both_tables text ≡ false)
    × IsPlain (understood both_tables text)

abbrev pub profile_text : List ℕ
profile_text = codes "SELECT body FROM profiles WHERE bench = ?1 AND name = ?2"

pub profile_asks : Asks profile_text (rows_where 0 of_both (col 1 3 ∷ []) []) (codes "body" ∷ [])
unfolding understood everything
profile_asks = (refl, refl, (refl, refl))

abbrev pub names_text : List ℕ
names_text = codes "SELECT name FROM profiles WHERE bench = ?1"

pub names_asks : Asks names_text (rows_where 0 of_bench (col 1 2 ∷ []) []) (codes "name" ∷ [])
unfolding understood everything
names_asks = (refl, refl, (refl, refl))

abbrev pub capture_text : List ℕ
capture_text = codes "SELECT profile, body FROM captures WHERE bench = ?1 AND label = ?2"

pub capture_asks : Asks capture_text (rows_where 2 of_both (col 1 3 ∷ col 1 4 ∷ []) []) (codes "profile" ∷ codes "body" ∷ [])
unfolding understood everything
capture_asks = (refl, refl, (refl, refl))

abbrev pub keys_text : List ℕ
keys_text = codes "SELECT label FROM captures WHERE bench = ?1"

pub keys_asks : Asks keys_text (rows_where 2 of_bench (col 1 2 ∷ []) []) (codes "label" ∷ [])
unfolding understood everything
keys_asks = (refl, refl, (refl, refl))

abbrev pub listing_text : List ℕ
listing_text = codes "SELECT label, profile, body FROM captures WHERE bench = ?1 ORDER BY label"

pub listing_asks : Asks listing_text (rows_where 2 of_bench (col 1 2 ∷ col 1 3 ∷ col 1 4 ∷ []) by_label) (codes "label" ∷ codes "profile" ∷ codes "body" ∷ [])
unfolding understood everything
listing_asks = (refl, refl, (refl, refl))

-- ---- the statements that add a row: the row number is to be chosen, and the cells are the parameters

abbrev pub profile_cells : List Term
profile_cells = lit Null ∷ col 0 0 ∷ col 0 1 ∷ col 0 2 ∷ []

abbrev pub capture_cells : List Term
capture_cells = lit Null ∷ col 0 0 ∷ col 0 1 ∷ col 0 2 ∷ col 0 3 ∷ []

-- the text, under the schema, adds these cells to the table at a place of the schema
abbrev pub Adds : List ℕ → ℕ → List Term → ℕ → Type 0
Adds text table cells count =
    (command_of (understood both_tables text) ≡ Insert table (Values cells count)) × IsPlain (understood both_tables text)

abbrev pub add_profile_text : List ℕ
add_profile_text = codes "INSERT INTO profiles (bench, name, body) VALUES (?1, ?2, ?3)"

pub add_profile_adds : Adds add_profile_text 0 profile_cells 4
unfolding understood everything
add_profile_adds = (refl, (refl, refl))

abbrev pub add_capture_text : List ℕ
add_capture_text = codes "INSERT INTO captures (bench, label, profile, body) VALUES (?1, ?2, ?3, ?4)"

pub add_capture_adds : Adds add_capture_text 1 capture_cells 5
unfolding understood everything
add_capture_adds = (refl, (refl, refl))

-- ---- the statements that make a table

-- the text, under the first schema, makes this table, and the second schema has it too
pub record Makes (text : List ℕ) (before after : Schema) (table : Table) : Type 0 where
  pub command : command_of (understood before text) ≡ CreateTable
  pub statement : statement_of text (understood before text) ≡ text
  pub defines : table_defined_by text ≡ Ok table
  pub schema : created before table ≡ after
  pub plain : IsPlain (understood before text)

abbrev pub create_profiles_text : List ℕ
create_profiles_text = codes "CREATE TABLE profiles (bench TEXT NOT NULL, name TEXT NOT NULL, body BLOB NOT NULL, PRIMARY KEY (bench, name)) STRICT"

pub create_profiles_makes : Makes create_profiles_text no_tables profiles_alone (profiles_at 0)
unfolding understood everything
create_profiles_makes = record { command = refl; statement = refl; defines = refl; schema = refl; plain = (refl, refl) }

abbrev pub create_captures_text : List ℕ
create_captures_text = codes "CREATE TABLE captures (bench TEXT NOT NULL, label TEXT NOT NULL, profile TEXT NOT NULL, body BLOB NOT NULL, PRIMARY KEY (bench, label), FOREIGN KEY (bench, profile) REFERENCES profiles (bench, name)) STRICT"

-- a table that is defined has no tree yet
pub create_captures_makes : Makes create_captures_text profiles_alone both_tables (captures_at 0)
unfolding understood everything
create_captures_makes = record { command = refl; statement = refl; defines = refl; schema = refl; plain = (refl, refl) }
