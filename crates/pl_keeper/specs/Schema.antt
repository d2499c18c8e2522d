-- The two tables of the archive, as the database knows them.
use Rattle.std.specs.Prelude.{true, false, [], ◌∷◌, None, codes, List, ℕ}
use Rattle.sqlite.specs.Collation.TheVariants.{Binary}
use Rattle.sqlite.specs.declared.types.Value.TheVariants.{Null}
use Rattle.sqlite.specs.Table.{Table}
use Rattle.sqlite.specs.Schema.{Schema}
use Rattle.sqlite.specs.Kind.{Kind}
use Rattle.sqlite.specs.Kind.TheVariants.{Text, Blob}
use Rattle.sqlite_schema.specs.declared.schema.Column.{Column}
use Rattle.sqlite_schema.specs.declared.schema.Index.{Index}
use Rattle.sqlite_schema.specs.declared.schema.Reference.{Reference}
use Rattle.sqlite_schema.specs.declared.schema.Action.TheVariants.{NoAction}

-- a column that is NOT NULL, of a STRICT table
abbrev pub cell : List ℕ → Kind → Column
cell name kind = record {
  name = name;
  kind = kind;
  is_strict = true;
  not_null = true;
  default = Null;
  collation = Binary;
}

-- a STRICT table whose primary key is its first two columns
abbrev pub keyed_by_two : List ℕ → ℕ → List Column → List Reference → Table
keyed_by_two name tree columns references = record {
  name = name;
  tree = tree;
  columns = columns;
  key = None;
  primary = 1 ∷ 2 ∷ [];
  uniques = (1 ∷ 2 ∷ []) ∷ [];
  orders = (record { digits = 0 }) ∷ [];
  checks = [];
  references = references;
  computed = [];
  stamps = record { places = []; terms = []; formats = [] };
  is_counted = false;
}

-- the index of that key
abbrev pub index_of_key : List ℕ → ℕ → ℕ → Index
index_of_key name tree table = record {
  name = name;
  tree = tree;
  table = table;
  columns = 1 ∷ 2 ∷ [];
  order = record { digits = 0 };
  is_unique = true;
}

abbrev pub profiles_at : ℕ → Table
profiles_at tree =
    keyed_by_two (codes "profiles") tree
    (cell (codes "bench") Text ∷ cell (codes "name") Text ∷ cell (codes "body") Blob ∷ []) []

-- (bench, profile) is the key of a profile
abbrev pub to_profile : Reference
to_profile = record {
  columns = 1 ∷ 3 ∷ [];
  parent = codes "profiles";
  parent_columns = codes "bench" ∷ codes "name" ∷ [];
  on_delete = NoAction;
  on_update = NoAction;
  is_deferred = false;
}

abbrev pub captures_at : ℕ → Table
captures_at tree =
    keyed_by_two (codes "captures") tree
    (cell (codes "bench") Text ∷ cell (codes "label") Text ∷ cell (codes "profile") Text
    ∷ cell (codes "body") Blob ∷ [])
    (to_profile ∷ [])

-- no table yet, the profiles alone, and both
abbrev pub no_tables : Schema
no_tables = record { tables = []; indexes = []; views = [] }

abbrev pub profiles_alone : Schema
profiles_alone = record {
  tables = profiles_at 0 ∷ [];
  indexes = index_of_key (codes "sqlite_autoindex_profiles_1") 1 0 ∷ [];
  views = [];
}

abbrev pub both_tables : Schema
both_tables = record {
  tables = profiles_at 0 ∷ captures_at 2 ∷ [];
  indexes = index_of_key (codes "sqlite_autoindex_profiles_1") 1 0
      ∷ index_of_key (codes "sqlite_autoindex_captures_1") 3 2 ∷ [];
  views = [];
}
