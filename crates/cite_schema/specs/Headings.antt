-- The columns of a schema. Column 0 is the key.
use Rattle.std.specs.Prelude.{◌≢◌, ◌↔◌, ◌<◌, ◌≤◌, ℕ, Bool, IsTrue, not, ◌&&◌, ◌||◌, ◌==◌, ◌++◌, List, [], ◌∷◌, Option, Some, None, length, slice_index, nat_lt, nat_le, is_none, if◌then◌else◌}
use Rattle.std.specs.List.{All, AllPairs, list_all, list_any}
use Rattle.std.specs.Ordering.{is_eq}
use Rattle.std.specs.Char.{is_ascii_digit, is_ascii_alphanumeric}
use Rattle.cite_schema.specs.declared.schema.Column.{Column}
use Rattle.cite_schema.specs.declared.schema.SchemaFault.{SchemaFault}
use Rattle.cite_schema.specs.declared.schema.SchemaFault.TheVariants.{NoColumns, TooManyColumns, BadName, NameTwice}
use Rattle.cite_schema.specs.Values.{text_cmp}

-- a schema's number and its columns
pub record Heading : Type 0 where
  pub number : ℕ
  pub columns : List Column

-- a column name: 1 to 64 ASCII letters, digits or `_`, the first no digit
abbrev pub is_name : List ℕ → Bool
is_name bs = nat_lt 0 (length bs) && (nat_le (length bs) 64 && (not (is_ascii_digit (slice_index bs 0)) && list_all (λ b. is_ascii_alphanumeric b || (b == 95)) bs))

-- one of the columns has the name
abbrev pub is_named_before : List Column → List ℕ → Bool
is_named_before columns name = list_any (λ c. is_eq (text_cmp c.name name)) columns

-- the first fault of a name, column by column: not of the form, or the name of one of the columns before
abbrev pub name_fault : List Column → List Column → Option SchemaFault
name_fault before [] = None
name_fault before (c ∷ cs) =
    if is_name c.name
    then (if is_named_before before c.name then Some (NameTwice (length before)) else name_fault (before ++ c ∷ []) cs)
    else Some (BadName (length before))

-- the first fault of columns that are to make a schema
abbrev pub heading_fault : List Column → Option SchemaFault
heading_fault columns =
    if length columns == 0 then Some NoColumns
    else (if nat_lt 64 (length columns) then Some TooManyColumns else name_fault [] columns)

-- the columns make a schema
abbrev pub is_heading : List Column → Bool
is_heading columns = is_none (heading_fault columns)

-- the same in other words: 1 to 64 columns, each name of the form, and no two columns with one name
pub record AreWellNamed (columns : List Column) : Type 0 where
  pub some : 0 < length columns
  pub few : length columns ≤ 64
  pub named : All (λ c. IsTrue (is_name c.name)) columns
  pub apart : AllPairs (λ c d. c.name ≢ d.name) columns

-- columns make a schema exactly where they are well named
abbrev pub SchemasAreWellNamed : Type 0
SchemasAreWellNamed = (columns : List Column) → (IsTrue (is_heading columns) ↔ AreWellNamed columns)
