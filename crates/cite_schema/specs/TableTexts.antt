-- Which columns a header record names, and which table the lines under it spell.
use Rattle.std.specs.Prelude.{◌≡◌, ◌-◌, ◌&&◌, ℕ, Bool, IsTrue, List, [], ◌∷◌, Option, Some, None, option_map, map, length, take, codes, nat_eq, nat_le, is_none, if◌then◌else◌, IsPermutation}
use Rattle.std.specs.List.{ends_with, position}
use Rattle.cite_schema.specs.declared.value.Kind.{Kind}
use Rattle.cite_schema.specs.declared.value.Kind.TheVariants as kinds
use Rattle.cite_schema.specs.declared.value.Value.{Value}
use Rattle.cite_schema.specs.declared.value.Value.TheVariants.{Int, Text}
use Rattle.cite_schema.specs.declared.schema.Column.{Column}
use Rattle.cite_schema.specs.Values.{is_text}
use Rattle.cite_schema.specs.Numbers.{number_of}
use Rattle.cite_schema.specs.Headings.{is_heading}
use Rattle.cite_schema.specs.Tables.{is_keyed, is_table}

-- the column of a field that ends with the word of a kind: the name is what stands before it
abbrev pub named : List ℕ → List ℕ → Kind → Column
named field word kind = record { name = take (length field - length word) field; kind = kind }

-- the column that a header field `name:int` or `name:text` spells
unfoldable pub column_in : List ℕ → Option Column
column_in field =
    if ends_with nat_eq field (codes ":int") then Some (named field (codes ":int") kinds.Int)
    else (if ends_with nat_eq field (codes ":text") then Some (named field (codes ":text") kinds.Text) else None)

-- the first value before the others, where there are all of them
abbrev pub before : {A : Type 0} → Option A → Option (List A) → Option (List A)
before None rest = None
before (Some x) None = None
before (Some x) (Some xs) = Some (x ∷ xs)

-- all values, where each is there
abbrev pub all_some : {A : Type 0} → List (Option A) → Option (List A)
all_some [] = Some []
all_some (x ∷ xs) = before x (all_some xs)

-- the value where it passes a test
abbrev pub passing : {A : Type 0} → (A → Bool) → Option A → Option A
passing p None = None
passing p (Some x) = if p x then Some x else None

-- the columns that a header record spells: 1 to 64, each name of the name form, and none twice
abbrev pub header_of : List (List ℕ) → Option (List Column)
header_of fields = passing is_heading (all_some (map column_in fields))

-- the value that a field says in a column of a kind: a number text, or a text of at most 65,535 bytes
abbrev pub cell_of : Kind → List ℕ → Option Value
cell_of kinds.Int field = option_map Int (number_of field)
cell_of kinds.Text field = if is_text field && nat_le (length field) 65535 then Some (Text field) else None

-- what each field says in its column
abbrev pub cells_in : List Column → List (List ℕ) → List (Option Value)
cells_in (c ∷ cs) (f ∷ fs) = cell_of c.kind f ∷ cells_in cs fs
cells_in _ _ = []

-- the place of the first column whose field says no value there
abbrev pub bad_cell_in : List Column → List (List ℕ) → Option ℕ
bad_cell_in columns fields = position (λ cell. is_none cell) (cells_in columns fields)

-- the row that a line spells: one field for each column, each by its column's kind
abbrev pub row_of : List Column → List (List ℕ) → Option (List Value)
row_of [] [] = Some []
row_of [] (f ∷ fs) = None
row_of (c ∷ cs) [] = None
row_of (c ∷ cs) (f ∷ fs) = before (cell_of c.kind f) (row_of cs fs)

-- the table of the lines: each spells a row, and the rows stand in the order of their keys, none of which comes twice
pub record IsTableOf (columns : List Column) (lines : List (List (List ℕ))) (table : List (List Value)) : Type 0 where
  pub rows : List (List Value)
  pub read : all_some (map (row_of columns) lines) ≡ Some rows
  pub same : IsPermutation rows table
  pub keyed : IsTrue (is_keyed table)

-- the records are a header and the lines of a table
abbrev pub Spells : List (List (List ℕ)) → List Column → List (List Value) → Type 0
Spells [] columns table = ⊥
Spells (head ∷ lines) columns table = (header_of head ≡ Some columns) × IsTableOf columns lines table

-- records spell at most one table
abbrev pub SpellsOnce : Type 0
SpellsOnce = (records : List (List (List ℕ))) (columns others : List Column) (table other : List (List Value))
    → Spells records columns table → Spells records others other → (columns ≡ others) × (table ≡ other)

-- what they spell is a table of its columns
abbrev pub SpellsTable : Type 0
SpellsTable = (records : List (List (List ℕ))) (columns : List Column) (table : List (List Value)) → Spells records columns table → IsTrue (is_heading columns && is_table columns table)
