-- The law of lines.
use Rattle.std.specs.Prelude.{◌≡◌, ◌≢◌, ℕ, ⊤, IsTrue, List, [], ◌∷◌, Option, Ok, IfSome, IsSomeAnd}
use Rattle.std.specs.declared.cmp.Ordering.TheVariants.{Equal}
use Rattle.std.specs.List.{AllByRecursion}
use Rattle.cite_schema.specs.Tables.{fits, cell_cmp, is_table}
use Rattle.cite_schema.specs.Lines.{row_in, key_in}
use Rattle.cite_schema.specs.declared.value.Value.{Value}
use Rattle.cite_schema.specs.declared.schema.Column.{Column}
use Rattle.cite_schema.specs.declared.line.Line.{Line}
use Rattle.versioned_rows.specs.Changes.{after_lines}

-- the row that a line brings, if it brings one, fits the columns
abbrev pub FitsLine : List Column → Line → Type 0
FitsLine columns line = IfSome (row_in line) (λ row. IsTrue (fits columns row))

-- so for each line
abbrev pub FitLines : List Column → List Line → Type 0
FitLines columns lines = AllByRecursion (FitsLine columns) lines

-- no two lines name one key
abbrev pub NameOwnKeys : List Line → Type 0
NameOwnKeys [] = ⊤
NameOwnKeys (l ∷ ls) = AllByRecursion (λ m. cell_cmp (key_in l) (key_in m) ≢ Equal) ls × NameOwnKeys ls

-- there is a value
abbrev pub IsThere : Option Value → Type 0
IsThere o = IsSomeAnd o (λ v. ⊤)

-- each line names a key
abbrev pub HaveKeys : List Line → Type 0
HaveKeys lines = AllByRecursion (λ l. IsThere (key_in l)) lines

-- lines that fit make a table of a table
abbrev pub LinesMakeTables : Type 0
LinesMakeTables = (n : ℕ) (columns : List Column) (lines : List Line) (table after : List (List Value)) → FitLines columns lines
    → IsTrue (is_table columns table) → after_lines n lines table ≡ Ok after → IsTrue (is_table columns after)
