-- What steps make of rows, value by value.
use Rattle.std.specs.Prelude.{ℕ, ℤ, ◌+ℤ◌, ◌*ℤ◌, List, [], ◌∷◌, ◌++◌, Option, Some, None, map, if◌then◌else◌}
use Rattle.std.specs.Option.{option_and_then}
use Rattle.std.specs.Ordering.{is_eq}
use Rattle.cite_schema.specs.Values.{value_cmp, printed, is_number}
use Rattle.cite_schema.specs.TableTexts.{all_some}
use Rattle.cite_schema.specs.declared.value.Value.{Value}
use Rattle.cite_schema.specs.declared.value.Value.TheVariants.{Int, Text}
use Rattle.cite_schema.specs.declared.schema.Column.{Column}
use Rattle.cite_schema.specs.declared.step.Step.{Step}
use Rattle.cite_schema.specs.declared.step.Step.TheVariants.{Add, DropColumn, Scale, Recode, RetypeToText}
use Rattle.migration.specs.Places.{changed_if, without}
use Rattle.migration.specs.Columns.{place_of, columns_after}

-- the image of a number under a scale
abbrev pub image : ℤ → ℤ → ℤ → ℤ
image by plus x = (by *ℤ x) +ℤ plus

-- what a step makes of a value in the column that it names; none where a number leaves the range
abbrev pub value_after : Step → Value → Option Value
value_after (Scale c by plus) (Int x) = if is_number (image by plus x) then Some (Int (image by plus x)) else None
value_after (Recode c old new) v = Some (if is_eq (value_cmp v old) then new else v)
value_after (RetypeToText c) v = Some (Text (printed v))
value_after _ v = Some v

-- what a step that names the column at a place makes of a row
abbrev pub row_at : ℕ → Step → List Value → Option (List Value)
row_at i (Add c v) row = Some (row ++ v ∷ [])
row_at i (DropColumn c) row = Some (without i row)
row_at i step row = changed_if (value_after step) i row

-- what a step makes of a row of the columns
abbrev pub row_after : List Column → Step → List Value → Option (List Value)
row_after columns step row = row_at (place_of columns step) step row

-- what steps make of a row, one after the other
abbrev pub carry_row : List Column → List Step → List Value → Option (List Value)
carry_row columns [] row = Some row
carry_row columns (x ∷ xs) row = option_and_then (carry_row (columns_after columns x) xs) (row_after columns x row)

-- what steps that name the columns at those places make of a row, one after the other
abbrev pub row_at_all : List ℕ → List Step → List Value → Option (List Value)
row_at_all (i ∷ is) (x ∷ xs) row = option_and_then (row_at_all is xs) (row_at i x row)
row_at_all _ _ row = Some row

-- what steps make of the rows of a table, where each row is carried
abbrev pub carry_rows : List Column → List Step → List (List Value) → Option (List (List Value))
carry_rows columns steps rows = all_some (map (carry_row columns steps) rows)
