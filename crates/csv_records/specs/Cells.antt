-- What the fields of a line say under the columns of a table.
use Rattle.std.specs.Prelude.{◌≡◌, ℕ, List, Some}
use Rattle.cite_schema.specs.TableTexts.{row_of, bad_cell_in}
use Rattle.cite_schema.specs.declared.schema.Column.{Column}
use Rattle.csv_records.specs.declared.cells.Cells.{Cells}
use Rattle.csv_records.specs.declared.cells.Cells.TheVariants.{Row, Bad}

-- a row, or the first column whose field says no value there
abbrev pub AreCells : List Column → List (List ℕ) → Cells → Type 0
AreCells columns fields (Row row) = row_of columns fields ≡ Some row
AreCells columns fields (Bad column) = bad_cell_in columns fields ≡ Some column
