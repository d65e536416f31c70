use Rattle.std.proofs.Common.{◌≡◌, Some, take, drop}
use Rattle.csv.specs.Records.{fields_of}
use Rattle.cite_schema.specs.TableTexts.{row_of}
use Rattle.csv_records.proofs.cells.read_cells.Given as goal

abbrev pub invariant-loop-i : goal.invariant-loop-i
invariant-loop-i l = row_of (take l.i l.columns) (take l.i (drop l.from (fields_of l.line))) ≡ Some l.values
