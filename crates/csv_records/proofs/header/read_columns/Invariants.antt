use Rattle.std.proofs.Common.{◌≡◌, Some, map, take}
use Rattle.csv.specs.Records.{fields_of}
use Rattle.cite_schema.specs.TableTexts.{all_some, column_in}
use Rattle.csv_records.proofs.header.read_columns.Given as goal

abbrev pub invariant-loop-i : goal.invariant-loop-i
invariant-loop-i l = all_some (map column_in (take l.i (fields_of l.head))) ≡ Some l.columns
