use Rattle.std.proofs.Common.{subst, drop}
use Rattle.csv.specs.Records.{fields_of}
use Rattle.csv_records.specs.Cells.{AreCells}
use Rattle.csv_records.specs.declared.cells.Cells.{Cells}
use Rattle.batches.proofs.Lines.{row_in_is}
use Rattle.batches.proofs.line.read_row.Goals as goal

pub returns-in-Row : goal.returns-in-Row
returns-in-Row c given =
    row_in_is c.args.columns.now c.args.line (drop 1 (fields_of c.args.fields.now)) c.in-Row.row
    (subst (λ (cells : Cells). AreCells c.args.columns.now (drop 1 (fields_of c.args.fields.now)) cells) c.in-Row.is c.in_ok-row.ensures)
