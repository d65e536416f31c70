use Rattle.std.proofs.Common.{◌∙◌, sym, subst}
use Rattle.csv.specs.Records.{fields_of}
use Rattle.csv_records.specs.Cells.{AreCells}
use Rattle.csv_records.specs.declared.cells.Cells.{Cells}
use Rattle.cite_cli.proofs.LineFaults.{cell_fault}
use Rattle.cite_cli.proofs.lines.read_row.Goals as goal

pub returns-in-Bad-clause-why : goal.returns-in-Bad-clause-why
returns-in-Bad-clause-why c =
    let bad = subst (λ (cells : Cells). AreCells c.args.columns.now (fields_of c.args.fields.now) cells) c.in-Bad.is c.in_ok-row.ensures in
    cell_fault c.args.columns.now c.args.line (fields_of c.args.fields.now) c.in-Bad.column (sym c.len.ensures ∙ c.if-len-columns.false) bad
