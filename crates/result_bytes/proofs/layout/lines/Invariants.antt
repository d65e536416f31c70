use Rattle.std.proofs.Common.{◌≡◌, take}
use Rattle.cite_schema.specs.Layout.{laid_out}
use Rattle.result_bytes.specs.Writer.{IsBetweenLines, written}
use Rattle.result_bytes.proofs.layout.lines.Given as goal

abbrev pub invariant-loop-row : goal.invariant-loop-row
invariant-loop-row l = record {
  between : IsBetweenLines l.out;
  so_far : written l.out ≡ laid_out l.items (take l.row-index l.rows);
}
