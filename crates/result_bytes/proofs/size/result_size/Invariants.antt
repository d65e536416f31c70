use Rattle.std.proofs.Common.{◌≡◌, length, take}
use Rattle.cite_schema.specs.Layout.{laid_out}
use Rattle.result_bytes.proofs.size.result_size.Given as goal

abbrev pub invariant-loop-row : goal.invariant-loop-row
invariant-loop-row l = l.size ≡ length (laid_out l.items (take l.row-index l.rows))
