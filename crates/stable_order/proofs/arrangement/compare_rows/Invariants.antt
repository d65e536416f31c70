use Rattle.std.proofs.Common.{◌≡◌, drop}
use Rattle.stable_order.specs.Rows.{by_order}
use Rattle.stable_order.proofs.arrangement.compare_rows.Given as goal

abbrev pub invariant-loop-dir : goal.invariant-loop-dir
invariant-loop-dir g l = by_order g.R.Keyed.at (drop l.dir-index l.order) l.a l.b ≡ by_order g.R.Keyed.at l.order l.a l.b
