use Rattle.std.proofs.Common.{◌≡◌, ◌++◌, drop, Some}
use Rattle.interval_normal.specs.Flip.{gaps}
use Rattle.interval_normal.proofs.complement.all_gaps.Given as goal

abbrev pub invariant-loop-s : goal.invariant-loop-s
invariant-loop-s g l = let cmp = g.P.Point.cmp in l.out ++ gaps cmp l.from (drop l.s-index l.spans) ≡ gaps cmp (Some g.P.Point.bottom) l.spans
