use Rattle.std.proofs.Common.{length, ◌+◌, ◌-◌, ◌≡◌, ◌++◌, drop}
use Rattle.interval_normal.specs.Cross.{cross}
use Rattle.interval_normal.proofs.intersection.all_common.Given as goal

abbrev pub invariant-loop-i : goal.invariant-loop-i
invariant-loop-i g l = l.out ++ cross g.P.Point.cmp (drop l.i l.left) (drop l.j l.right) ≡ cross g.P.Point.cmp l.left l.right

abbrev pub decreases-loop-i : goal.decreases-loop-i
decreases-loop-i g l = (length l.left - l.i) + (length l.right - l.j)
