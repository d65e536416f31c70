use Rattle.std.proofs.Common.{length, ◌+◌, ◌-◌, ◌≤◌, drop}
use Rattle.interval_normal.proofs.Joining.{Merges}
use Rattle.interval_normal.proofs.merge.all_joined.Given as goal

abbrev pub invariant-loop-i : goal.invariant-loop-i
invariant-loop-i g l = record {
  left_within : l.i ≤ length l.left;
  right_within : l.j ≤ length l.right;
  merges : Merges g.P.Point.valid g.P.Point.cmp l.out.items (drop l.i l.left) (drop l.j l.right) l.left l.right;
}

abbrev pub decreases-loop-i : goal.decreases-loop-i
decreases-loop-i g l = (length l.left - l.i) + (length l.right - l.j)
