use Rattle.std.proofs.Common.{◌≡◌, drop}
use Rattle.interval_normal.specs.Joined.{join_all}
use Rattle.interval_normal.proofs.merge.join_all.Given as goal

abbrev pub invariant-loop-span : goal.invariant-loop-span
invariant-loop-span g l = join_all g.P.Point.cmp l.out.items (drop l.span-index l.spans) ≡ join_all g.P.Point.cmp l.initial.out.items l.spans
