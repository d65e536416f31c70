use Rattle.std.proofs.Common.{length, ◌≡◌}
use Rattle.interval_normal.specs.PrefixEnds.{prefix_end}
use Rattle.interval_normal.proofs.text.prefix_end.Given as goal

abbrev pub invariant-loop-front : goal.invariant-loop-front
invariant-loop-front l = prefix_end l.front ≡ prefix_end l.prefix

abbrev pub decreases-loop-front : goal.decreases-loop-front
decreases-loop-front l = length l.front
