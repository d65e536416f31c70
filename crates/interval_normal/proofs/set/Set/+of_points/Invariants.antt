use Rattle.std.proofs.Common.{length}
use Rattle.interval_normal.proofs.set.Set.+of_points.Given as goal

abbrev pub decreases-of_points : goal.decreases-of_points
decreases-of_points g l = length l.points.now
