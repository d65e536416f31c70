use Rattle.std.proofs.Common.{take}
use Rattle.subset_query.specs.Settling.{AreFixing}
use Rattle.subset_query.proofs.fixed.fixed_values.Given as goal

abbrev pub invariant-loop-set : goal.invariant-loop-set
invariant-loop-set l = AreFixing (take l.set-index l.sets) l.fixed
