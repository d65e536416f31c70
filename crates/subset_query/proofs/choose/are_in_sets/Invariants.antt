use Rattle.std.proofs.Common.{◌≡◌, drop}
use Rattle.subset_query.specs.Forms.{in_sets}
use Rattle.subset_query.proofs.choose.are_in_sets.Given as goal

abbrev pub invariant-loop-i : goal.invariant-loop-i
invariant-loop-i l = in_sets l.sets l.values ≡ in_sets (drop l.i l.sets) (drop l.i l.values)
