use Rattle.std.proofs.Common.{take}
use Rattle.subset_query.proofs.Chosen.{AreFull}
use Rattle.subset_query.proofs.normal_form.full_sets.Given as goal

abbrev pub invariant-loop-column : goal.invariant-loop-column
invariant-loop-column l = AreFull (take l.column-index l.columns) l.sets
