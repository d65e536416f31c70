use Rattle.std.proofs.Common.{◌≡◌, ◌++◌, drop}
use Rattle.migration.proofs.copies.copied_sets.Given as goal

abbrev pub invariant-loop-set : goal.invariant-loop-set
invariant-loop-set l = l.copied ++ drop l.set-index l.sets ≡ l.sets
