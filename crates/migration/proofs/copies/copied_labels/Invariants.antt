use Rattle.std.proofs.Common.{◌≡◌, ◌++◌, drop}
use Rattle.migration.proofs.copies.copied_labels.Given as goal

abbrev pub invariant-loop-label : goal.invariant-loop-label
invariant-loop-label l = l.copied ++ drop l.label-index l.labels ≡ l.labels
