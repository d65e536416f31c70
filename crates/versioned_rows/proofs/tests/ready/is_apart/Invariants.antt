use Rattle.std.proofs.Common.{length}
use Rattle.std.specs.List.{AllByRecursion}
use Rattle.versioned_rows.proofs.Ready.{NamesOther}
use Rattle.versioned_rows.proofs.tests.ready.is_apart.Given as goal

abbrev pub invariant-loop-other : goal.invariant-loop-other
invariant-loop-other l = AllByRecursion (NamesOther l.line) l.rest → AllByRecursion (NamesOther l.line) l.others

abbrev pub decreases-loop-other : goal.decreases-loop-other
decreases-loop-other l = length l.rest
