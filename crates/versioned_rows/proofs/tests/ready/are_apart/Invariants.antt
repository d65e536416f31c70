use Rattle.std.proofs.Common.{length}
use Rattle.versioned_rows.specs.ChangeLaws.{NameOwnKeys}
use Rattle.versioned_rows.proofs.tests.ready.are_apart.Given as goal

abbrev pub invariant-loop-first : goal.invariant-loop-first
invariant-loop-first l = NameOwnKeys l.rest → NameOwnKeys l.lines

abbrev pub decreases-loop-first : goal.decreases-loop-first
decreases-loop-first l = length l.rest
