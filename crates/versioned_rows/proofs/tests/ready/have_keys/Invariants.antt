use Rattle.std.proofs.Common.{length}
use Rattle.versioned_rows.specs.ChangeLaws.{HaveKeys}
use Rattle.versioned_rows.proofs.tests.ready.have_keys.Given as goal

abbrev pub invariant-loop-first : goal.invariant-loop-first
invariant-loop-first l = HaveKeys l.rest → HaveKeys l.lines

abbrev pub decreases-loop-first : goal.decreases-loop-first
decreases-loop-first l = length l.rest
