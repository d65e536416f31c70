use Rattle.std.proofs.Common.{◌≡◌, true, length}
use Rattle.versioned_rows.proofs.Ready.{keys_rise}
use Rattle.versioned_rows.proofs.tests.ready.are_rising.Given as goal

abbrev pub invariant-loop-first : goal.invariant-loop-first
invariant-loop-first l = keys_rise l.rest ≡ true → keys_rise l.lines ≡ true

abbrev pub decreases-loop-first : goal.decreases-loop-first
decreases-loop-first l = length l.rest
