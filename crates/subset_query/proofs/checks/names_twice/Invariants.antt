use Rattle.std.proofs.Common.{◌≡◌, drop}
use Rattle.subset_query.specs.Checks.{names_twice}
use Rattle.subset_query.proofs.checks.names_twice.Given as goal

abbrev pub invariant-loop-i : goal.invariant-loop-i
invariant-loop-i l = names_twice (drop l.i l.conds) ≡ names_twice l.conds
