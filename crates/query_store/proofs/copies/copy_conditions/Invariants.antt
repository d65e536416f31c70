use Rattle.std.proofs.Common.{◌≡◌, ◌++◌, drop}
use Rattle.query_store.proofs.copies.copy_conditions.Given as goal

abbrev pub invariant-loop-on : goal.invariant-loop-on
invariant-loop-on l = l.copied ++ drop l.on-index l.conds ≡ l.conds
