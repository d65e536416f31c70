use Rattle.std.proofs.Common.{◌≡◌, ◌++◌, drop}
use Rattle.query_store.proofs.copies.copy_order.Given as goal

abbrev pub invariant-loop-along : goal.invariant-loop-along
invariant-loop-along l = l.copied ++ drop l.along-index l.order ≡ l.order
