use Rattle.std.proofs.Common.{◌≡◌, ◌++◌, drop}
use Rattle.subset_query.proofs.choose.copied_items.Given as goal

abbrev pub invariant-loop-item : goal.invariant-loop-item
invariant-loop-item l = l.copied ++ drop l.item-index l.items ≡ l.items
