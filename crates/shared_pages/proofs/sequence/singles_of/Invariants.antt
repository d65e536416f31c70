use Rattle.std.proofs.Common.{◌≡◌, ◌++◌}
use Rattle.std.specs.List.{AllByRecursion, flat_map}
use Rattle.std.specs.Vec.Iter.{into_iter_items}
use Rattle.shared_pages.specs.Singles.{single_item, IsSingle}
use Rattle.shared_pages.proofs.sequence.singles_of.Given as goal

abbrev pub invariant-loop-item : goal.invariant-loop-item
invariant-loop-item g l =
    (goal.iterator-loop-item g).can_next l.item-iterator
    × (goal.iterator-loop-item g).is_finite l.item-iterator
    × (flat_map single_item l.singles.items ++ into_iter_items l.item-iterator ≡ l.fn.items.items)
    × AllByRecursion IsSingle l.singles.items
