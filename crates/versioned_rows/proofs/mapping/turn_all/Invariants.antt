use Rattle.std.specs.Fn.{FnReturnsAt}
use Rattle.std.specs.Option.{option_copied}
use Rattle.shared_pages.specs.Walks.{to_come}
use Rattle.versioned_rows.proofs.Turning.{IsTurning}
use Rattle.versioned_rows.proofs.mapping.turn_all.Given as goal

abbrev pub invariant-loop-item : goal.invariant-loop-item
invariant-loop-item g l =
    (goal.iterator-loop-item g).can_next l.item-iterator
    × (goal.iterator-loop-item g).is_finite l.item-iterator
    × IsTurning (FnReturnsAt g.F.Fn l.f) l.kept (to_come l.item-iterator) (option_copied l.lost) l.rows.items l.weight
