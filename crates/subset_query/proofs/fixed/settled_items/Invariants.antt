use Rattle.std.proofs.Common.{◌≡◌, map}
use Rattle.subset_query.specs.Settling.{settled_item}
use Rattle.subset_query.proofs.fixed.settled_items.Given as goal

abbrev pub invariant-loop-item : goal.invariant-loop-item
invariant-loop-item l = l.settled ≡ map (settled_item l.fixed) l.yielded
