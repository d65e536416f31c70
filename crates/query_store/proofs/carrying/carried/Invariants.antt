use Rattle.std.specs.Vec.Iter.{into_iter_items}
use Rattle.query_store.proofs.Forms.{IsCarried}
use Rattle.query_store.proofs.carrying.carried.Given as goal

abbrev pub invariant-loop-normal : goal.invariant-loop-normal
invariant-loop-normal l =
    goal.iterator-loop-normal.can_next l.normal-iterator
    × goal.iterator-loop-normal.is_finite l.normal-iterator
    × IsCarried l.old l.fn.normals l.store l.number (into_iter_items l.normal-iterator)
