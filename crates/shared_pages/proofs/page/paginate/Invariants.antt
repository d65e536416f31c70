use Rattle.std.specs.Vec.Iter.{into_iter_items}
use Rattle.shared_pages.proofs.Paging.{IsPaging}
use Rattle.shared_pages.proofs.page.paginate.Given as goal

abbrev pub invariant-loop-node : goal.invariant-loop-node
invariant-loop-node g l =
    (goal.iterator-loop-node g).can_next l.node-iterator
    × (goal.iterator-loop-node g).is_finite l.node-iterator
    × IsPaging g.N.Node.items g.N.Placed.whole l.initial.out.items l.out.items l.fn.nodes.items l.page.items (into_iter_items l.node-iterator) l.size
