use Rattle.std.proofs.Common.{◌≡◌, drop, slice_get}
use Rattle.std.specs.List.{flat_map}
use Rattle.shared_pages.proofs.level.item_at.Given as goal

abbrev pub invariant-loop-node : goal.invariant-loop-node
invariant-loop-node g l = slice_get (flat_map g.N.Node.items l.nodes) l.place ≡ slice_get (flat_map g.N.Node.items (drop l.node-index l.nodes)) l.left
