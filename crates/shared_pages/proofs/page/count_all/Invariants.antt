use Rattle.std.proofs.Common.{◌≡◌, length, take}
use Rattle.std.specs.List.{flat_map}
use Rattle.shared_pages.proofs.page.count_all.Given as goal

abbrev pub invariant-loop-node : goal.invariant-loop-node
invariant-loop-node g l = l.all ≡ length (flat_map g.N.Node.items (take l.node-index l.nodes))
