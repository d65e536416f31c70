use Rattle.std.proofs.Common.{◌≡◌, ◌+◌, ◌-◌, ◌<◌, ◌≤◌, ℕ, List, ◌++◌, length, drop, slice_get, sym, ap, ◌∙◌, subst}
use Rattle.std.specs.List.{flat_map}
use Rattle.shared_pages.proofs.Places.{from_node, within, behind}
use Rattle.shared_pages.proofs.level.item_at.Goals as goal

pub returns-then-left-count : goal.returns-then-left-count
returns-then-left-count g c =
    c.get.ensures
    ∙ sym (within (g.N.Node.items c.node-item.result) (flat_map g.N.Node.items (drop (c.loop-node.node-index + 1) c.args.nodes.now)) c.loop-node.left
    (subst (λ k. c.loop-node.left < k) c.count-count.ensures c.if-left-count.true))
    ∙ sym (ap (λ ns. slice_get (flat_map g.N.Node.items ns) c.loop-node.left) (from_node c.args.nodes.now c.loop-node.node-index c.node-item.result c.loop-node-test.true c.node-item.is))
    ∙ sym c.loop-node.invariant

pub loop-node-preserved : goal.loop-node-preserved
loop-node-preserved g c =
    c.loop-node.invariant
    ∙ ap (λ ns. slice_get (flat_map g.N.Node.items ns) c.loop-node.left) (from_node c.args.nodes.now c.loop-node.node-index c.node-item.result c.loop-node-test.true c.node-item.is)
    ∙ behind (g.N.Node.items c.node-item.result) (flat_map g.N.Node.items (drop (c.loop-node.node-index + 1) c.args.nodes.now)) c.loop-node.left
    (subst (λ k. k ≤ c.loop-node.left) c.count-count.ensures c.if-left-count.false)
    ∙ ap (λ k. slice_get (flat_map g.N.Node.items (drop (c.loop-node.node-index + 1) c.args.nodes.now)) (c.loop-node.left - k)) (sym c.count-count.ensures)
