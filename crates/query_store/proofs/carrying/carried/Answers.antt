use Rattle.std.proofs.Common.{◌∷◌, [], ◌++◌, ap, ◌∙◌}
use Rattle.std.specs.Vec.Iter.{into_iter_items}
use Rattle.query_store.proofs.Forms.{carry_step, is_there}
use Rattle.query_store.proofs.carrying.carried.Goals as goal

pub loop-normal-preserved : goal.loop-normal-preserved
loop-normal-preserved c = (
  tt,
  tt,
  carry_step c.args.old.now c.args.normals c.loop-normal.store c.in_ok-store-in-Some-get.store c.loop-normal.number (into_iter_items c.loop-normal.normal-iterator) (into_iter_items c.next.new.self) c.in-Some.normal c.in-Some-get.citation.now
      c.loop-normal.invariant.2 c.in-Some.ensures.steps.0 c.in-Some-get.ensures (c.in_ok-store-in-Some-get.ensures ∙ ap (λ t. c.loop-normal.store ++ t ∷ []) c.in_ok-turned-in-Some-get.ensures),
)

pub unreachable-requires : goal.unreachable-requires
unreachable-requires c =
    is_there c.args.old.now c.args.normals c.loop-normal.store c.loop-normal.number (into_iter_items c.loop-normal.normal-iterator) (into_iter_items c.next.new.self) c.in-Some.normal
    c.loop-normal.invariant.2 c.in-Some.ensures.steps.0 c.in-None-get.ensures
