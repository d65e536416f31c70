use Rattle.std.proofs.Common.{map, sym, ap, ◌∙◌}
use Rattle.migration.specs.Naming.{name_place}
use Rattle.migration.proofs.Naming.{one_more}
use Rattle.migration.proofs.named.places_among.Goals as goal

pub loop-step-preserved : goal.loop-step-preserved
loop-step-preserved c =
    let place = c.name_place-place.ensures ∙ ap (λ ns. name_place (map (λ n. n.now) ns) c.column_named.result.now) c.as_slice.ensures.value
    ∙ ap (name_place (map (λ n. n.now) c.loop-step.names.items)) c.column_named.ensures in
    one_more c.loop-step.places c.push.new.self (map (λ n. n.now) c.loop-step.names.items) (map (λ n. n.now) c.in_ok-names-2.names.items) c.args.steps.now c.loop-step.step-index c.name_place-place.result c.step-item.result c.loop-step-test.true c.step-item.is place c.in_ok-names-2.ensures c.in_ok-push.ensures.ok
    ∙ c.loop-step.invariant
