use Rattle.std.proofs.Common.{◌≡◌, true, false, refl, sym, ap, ◌∙◌}
use Rattle.std.specs.Ordering.{is_eq}
use Rattle.shared_pages.specs.Probes.{all_from}
use Rattle.shared_pages.specs.Walks.{to_come}
use Rattle.query_store.specs.Places.{finding_cmp}
use Rattle.query_store.specs.Picks.{HasForm}
use Rattle.query_store.proofs.Candidates.{picks_one, leaves_one, ends_before, ends_all}
use Rattle.query_store.proofs.picking.picked.Goals as goal

pub returns-then-not-is_eq : goal.returns-then-not-is_eq
returns-then-not-is_eq c =
    ends_before (HasForm c.args.store.now c.args.normal.now) c.args.probe.now (all_from finding_cmp c.args.probe.now c.args.index.now) (to_come c.loop-finding.finding-iterator) c.loop-finding.numbers c.loop-finding.invariant.2 c.in-Some.finding.now (to_come c.next.new.self) c.in-Some.ensures.steps
    (sym (c.if-not-is_eq.ensures ∙ ap is_eq c.compare_digests.ensures))

pub loop-finding-preserved-in-Continue-1 : goal.loop-finding-preserved-in-Continue-1
loop-finding-preserved-in-Continue-1 c = (
  tt,
  tt,
  picks_one (HasForm c.args.store.now c.args.normal.now) c.args.probe.now (all_from finding_cmp c.args.probe.now c.args.index.now) (to_come c.loop-finding.finding-iterator) c.loop-finding.numbers c.loop-finding.invariant.2 c.in-Some.finding.now (to_come c.next.new.self) c.push.new.self c.in-Some.ensures.steps
      (sym (c.if-not-is_eq.ensures ∙ ap is_eq c.compare_digests.ensures)) (c.if-has_form.ensures.0 refl) c.in_ok-push.ensures.ok,
)

pub loop-finding-preserved : goal.loop-finding-preserved
loop-finding-preserved c = (
  tt,
  tt,
  leaves_one (HasForm c.args.store.now c.args.normal.now) c.args.probe.now (all_from finding_cmp c.args.probe.now c.args.index.now) (to_come c.loop-finding.finding-iterator) c.loop-finding.numbers c.loop-finding.invariant.2 c.in-Some.finding.now (to_come c.next.new.self) c.in-Some.ensures.steps
      (sym (c.if-not-is_eq.ensures ∙ ap is_eq c.compare_digests.ensures)) (λ has. let no : false ≡ true = c.if-has_form.ensures.1 has in absurd (cc)),
)

pub returns : goal.returns
returns c = ends_all (HasForm c.args.store.now c.args.normal.now) c.args.probe.now (all_from finding_cmp c.args.probe.now c.args.index.now) (to_come c.loop-finding.finding-iterator) c.loop-finding.numbers c.loop-finding.invariant.2 c.in-None.ensures.steps.0
