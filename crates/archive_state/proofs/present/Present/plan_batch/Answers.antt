use Rattle.std.proofs.Common.{◌≡◌, ◌+◌, Result, sym, ap, ◌∙◌, subst, arith}
use Rattle.std.specs.Prelude.{Err}
use Rattle.std.specs.Arc.{arc_value}
use Rattle.std.proofs.lemmas.Result.{err_from_is_err_and}
use Rattle.archive_model.specs.Batching.{batch_step}
use Rattle.archive_model.specs.declared.answers.Refused.{Refused}
use Rattle.archive_model.specs.declared.answers.Stored.{Stored}
use Rattle.archive_state.specs.declared.plan.Planned.{Planned}
use Rattle.archive_state.specs.declared.snapshot.Snapshot.{Snapshot}
use Rattle.archive_state.specs.Planning.{Plans}
use Rattle.archive_state.specs.Used.{used_by}
use Rattle.archive_state.proofs.BatchPlans.{plans_new, plans_refused, none_found, one_found}
use Rattle.archive_state.proofs.BatchRoom.{has_room, stands_seen}
use Rattle.archive_state.proofs.present.Present.plan_batch.Goals as goal

pub new_batch-requires-clause-stands : goal.new_batch-requires-clause-stands
new_batch-requires-clause-stands c = c.requires.stands

pub new_batch-requires-clause-asked : goal.new_batch-requires-clause-asked
new_batch-requires-clause-asked c = c.requires.asked

pub overflow_add-version : goal.overflow_add-version
overflow_add-version c =
    let last = c.version.ensures ∙ ap (λ (s : Snapshot). s.rows.last) c.seen.ensures in
    let room = has_room (arc_value c.args.self.now.snapshot) (stands_seen c.args.self.now c.requires.stands) in
    omega (arith, last, room.last)

pub new_batch-requires-clause-used : goal.new_batch-requires-clause-used
new_batch-requires-clause-used c = c.in-Ok.ensures ∙ ap (λ n. used_by c.args.ask.now (n + 1)) (c.version.ensures ∙ ap (λ (s : Snapshot). s.rows.last) c.seen.ensures)

pub returns-in_err-made-in-None : goal.returns-in_err-made-in-None
returns-in_err-made-in-None c history a st =
    let p = err_from_is_err_and c.from_residual.result c.from_residual.ensures.1 in
    let fresh = none_found c.args.self.now c.args.ask.now c.args.now (c.version.result + 1) c.in-Ok.used c.in-Ok.ensures history a st c.in-None.ensures in
    subst (λ (r : Result (Planned Stored) Refused). Plans (λ o. o ≡ batch_step a c.args.ask.now c.args.now) history a r) (sym (p.1 ∙ ap (λ (x : Refused). Err x) p.2))
    (plans_refused history a c.args.ask.now c.args.now c.in_err-made-in-None.field-0.0 fresh (c.in_err-made-in-None.ensures history a st fresh))

pub returns-in-Some : goal.returns-in-Some
returns-in-Some c = one_found c.args.self.now c.args.ask.now c.args.now (c.version.result + 1) c.in-Ok.used c.in-Ok.ensures c.in-Some.found.now c.told_by.result c.in-Some.ensures c.told_by.ensures

pub returns-in_ok-made-in-None : goal.returns-in_ok-made-in-None
returns-in_ok-made-in-None c history a st =
    let fresh = none_found c.args.self.now c.args.ask.now c.args.now (c.version.result + 1) c.in-Ok.used c.in-Ok.ensures history a st c.in-None.ensures in
    plans_new history a c.args.ask.now c.args.now c.in_ok-made-in-None.made fresh (c.in_ok-made-in-None.ensures history a st fresh)
