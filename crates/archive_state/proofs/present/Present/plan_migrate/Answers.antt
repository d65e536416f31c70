use Rattle.std.proofs.Common.{Result, sym, ap, ◌∙◌, subst}
use Rattle.std.specs.Prelude.{Err}
use Rattle.std.proofs.lemmas.Result.{err_from_is_err_and}
use Rattle.archive_model.specs.Migrating.{MigrateStep}
use Rattle.archive_model.specs.declared.answers.Moved.{Moved}
use Rattle.archive_model.specs.declared.answers.Refused.{Refused}
use Rattle.archive_state.specs.declared.plan.Planned.{Planned}
use Rattle.archive_state.specs.Planning.{Plans}
use Rattle.archive_state.proofs.BatchRoom.{entries_fit}
use Rattle.archive_state.proofs.MovePlanned.{entry_printable, harmed_told, late_told, moved_told}
use Rattle.archive_state.proofs.present.Present.plan_migrate.Goals as goal

pub returns-in_err-forms : goal.returns-in_err-forms
returns-in_err-forms c = λ history a stands.
    let p = err_from_is_err_and c.from_residual-in_err-forms.result c.from_residual-in_err-forms.ensures.1 in
    subst (λ (r : Result (Planned Moved) Refused). Plans (MigrateStep a c.args.schema c.args.steps.now c.args.now) history a r) (sym (p.1 ∙ ap (λ (x : Refused). Err x) p.2))
    (harmed_told c.args.self.now c.requires c.args.schema c.args.steps.now c.args.now c.in_ok-moving.moving c.in_ok-moving.ensures c.seen.result.now c.seen.ensures c.in_err-forms.field-0.0 c.in_err-forms.ensures history a stands)

pub returns-then-now-ge-CLOCK_END : goal.returns-then-now-ge-CLOCK_END
returns-then-now-ge-CLOCK_END c = late_told c.args.self.now c.requires c.args.schema c.args.steps.now c.args.now c.in_ok-moving.moving c.in_ok-moving.ensures c.seen.result.now c.seen.ensures c.in_ok-forms.forms c.in_ok-forms.ensures c.if-now-ge-CLOCK_END.true

pub moved-requires-clause-entries : goal.moved-requires-clause-entries
moved-requires-clause-entries c = entries_fit c.args.self.now c.requires

pub moved-requires-clause-printable : goal.moved-requires-clause-printable
moved-requires-clause-printable c = entry_printable c.args.self.now c.requires c.args.schema c.args.steps.now c.args.now c.in_ok-moving.moving c.in_ok-moving.ensures

pub returns-in-Ok : goal.returns-in-Ok
returns-in-Ok c = moved_told c.args.self.now c.requires c.args.schema c.args.steps.now c.args.now c.in_ok-moving.moving c.in_ok-moving.ensures c.seen.result.now c.seen.ensures c.in_ok-forms.forms c.in_ok-forms.ensures c.if-now-ge-CLOCK_END.false c.in-Ok.made c.in-Ok.ensures
