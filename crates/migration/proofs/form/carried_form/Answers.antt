use Rattle.std.proofs.Common.{ap, sym, subst, ◌∙◌}
use Rattle.subset_query.specs.Forms.{IsForm, IsSettled}
use Rattle.migration.specs.Carrying.{IsOutcome, form_parts}
use Rattle.migration.proofs.form.carried_form.Goals as goal

pub returns-in_ok-carried-in-Some : goal.returns-in_ok-carried-in-Some
returns-in_ok-carried-in-Some c = λ before after stage settled.
    subst (λ form. IsOutcome after (form_parts c.args.step.now c.args.place form) c.in_ok-carried-in-Some.carried) (sym c.in-Some.is)
    (c.in_ok-carried-in-Some.ensures before after stage (subst (IsSettled before) c.in-Some.is settled))
