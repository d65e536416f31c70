use Rattle.std.proofs.Common.{ap, sym, subst, ◌∙◌}
use Rattle.cite_schema.specs.Headings.{is_heading}
use Rattle.migration.specs.Carrying.{ArePartsAfter}
use Rattle.migration.proofs.CarriedForms.{stage_heading}
use Rattle.migration.proofs.CarriedParts.{CanSettle, stage_fits, can_settle, settled_outcome, none_outcome}
use Rattle.migration.proofs.form.carried_parts.Goals as goal

pub parts_after-requires : goal.parts_after-requires
parts_after-requires c =
    let (before, after, stage, form) = c.requires in
    stage_fits c.args.step.now c.args.place before after c.args.parts.sets stage form.sets_fit

pub returns-in_ok-form-in-Some : goal.returns-in_ok-form-in-Some
returns-in_ok-form-in-Some c = λ before after stage form.
    let can = can_settle c.args.step.now c.args.place after c.args.parts c.in-Some.field-0 c.in_ok-sets.field-0 (before, stage, form) c.in_ok-sets.ensures c.in-Some.is in
    settled_outcome after _ c.in-Some.field-0 c.in_ok-form-in-Some.form can
    (c.in_ok-form-in-Some.ensures.settled after (stage_heading c.args.step.now c.args.place before after stage) can.kinded can.some_item can.shown can.there)
    (c.in_ok-form-in-Some.ensures.alike after can.kinded)

pub returns-in-None : goal.returns-in-None
returns-in-None c = λ before after stage form. none_outcome c.args.step.now c.args.place after c.args.parts (subst (ArePartsAfter c.args.step.now c.args.place c.args.parts) c.in-None.is c.in_ok-sets.ensures)
