use Rattle.std.proofs.Common.{◌≤◌, length, arith}
use Rattle.migration.proofs.Placed.{same_at, none_left}
use Rattle.migration.proofs.CarriedForms.{there, stage_here, placed_on, placed_ends}
use Rattle.migration.proofs.form.carried_by_all.Goals as goal

pub carried_form-requires : goal.carried_form-requires
carried_form-requires c =
    let u = c.loop-i.invariant in
    let x = c.index-steps-i.result in
    let within = there c.args.schema.now.columns c.args.steps.now c.args.form c.args.places.now c.loop-i.i x c.loop-i.carried c.loop-i-test.true c.index-steps-i.is u in
    (u.columns, _, stage_here c.args.schema.now.columns c.args.steps.now c.args.form c.args.places.now c.loop-i.i x c.loop-i.carried c.loop-i-test.true c.index-steps-i.is u _ (same_at c.args.places.now c.loop-i.i 0 _ within), u.under_way.settled)

pub returns-in-None : goal.returns-in-None
returns-in-None c =
    let u = c.loop-i.invariant in
    let x = c.index-steps-i.result in
    let within = there c.args.schema.now.columns c.args.steps.now c.args.form c.args.places.now c.loop-i.i x c.loop-i.carried c.loop-i-test.true c.index-steps-i.is u in
    placed_ends c.args.schema.now.columns c.args.steps.now c.args.form c.args.places.now c.loop-i.i x c.loop-i.carried c.loop-i-test.true c.index-steps-i.is u _ c.in_ok-next.field-0 (same_at c.args.places.now c.loop-i.i 0 _ within) c.in_ok-next.ensures c.in-None.is

pub loop-i-preserved : goal.loop-i-preserved
loop-i-preserved c =
    let u = c.loop-i.invariant in
    let x = c.index-steps-i.result in
    let within = there c.args.schema.now.columns c.args.steps.now c.args.form c.args.places.now c.loop-i.i x c.loop-i.carried c.loop-i-test.true c.index-steps-i.is u in
    placed_on c.args.schema.now.columns c.args.steps.now c.args.form c.args.places.now c.loop-i.i x c.loop-i.carried c.loop-i-test.true c.index-steps-i.is u _ c.in_ok-next.field-0 c.in-Some.next (same_at c.args.places.now c.loop-i.i 0 _ within) c.in_ok-next.ensures c.in-Some.is
