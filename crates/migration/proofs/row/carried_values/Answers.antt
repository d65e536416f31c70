use Rattle.std.proofs.Common.{◌≤◌, length, drop, sym, ap, ◌∙◌, arith}
use Rattle.migration.specs.Rows.{row_at_all}
use Rattle.migration.proofs.Placed.{none_left}
use Rattle.migration.proofs.AtPlaces.{no_step}
use Rattle.migration.proofs.row.carried_values.Goals as goal

pub returns : goal.returns
returns c =
    let all : length c.args.steps.now ≤ c.loop-i.i = omega (arith, c.loop-i-test.false) in
    sym (ap (λ xs. row_at_all (drop c.loop-i.i c.args.places.now) xs c.loop-i.carried) (none_left c.args.steps.now c.loop-i.i all) ∙ no_step _ _) ∙ c.loop-i.invariant
