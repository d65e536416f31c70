use Rattle.std.proofs.Common.{◌≤◌, length, drop, sym, ap, ◌∙◌, arith}
use Rattle.migration.specs.Harmless.{printed_of}
use Rattle.migration.specs.Naming.{all_harmless_at}
use Rattle.migration.proofs.Placed.{none_left}
use Rattle.migration.proofs.AtPlaces.{no_step_left}
use Rattle.migration.proofs.harm.are_harmless.Goals as goal

pub returns : goal.returns
returns c =
    let all : length c.args.steps.now ≤ c.loop-i.i = omega (arith, c.loop-i-test.false) in
    sym (ap (λ xs. all_harmless_at (drop c.loop-i.i c.args.places.now) xs (printed_of c.args.normal.now)) (none_left c.args.steps.now c.loop-i.i all) ∙ no_step_left _ _) ∙ c.loop-i.invariant
