use Rattle.std.proofs.Common.{◌≢◌, length, ◌∙◌, arith}
use Rattle.std.proofs.lemmas.Bool.Decides.{nat_tests}
use Rattle.versioned_rows.proofs.Ready.{wide_lightly}
use Rattle.versioned_rows.proofs.tests.mapping.widened.Goals as goal

pub returns : goal.returns
returns c =
    let some : length c.args.row.now ≢ 0 = grind (arith, nat_tests) in
    wide_lightly c.args.row.now c.in_ok-values.values c.make.result _ some c.in_ok-values.ensures (c.make.ensures ∙ c.in_ok-push.ensures.ok)
