use Rattle.std.proofs.Common.{◌+◌, drop, ap, arith}
use Rattle.std.proofs.lemmas.List.{drop_all}
use Rattle.std.proofs.lemmas.Bool.Decides.{nat_tests}
use Rattle.versioned_rows.specs.Weights.{row_weight}
use Rattle.versioned_rows.proofs.Sums.{capped_end}
use Rattle.versioned_rows.proofs.weight.heavier.Goals as goal

pub returns : goal.returns
returns c =
    capped_end c.loop-value.sum (row_weight (drop c.loop-value.value-index c.as_slice-value-items.result.now)) (c.args.weight + row_weight c.args.row.now)
    (ap row_weight (drop_all c.loop-value.value-index c.as_slice-value-items.result.now (let t = c.loop-value-test.false in grind (arith, nat_tests)))) c.loop-value.invariant.1 c.loop-value.invariant.0
