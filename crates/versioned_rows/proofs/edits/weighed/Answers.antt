use Rattle.std.proofs.Common.{◌+◌, drop, ap, arith}
use Rattle.std.proofs.lemmas.List.{drop_all}
use Rattle.std.proofs.lemmas.Bool.Decides.{nat_tests}
use Rattle.cite_schema.specs.Lines.{brought}
use Rattle.versioned_rows.specs.Weights.{rows_weight}
use Rattle.versioned_rows.proofs.Sums.{capped_end}
use Rattle.versioned_rows.proofs.edits.weighed.Goals as goal

pub returns : goal.returns
returns c =
    capped_end c.loop-line.sum (rows_weight (brought (drop c.loop-line.line-index c.args.lines.now))) (c.args.weight + rows_weight (brought c.args.lines.now))
    (ap (λ l. rows_weight (brought l)) (drop_all c.loop-line.line-index c.args.lines.now (let t = c.loop-line-test.false in grind (arith, nat_tests)))) c.loop-line.invariant.1 c.loop-line.invariant.0
