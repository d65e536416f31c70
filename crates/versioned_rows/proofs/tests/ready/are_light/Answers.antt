use Rattle.std.proofs.Common.{◌+◌, ◌-◌, ◌^◌, ◌<◌, min, ap, ◌∙◌, arith}
use Rattle.std.proofs.lemmas.Bool.Decides.{nat_tests}
use Rattle.cite_schema.specs.Lines.{brought}
use Rattle.versioned_rows.specs.Weights.{rows_weight}
use Rattle.versioned_rows.proofs.Ready.{light_rows}
use Rattle.versioned_rows.proofs.tests.ready.are_light.Goals as goal

pub returns : goal.returns
returns c = λ t.
    let l : c.weighed.result < 2 ^ 64 - 1 = grind (arith, nat_tests) in
    light_rows c.args.rows.now c.weight.result c.weighed.result c.args.lines.now c.weight.ensures
    (c.weighed.ensures ∙ ap (λ ls. min (c.weight.result + rows_weight (brought ls)) (2 ^ 64 - 1)) c.as_slice.ensures) l
