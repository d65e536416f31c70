use Rattle.std.proofs.Common.{◌≤◌, ◌^◌, ◌∙◌, length, arith}
use Rattle.cite_schema.specs.Layout.{labels, line}
use Rattle.result_bytes.proofs.Sizes.{all-line-size, if_none, more-line-size}
use Rattle.result_bytes.proofs.size.labels_size.Goals as goal

pub returns-in_err-size-clause-none : goal.returns-in_err-size-clause-none
returns-in_err-size-clause-none c =
    let over : 2 ^ 64 ≤ length (line (labels c.args.items.now)) =
    omega (arith, rw c.as_slice.ensures at c.in_err-size.ensures.none, more-line-size (λ item. item.label) c.args.items.now c.loop-item.item-index c.item-item.result c.loop-item-test.true c.item-item.is) in
    if_none _ over

pub returns-clause-some : goal.returns-clause-some
returns-clause-some c = c.loop-item.invariant ∙ all-line-size (λ item. item.label) c.args.items.now c.loop-item.item-index c.requires c.loop-item-test.false
