use Rattle.std.proofs.Common.{◌≤◌, ◌+◌, ◌^◌, ◌∙◌, ap, length, arith}
use Rattle.cite_schema.specs.Layout.{cells, line, shown}
use Rattle.result_bytes.proofs.Sizes.{all-line-size, if_none, more-line-size}
use Rattle.result_bytes.proofs.size.with_row.Goals as goal

pub returns-in_err-sum-clause-none : goal.returns-in_err-sum-clause-none
returns-in_err-sum-clause-none c =
    let over : 2 ^ 64 ≤ c.args.size + length (line (cells c.args.items.now c.args.row.now)) =
    omega (arith, rw c.shown_text.ensures at c.in_err-sum.ensures.none, more-line-size (λ item. shown item.what c.args.row.now) c.args.items.now c.loop-item.item-index c.item-item.result c.loop-item-test.true c.item-item.is) in
    if_none _ over

pub returns-clause-some : goal.returns-clause-some
returns-clause-some c =
    c.loop-item.invariant
    ∙ ap (λ n. c.args.size + n) (all-line-size (λ item. shown item.what c.args.row.now) c.args.items.now c.loop-item.item-index c.requires c.loop-item-test.false)
