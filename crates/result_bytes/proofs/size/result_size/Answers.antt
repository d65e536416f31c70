use Rattle.std.proofs.Common.{◌≤◌, ◌^◌, length, arith}
use Rattle.cite_schema.specs.Layout.{laid_out}
use Rattle.result_bytes.proofs.Sizes.{if_none, more-laid_out-size}
use Rattle.result_bytes.proofs.size.result_size.Goals as goal

pub returns-in_err-size-2-clause-none : goal.returns-in_err-size-2-clause-none
returns-in_err-size-2-clause-none c =
    let over : 2 ^ 64 ≤ length (laid_out c.args.items.now c.args.rows.now) =
    omega (arith, c.in_err-size-2.ensures.none, more-laid_out-size c.args.items.now c.args.rows.now c.loop-row.row-index c.row-item.result c.loop-row-test.true c.row-item.is) in
    if_none _ over
