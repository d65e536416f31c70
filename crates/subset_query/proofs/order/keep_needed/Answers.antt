use Rattle.std.proofs.Common.{◌∙◌, drop}
use Rattle.subset_query.specs.Forms.{printed_columns}
use Rattle.subset_query.proofs.Shortened.{enough}
use Rattle.subset_query.proofs.order.keep_needed.Goals as goal

pub returns-then-is_enough-clause-kept : goal.returns-then-is_enough-clause-kept
returns-then-is_enough-clause-kept c =
    enough c.args.fixed.now (printed_columns c.args.items.now) _ (drop c.loop-at.at c.loop-at.order) c.if-is_enough.ensures ∙ c.loop-at.invariant.kept
