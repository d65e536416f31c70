use Rattle.std.proofs.Common.{sym}
use Rattle.subset_query.proofs.Choosing.{in_other_width}
use Rattle.subset_query.proofs.choose.are_in_sets.Goals as goal

pub returns-then-sets-values : goal.returns-then-sets-values
returns-then-sets-values c = sym (in_other_width c.args.sets.now c.args.values.now c.if-sets-values.true)
