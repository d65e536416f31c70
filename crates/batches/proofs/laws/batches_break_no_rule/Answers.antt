use Rattle.batches.proofs.WholeBodies.{batches_break_none}
use Rattle.batches.proofs.laws.batches_break_no_rule.Goals as goal

pub returns : goal.returns
returns c = batches_break_none
