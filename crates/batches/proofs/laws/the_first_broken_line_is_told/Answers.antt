use Rattle.batches.proofs.WholeBodies.{first_broken_is_told}
use Rattle.batches.proofs.laws.the_first_broken_line_is_told.Goals as goal

pub returns : goal.returns
returns c = first_broken_is_told
