use Rattle.archive_model.proofs.OneOutcome.{both}
use Rattle.archive_model.proofs.laws.steps_have_one_outcome.Goals as goal

pub returns : goal.returns
returns c = both
