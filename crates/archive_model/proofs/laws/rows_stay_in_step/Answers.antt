use Rattle.archive_model.proofs.InStep.{in_step}
use Rattle.archive_model.proofs.laws.rows_stay_in_step.Goals as goal

pub returns : goal.returns
returns c = in_step
