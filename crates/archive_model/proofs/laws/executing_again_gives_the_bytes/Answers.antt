use Rattle.archive_model.proofs.InStep.{executing_again}
use Rattle.archive_model.proofs.laws.executing_again_gives_the_bytes.Goals as goal

pub returns : goal.returns
returns c = executing_again
