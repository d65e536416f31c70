use Rattle.archive_model.proofs.MovingDecided.{migrations_have_an_outcome}
use Rattle.archive_model.proofs.laws.migrations_have_an_outcome.Goals as goal

pub returns : goal.returns
returns c = migrations_have_an_outcome
