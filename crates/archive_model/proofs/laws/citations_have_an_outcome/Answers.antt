use Rattle.archive_model.proofs.CitingDecided.{citations_have_an_outcome}
use Rattle.archive_model.proofs.laws.citations_have_an_outcome.Goals as goal

pub returns : goal.returns
returns c = citations_have_an_outcome
