use Rattle.archive_model.proofs.Sound.{citations_resolve}
use Rattle.archive_model.proofs.laws.citations_resolve.Goals as goal

pub returns : goal.returns
returns c = citations_resolve
