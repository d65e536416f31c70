use Rattle.archive_core.proofs.OneHistory.{one_history}
use Rattle.archive_core.proofs.laws.one_file_one_history.Goals as goal

pub returns : goal.returns
returns c = one_history
