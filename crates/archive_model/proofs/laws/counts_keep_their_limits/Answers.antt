use Rattle.archive_model.proofs.Counted.{counts_keep_their_limits}
use Rattle.archive_model.proofs.laws.counts_keep_their_limits.Goals as goal

pub returns : goal.returns
returns c = counts_keep_their_limits
