use Rattle.archive_model.proofs.Growing.{all_grow}
use Rattle.archive_model.proofs.laws.histories_grow_by_entries.Goals as goal

pub returns : goal.returns
returns c = all_grow
