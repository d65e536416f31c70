use Rattle.archive_state.proofs.UsedNumbers.{no_edit}
use Rattle.archive_state.proofs.present.Present.with_citation.Goals as goal

pub edit-requires : goal.edit-requires
edit-requires c = no_edit
