use Rattle.shared_pages.specs.declared.edit.Edit.TheVariants.{Put}
use Rattle.archive_state.proofs.UsedNumbers.{one_edit}
use Rattle.archive_state.proofs.present.Present.with_version.Goals as goal

pub edit-requires : goal.edit-requires
edit-requires c = one_edit (Put c.args.used)
