use Rattle.archive_model.proofs.OneArchive.{leads_once}
use Rattle.archive_model.proofs.laws.a_history_leads_to_one_archive.Goals as goal

pub returns : goal.returns
returns c = leads_once
