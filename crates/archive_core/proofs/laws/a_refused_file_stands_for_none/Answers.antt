use Rattle.archive_core.proofs.Spoilt.{no_archive_stands_for_none, spoilt_stands_for_none}
use Rattle.archive_core.proofs.laws.a_refused_file_stands_for_none.Goals as goal

pub returns : goal.returns
returns c = record { damaged = spoilt_stands_for_none; not_archive = no_archive_stands_for_none }
