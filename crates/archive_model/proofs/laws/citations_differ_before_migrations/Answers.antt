use Rattle.archive_model.proofs.Differing.{differ_before}
use Rattle.archive_model.proofs.laws.citations_differ_before_migrations.Goals as goal

pub returns : goal.returns
returns c = differ_before
