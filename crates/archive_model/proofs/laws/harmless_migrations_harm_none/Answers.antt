use Rattle.archive_model.proofs.HarmlessMigrations.{harm_none}
use Rattle.archive_model.proofs.laws.harmless_migrations_harm_none.Goals as goal

pub returns : goal.returns
returns c = harm_none
