use Rattle.migration.proofs.AtPlaces.{rows_at_places}
use Rattle.migration.proofs.laws.rows_are_carried_at_places.Goals as goal

pub returns : goal.returns
returns c = rows_at_places
