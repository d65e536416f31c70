use Rattle.cite_schema.proofs.WellNamed.{schemas_are_well_named}
use Rattle.cite_schema.proofs.laws.schemas_are_well_named.Goals as goal

pub returns : goal.returns
returns c = schemas_are_well_named
