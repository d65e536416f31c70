use Rattle.subset_query.proofs.Central.{canonical}
use Rattle.subset_query.proofs.laws.settled_forms_are_canonical.Goals as goal

pub returns : goal.returns
returns c = canonical
