use Rattle.subset_query.proofs.Prints.{prints_tell_forms_apart}
use Rattle.subset_query.proofs.laws.prints_tell_forms_apart.Goals as goal

pub returns : goal.returns
returns c = prints_tell_forms_apart
