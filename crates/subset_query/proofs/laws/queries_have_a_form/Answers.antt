use Rattle.subset_query.proofs.Existing.{has_form}
use Rattle.subset_query.proofs.laws.queries_have_a_form.Goals as goal

pub returns : goal.returns
returns c = has_form
