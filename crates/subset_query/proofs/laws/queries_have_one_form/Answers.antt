use Rattle.subset_query.proofs.Central.{one_form_each}
use Rattle.subset_query.proofs.laws.queries_have_one_form.Goals as goal

pub returns : goal.returns
returns c = one_form_each
