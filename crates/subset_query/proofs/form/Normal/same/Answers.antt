use Rattle.std.proofs.Common.{subst}
use Rattle.cite_schema.specs.Answers.{Alike}
use Rattle.subset_query.specs.Forms.{formed}
use Rattle.subset_query.proofs.Central.{one_form}
use Rattle.subset_query.proofs.Alikes.{alike_self}
use Rattle.subset_query.proofs.form.Normal.same.Goals as goal

pub returns-clause-alike : goal.returns-clause-alike
returns-clause-alike c = λ s ha hb. (
  λ yes. subst (λ n. Alike s (formed c.args.self.now) (formed n)) (c.same_data.ensures.0 yes) (alike_self s (formed c.args.self.now)),
  λ alike. c.same_data.ensures.1 (one_form s c.args.self.now c.args.other.now ha hb alike),
)
