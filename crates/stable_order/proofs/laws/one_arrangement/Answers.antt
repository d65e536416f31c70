use Rattle.stable_order.proofs.Arranged.{one_only}
use Rattle.stable_order.proofs.laws.one_arrangement.Goals as goal

pub returns : goal.returns
returns g c = λ order rows xs ys p q u v. one_only g.R.Keyed.at g.met.R.Keyed.comparison order rows xs ys p q u v
