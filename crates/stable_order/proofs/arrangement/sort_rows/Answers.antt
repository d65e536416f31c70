use Rattle.std.proofs.Common.{rules}
use Rattle.std.specs.Ordering.{is_lt}
use Rattle.std.proofs.lemmas.Fn.{always_returns_same}
use Rattle.stable_order.specs.Rows.{by_order}
use Rattle.stable_order.proofs.Arranged.{weak}
use Rattle.stable_order.proofs.arrangement.sort_rows.Goals as goal

pub returns-clause-sorted : goal.returns-clause-sorted
returns-clause-sorted g c = c.in_ok-sort_by.ensures.sorted (λ a b. is_lt (by_order g.R.Keyed.at c.args.order.now a b)) (weak g.R.Keyed.at g.met.R.Keyed.comparison c.args.order.now) (always_returns_same _ _ _ (λ a r f' h. search rules))
