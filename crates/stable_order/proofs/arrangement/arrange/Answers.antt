use Rattle.std.proofs.Common.{◌≡◌, sym, ◌∙◌, subst, arith, IsPermutation, IsSortedBy}
use Rattle.std.specs.Ordering.{is_lt}
use Rattle.stable_order.specs.Rows.{by_order}
use Rattle.stable_order.proofs.Arranged.{sorted_rises, written_back}
use Rattle.stable_order.proofs.arrangement.arrange.Goals as goal

pub returns-clause-in_order : goal.returns-clause-in_order
returns-clause-in_order g c =
    let at = g.R.Keyed.at in
    let sorted = c.sort_rows.new.rows in
    let before : c.as_mut_slice.result.now ≡ c.args.rows = c.as_mut_slice.ensures.value ∙ c.into_vec-rows.ensures in
    let after : c.from_vec.result ≡ sorted = c.from_vec.ensures ∙ written_back sorted c.into_vec-rows.result.items c.into_vec-rows.result.len (omega arith) (omega arith) in
    let moved : IsPermutation c.args.rows c.from_vec.result = subst (λ l. IsPermutation l c.from_vec.result) before (subst (λ l. IsPermutation c.as_mut_slice.result.now l) (sym after) c.in_ok-sort_rows.ensures.moved) in
    let rising : IsSortedBy (λ a b. is_lt (by_order at c.as_slice.result.now a b)) c.from_vec.result = subst (λ l. IsSortedBy (λ a b. is_lt (by_order at c.as_slice.result.now a b)) l) (sym after) c.in_ok-sort_rows.ensures.sorted in
    sorted_rises at g.met.R.Keyed.comparison c.args.order.now c.args.rows c.from_vec.result c.requires moved
    (subst (λ o. IsSortedBy (λ a b. is_lt (by_order at o a b)) c.from_vec.result) c.as_slice.ensures rising)
