-- Orders of columns are total, and a sorted list of rows that differ in column 0 rises.
use Rattle.std.proofs.lemmas.List.{append-nil}
use Rattle.std.proofs.Common.{◌≡◌, ◌≢◌, ℕ, zero, suc, ◌++◌, take, drop, ◌+◌, Bool, true, false, cond, List, [], ◌∷◌, length, get_or, refl, sym, ap, ◌∙◌, subst, arith, IsPermutation, IsSortedBy}
use Rattle.std.specs.Cmp.{IsStrictWeakOrder, IsTotalOrder}
use Rattle.std.specs.Ordering.{ordering_then, ordering_reverse, is_lt}
use Rattle.std.specs.declared.cmp.Ordering.{Ordering}
use Rattle.std.specs.declared.cmp.Ordering.TheVariants.{Less, Equal, Greater}
use Rattle.std.proofs.lemmas.Cmp.{then_total}
use Rattle.std.proofs.lemmas.List.Elements.{All-from_recursion}
use Rattle.std.proofs.lemmas.List.Kept.{AllPairs-cons}
use Rattle.std.proofs.lemmas.List.Sorted.{ranks_by, IsPermutation-sym, IsPermutation-trans}
use Rattle.cite_schema.proofs.Orders.{reverse_total}
use Rattle.cite_schema.proofs.Rising.{Rises, Differ, and_true, differ_from_rises, one_rearrangement}
use Rattle.cite_schema.proofs.Arranging.{arranged, arranged_moves, arranged_rises}
use Rattle.cite_schema.specs.declared.item.Dir.{Dir}
use Rattle.cite_schema.specs.Answers.{order_cmp}
use Rattle.cite_schema.specs.declared.value.Value.{Value}
use Rattle.stable_order.specs.Rows.{by_order, ToldApart, at_column}

module _ {X : Type 0} (at : X → X → ℕ → Ordering) (total : (c : ℕ) → IsTotalOrder (λ r t. at r t c)) where
  directed_total : (d : Dir) → IsTotalOrder (λ r t. cond d.down (ordering_reverse (at r t d.column)) (at r t d.column))
  directed_total d = by d.down
    where
      by : (b : Bool) → IsTotalOrder (λ r t. cond b (ordering_reverse (at r t d.column)) (at r t d.column))
      by true = reverse_total (λ r t. at r t d.column) (total d.column)
      by false = total d.column

  pub order_total : (order : List Dir) → IsTotalOrder (by_order at order)
  order_total [] = total 0
  order_total (d ∷ ds) = then_total (directed_total d) (order_total ds)

  pub weak : (order : List Dir) → IsStrictWeakOrder (λ a b. is_lt (by_order at order a b))
  weak order = ranks_by (order_total order) (λ x. x)

  second : (a b : Ordering) → ordering_then a b ≡ Equal → b ≡ Equal
  second Less b h = cc
  second Equal b h = h
  second Greater b h = cc

  -- rows that are equal in the order are equal in column 0
  tied : (order : List Dir) (r t : X) → by_order at order r t ≡ Equal → at r t 0 ≡ Equal
  tied [] r t e = e
  tied (d ∷ ds) r t e = tied ds r t (second (cond d.down (ordering_reverse (at r t d.column)) (at r t d.column)) (by_order at ds r t) e)

  differ : (rows : List X) → ToldApart at rows → Differ (λ r t. at r t 0) (total 0) rows
  differ [] h = λ i j d lt le. absurd (omega arith)
  differ (r ∷ rs) h = AllPairs-cons (λ r t. at r t 0 ≢ Equal) r rs (All-from_recursion (λ t. at r t 0 ≢ Equal) rs h.0) (differ rs h.1)

  -- a rearrangement of rows that differ in column 0 has rows that do
  moved_differ : (rows xs : List X) → IsPermutation rows xs → ToldApart at rows → Differ (λ r t. at r t 0) (total 0) xs
  moved_differ rows xs p h =
      let key : X → X → Ordering = λ r t. at r t 0 in
      let up = arranged key (total 0) rows in
      differ_from_rises key (total 0) xs up (IsPermutation-trans xs rows up (IsPermutation-sym rows xs p) (arranged_moves key (total 0) rows)) (arranged_rises key (total 0) rows (differ rows h))

  shift : (k : ℕ) → suc k + 1 ≡ suc (k + 1)
  shift k = omega arith

  rising : (order : List Dir) (xs : List X) → IsSortedBy (λ a b. is_lt (by_order at order a b)) xs → Differ (λ r t. at r t 0) (total 0) xs → Rises (by_order at order) xs
  rising order [] s d = refl
  rising order (x ∷ []) s d = refl
  rising order (x ∷ y ∷ ys) s d = and_true _ _ (by (by_order at order x y) refl) (rising order (y ∷ ys) (λ k e l m. subst (λ n. is_lt (by_order at order (get_or (x ∷ y ∷ ys) n e) (get_or (y ∷ ys) k e)) ≡ false) (shift k) (s (suc k) e (omega arith) (omega arith))) (λ i j e l m. d (suc i) (suc j) e (omega arith) (omega arith)))
    where
      by : (o : Ordering) → by_order at order x y ≡ o → is_lt (by_order at order x y) ≡ true
      by Less e = ap is_lt e
      by Equal e = absurd (d 0 1 x (omega arith) (omega arith) (tied order x y e))
      by Greater e = let less : by_order at order y x ≡ Less = (order_total order).antisymm y x ∙ ap ordering_reverse e in
          let clash : true ≡ false = sym (ap is_lt less) ∙ s 0 x (omega arith) (omega arith) in cc

  -- what the sort gives rises
  pub sorted_rises : (order : List Dir) (rows xs : List X) → ToldApart at rows → IsPermutation rows xs → IsSortedBy (λ a b. is_lt (by_order at order a b)) xs → Rises (by_order at order) xs
  sorted_rises order rows xs h p s = rising order xs s (moved_differ rows xs p h)

  pub one_only : (order : List Dir) (rows xs ys : List X) → IsPermutation rows xs → IsPermutation rows ys → Rises (by_order at order) xs → Rises (by_order at order) ys → xs ≡ ys
  one_only order rows xs ys p q u v = one_rearrangement (by_order at order) (order_total order) rows xs ys p q u v

taken : {X : Type 0} (xs : List X) (n : ℕ) → n ≡ length xs → take n xs ≡ xs
taken [] zero e = refl
taken [] (suc n) e = absurd (omega arith)
taken (x ∷ xs) zero e = absurd (omega arith)
taken (x ∷ xs) (suc n) e = ap (λ l. x ∷ l) (taken xs n (omega arith))

dropped : {X : Type 0} (ys : List X) (n : ℕ) → n ≡ length ys → drop n ys ≡ []
dropped [] zero e = refl
dropped [] (suc n) e = refl
dropped (y ∷ ys) zero e = absurd (omega arith)
dropped (y ∷ ys) (suc n) e = dropped ys n (omega arith)

-- what a vector holds once a slice of all its elements was written
pub written_back : {X : Type 0} (xs ys : List X) (n : ℕ) → length xs ≡ length ys → n ≡ length ys → take n (xs ++ drop (length xs) ys) ≡ xs
written_back xs ys n e f = ap (λ l. take n (xs ++ l)) (dropped ys (length xs) e) ∙ ap (take n) (append-nil xs) ∙ taken xs n (f ∙ sym e)

-- on rows of tables it is the order of answers
pub by_order-rows : (order : List Dir) (r t : List Value) → by_order at_column order r t ≡ order_cmp order r t
by_order-rows [] r t = refl
by_order-rows (d ∷ ds) r t = ap (ordering_then (cond d.down (ordering_reverse (at_column r t d.column)) (at_column r t d.column))) (by_order-rows ds r t)

is_same : (order : List Dir) → by_order at_column order ≡ order_cmp order
is_same order = λ i r t. by_order-rows order r t i

-- rows that rise in the one rise in the other
pub rows_rise : (order : List Dir) (rows : List (List Value)) → Rises (by_order at_column order) rows → Rises (order_cmp order) rows
rows_rise order rows h = subst (λ R. Rises R rows) (is_same order) h
