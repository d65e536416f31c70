-- A list without two equal elements has a rearrangement that rises.
use Rattle.std.proofs.Common.{◌≡◌, ◌≢◌, suc, Bool, true, false, cond, List, [], ◌∷◌, refl, ap, ◌∙◌, arith, filter, IsPermutation}
use Rattle.std.specs.List.{AllByRecursion}
use Rattle.std.specs.List.Sorted.{IsStrictlySortedBy}
use Rattle.std.specs.Cmp.{IsTotalOrder}
use Rattle.std.specs.Ordering.{ordering_reverse, is_lt}
use Rattle.std.specs.declared.cmp.Ordering.{Ordering}
use Rattle.std.specs.declared.cmp.Ordering.TheVariants.{Less, Equal, Greater}
use Rattle.std.proofs.lemmas.List.Elements.{recursion_from_All}
use Rattle.std.proofs.lemmas.List.Sorted.{IsPermutation-refl, IsPermutation-cons, IsPermutation-trans, IsPermutation-swap}
use Rattle.cite_schema.proofs.Rising.{Rises, Differ, below_all, rises_from_sorted}

module _ {X : Type 0} (R : X → X → Ordering) (total : IsTotalOrder R) where
  put_in : X → List X → List X
  put_in x [] = x ∷ []
  put_in x (y ∷ ys) = cond (is_lt (R x y)) (x ∷ y ∷ ys) (y ∷ put_in x ys)

  -- the elements, each put in at its place
  pub arranged : List X → List X
  arranged [] = []
  arranged (x ∷ xs) = put_in x (arranged xs)

  turn : (x y : X) (ys : List X) → IsPermutation (x ∷ y ∷ ys) (y ∷ x ∷ ys)
  turn x y ys = IsPermutation-swap (x ∷ y ∷ ys) (y ∷ x ∷ ys) 0 1 (omega arith) (omega arith) refl

  put_moves : (x : X) (ys : List X) → IsPermutation (x ∷ ys) (put_in x ys)
  unfolding put_in
  put_moves x [] = IsPermutation-refl (x ∷ [])
  put_moves x (y ∷ ys) = by (is_lt (R x y)) (IsPermutation-trans (x ∷ y ∷ ys) (y ∷ x ∷ ys) (y ∷ put_in x ys) (turn x y ys) (IsPermutation-cons y (x ∷ ys) (put_in x ys) (put_moves x ys)))
    where
      by : (b : Bool) → IsPermutation (x ∷ y ∷ ys) (y ∷ put_in x ys) → IsPermutation (x ∷ y ∷ ys) (cond b (x ∷ y ∷ ys) (y ∷ put_in x ys))
      by true m = IsPermutation-refl (x ∷ y ∷ ys)
      by false m = m

  pub arranged_moves : (xs : List X) → IsPermutation xs (arranged xs)
  unfolding arranged
  arranged_moves [] = IsPermutation-refl []
  arranged_moves (x ∷ xs) = IsPermutation-trans (x ∷ xs) (x ∷ arranged xs) (put_in x (arranged xs)) (IsPermutation-cons x xs (arranged xs) (arranged_moves xs)) (put_moves x (arranged xs))

  kept_turn : (p : X → Bool) (x y : X) (ys : List X) → IsPermutation (filter p (x ∷ y ∷ ys)) (filter p (y ∷ x ∷ ys))
  kept_turn p x y ys = by (p x) (p y)
    where
      by : (a b : Bool) → IsPermutation (cond a (x ∷ cond b (y ∷ filter p ys) (filter p ys)) (cond b (y ∷ filter p ys) (filter p ys))) (cond b (y ∷ cond a (x ∷ filter p ys) (filter p ys)) (cond a (x ∷ filter p ys) (filter p ys)))
      by true true = turn x y (filter p ys)
      by true false = IsPermutation-refl (x ∷ filter p ys)
      by false true = IsPermutation-refl (y ∷ filter p ys)
      by false false = IsPermutation-refl (filter p ys)

  kept_behind : (p : X → Bool) (x : X) (xs ys : List X) → IsPermutation (filter p xs) (filter p ys) → IsPermutation (filter p (x ∷ xs)) (filter p (x ∷ ys))
  kept_behind p x xs ys m = by (p x)
    where
      by : (b : Bool) → IsPermutation (cond b (x ∷ filter p xs) (filter p xs)) (cond b (x ∷ filter p ys) (filter p ys))
      by true = IsPermutation-cons x (filter p xs) (filter p ys) m
      by false = m

  put_keeps : (p : X → Bool) (x : X) (ys : List X) → IsPermutation (filter p (x ∷ ys)) (filter p (put_in x ys))
  unfolding put_in
  put_keeps p x [] = IsPermutation-refl (filter p (x ∷ []))
  put_keeps p x (y ∷ ys) = by (is_lt (R x y)) (kept_behind p y (x ∷ ys) (put_in x ys) (put_keeps p x ys))
    where
      by : (b : Bool) → IsPermutation (filter p (y ∷ x ∷ ys)) (filter p (y ∷ put_in x ys)) → IsPermutation (filter p (x ∷ y ∷ ys)) (filter p (cond b (x ∷ y ∷ ys) (y ∷ put_in x ys)))
      by true m = IsPermutation-refl (filter p (x ∷ y ∷ ys))
      by false m = IsPermutation-trans (filter p (x ∷ y ∷ ys)) (filter p (y ∷ x ∷ ys)) (filter p (y ∷ put_in x ys)) (kept_turn p x y ys) m

  -- of the rearrangement a test keeps the elements that it keeps of the list
  pub arranged_keeps : (p : X → Bool) (xs : List X) → IsPermutation (filter p xs) (filter p (arranged xs))
  unfolding arranged
  arranged_keeps p [] = IsPermutation-refl []
  arranged_keeps p (x ∷ xs) =
      IsPermutation-trans (filter p (x ∷ xs)) (filter p (x ∷ arranged xs)) (filter p (put_in x (arranged xs))) (kept_behind p x xs (arranged xs) (arranged_keeps p xs)) (put_keeps p x (arranged xs))

  all_put : (P : X → Type 0) (x : X) (ys : List X) → P x → AllByRecursion P ys → AllByRecursion P (put_in x ys)
  unfolding put_in
  all_put P x [] h k = (h, tt)
  all_put P x (y ∷ ys) h k = by (is_lt (R x y)) (all_put P x ys h k.1)
    where
      by : (b : Bool) → AllByRecursion P (put_in x ys) → AllByRecursion P (cond b (x ∷ y ∷ ys) (y ∷ put_in x ys))
      by true m = (h, k)
      by false m = (k.0, m)

  all_arranged : (P : X → Type 0) (xs : List X) → AllByRecursion P xs → AllByRecursion P (arranged xs)
  unfolding arranged
  all_arranged P [] h = tt
  all_arranged P (x ∷ xs) h = all_put P x (arranged xs) h.0 (all_arranged P xs h.1)

  put_sorted : (x : X) (ys : List X) → AllByRecursion (λ y. R x y ≢ Equal) ys → IsStrictlySortedBy R ys → IsStrictlySortedBy R (put_in x ys)
  unfolding put_in IsStrictlySortedBy
  put_sorted x [] n h = (tt, tt)
  put_sorted x (y ∷ ys) n h = by (R x y) refl (put_sorted x ys n.1 h.1)
    where
      by : (o : Ordering) → R x y ≡ o → IsStrictlySortedBy R (put_in x ys) → IsStrictlySortedBy R (cond (is_lt o) (x ∷ y ∷ ys) (y ∷ put_in x ys))
      by Less e more = ((e, below_all R total x y ys e h.0), h)
      by Equal e more = absurd (n.0 e)
      by Greater e more = (all_put (λ z. R y z ≡ Less) x ys (total.antisymm y x ∙ ap ordering_reverse e) h.0, more)

  AllDiffer : List X → Type 0
  AllDiffer [] = Unit {0}
  AllDiffer (x ∷ xs) = AllByRecursion (λ y. R x y ≢ Equal) xs × AllDiffer xs

  arranged_sorted : (xs : List X) → AllDiffer xs → IsStrictlySortedBy R (arranged xs)
  unfolding arranged AllDiffer IsStrictlySortedBy
  arranged_sorted [] d = tt
  arranged_sorted (x ∷ xs) d = put_sorted x (arranged xs) (all_arranged (λ y. R x y ≢ Equal) xs d.0) (arranged_sorted xs d.1)

  each_differs : (xs : List X) → Differ R total xs → AllDiffer xs
  unfolding AllDiffer
  each_differs [] d = tt
  each_differs (x ∷ xs) d =
      (recursion_from_All (λ y. R x y ≢ Equal) xs (λ k e lt. d 0 (suc k) e (omega arith) (omega arith)), each_differs xs (λ i j e lt le. d (suc i) (suc j) e (omega arith) (omega arith)))

  -- the rearrangement rises where no two elements are equal in the order
  pub arranged_rises : (xs : List X) → Differ R total xs → Rises R (arranged xs)
  arranged_rises xs d = rises_from_sorted R total (arranged xs) (arranged_sorted xs (each_differs xs d))
