-- Two rearrangements that rise weakly under an exact order are one.
use Rattle.std.proofs.Common.{◌≡◌, ℕ, ◌+◌, ◌≤◌, false, cond, List, [], ◌∷◌, refl, sym, ap, ◌∙◌, subst, arith}
use Rattle.std.specs.List.{AllByRecursion}
use Rattle.std.specs.Cmp.{IsTotalOrder}
use Rattle.std.specs.Ordering.{ordering_reverse, is_eq, is_gt}
use Rattle.std.specs.declared.cmp.Ordering.{Ordering}
use Rattle.std.specs.declared.cmp.Ordering.TheVariants.{Less, Equal, Greater}

-- the sum of f over the list
abbrev pub weigh : {K : Type 0} → (K → ℕ) → List K → ℕ
weigh f [] = 0
weigh f (x ∷ xs) = f x + weigh f xs

at_least : (a b : ℕ) → a ≡ 1 → 1 ≤ a + b
at_least a b e = omega arith

none_some : (a : ℕ) → 0 ≡ 1 + a → ⊥
none_some a e = omega arith

clash_sums : (s a t u : ℕ) → 1 ≤ s → a ≡ 0 → t ≡ 0 → s ≡ a + t → ⊥
clash_sums s a t u h k l e = omega arith

module _ {K : Type 0} (R : K → K → Ordering) (total : IsTotalOrder R) (exact : (x y : K) → R x y ≡ Equal → x ≡ y) where
  -- nothing later is below an element
  abbrev pub NoneBelow : K → List K → Type 0
  NoneBelow x ys = AllByRecursion (λ y. is_gt (R x y) ≡ false) ys

  abbrev pub RisesWeakly : List K → Type 0
  RisesWeakly [] = Unit {0}
  RisesWeakly (x ∷ xs) = NoneBelow x xs × RisesWeakly xs

  -- the lists have the same elements, each as often
  abbrev pub SameSums : List K → List K → Type 0
  SameSums xs ys = (f : K → ℕ) → weigh f xs ≡ weigh f ys

  mark : K → K → ℕ
  mark x k = cond (is_eq (R x k)) 1 0

  self_tied : (x : K) → R x x ≡ Equal
  self_tied x = by (R x x) (total.antisymm x x)
    where
      by : (o : Ordering) → o ≡ ordering_reverse o → o ≡ Equal
      by Less e = cc
      by Equal e = refl
      by Greater e = cc

  marked_once : (x : K) (xs : List K) → 1 ≤ weigh (mark x) (x ∷ xs)
  unfolding mark
  marked_once x xs = let e : cond (is_eq (R x x)) 1 0 ≡ 1 = ap (λ o. cond (is_eq o) 1 0) (self_tied x) in at_least _ _ e

  unmarked_one : (x y : K) → R x y ≡ Less → mark x y ≡ 0
  unfolding mark
  unmarked_one x y e = ap (λ o. cond (is_eq o) 1 0) e

  unmarked : (x y : K) (ys : List K) → R x y ≡ Less → NoneBelow y ys → weigh (mark x) ys ≡ 0
  unmarked x y [] l n = refl
  unmarked x y (z ∷ zs) l n = let h = unmarked_one x z (less_on (R y z) refl n.0) in let t = unmarked x y zs l n.1 in omega arith
    where
      less_on : (o : Ordering) → R y z ≡ o → is_gt o ≡ false → R x z ≡ Less
      less_on Less e g = total.trans x y z l e
      less_on Equal e g = subst (λ w. R x w ≡ Less) (exact y z e) l
      less_on Greater e g = cc

  no_less : (x y : K) (xs ys : List K) → SameSums (x ∷ xs) (y ∷ ys) → NoneBelow y ys → R x y ≡ Less → ⊥
  no_less x y xs ys same n l =
      let once = marked_once x xs in
      let head = unmarked_one x y l in
      let tail = unmarked x y ys l n in
      clash_sums _ _ _ 0 once head tail (same (mark x))

  pub one_rising : (xs ys : List K) → RisesWeakly xs → RisesWeakly ys → SameSums xs ys → xs ≡ ys
  one_rising [] [] h g same = refl
  one_rising [] (y ∷ ys) h g same = absurd (none_some _ (same (λ k. 1)))
  one_rising (x ∷ xs) [] h g same = absurd (none_some _ (sym (same (λ k. 1))))
  one_rising (x ∷ xs) (y ∷ ys) h g same =
      let one : x ≡ y = by (R x y) refl in
      let more : xs ≡ ys = one_rising xs ys h.1 g.1 (λ f. less_head (f x) (f y) (weigh f xs) (weigh f ys) (ap f one) (same f)) in
      λ i. one i ∷ more i
    where
      less_head : (a b s t : ℕ) → a ≡ b → a + s ≡ b + t → s ≡ t
      less_head a b s t e h = omega arith

      by : (o : Ordering) → R x y ≡ o → x ≡ y
      by Less e = absurd (no_less x y xs ys same g.0 e)
      by Equal e = exact x y e
      by Greater e = absurd (no_less y x ys xs (λ f. sym (same f)) h.0 (total.antisymm y x ∙ ap ordering_reverse e))
