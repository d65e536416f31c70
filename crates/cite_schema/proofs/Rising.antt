-- Lists that rise by a total order: neighbour by neighbour, each element before all later ones, filtered, and told by their elements alone.
use Rattle.std.proofs.Common.{◌≡◌, ◌≢◌, ℕ, ◌+◌, ◌≤◌, Bool, true, false, cond, ◌&&◌, ◌⊎◌, inl, inr, List, [], ◌∷◌, refl, sym, ap, ◌∙◌, subst, arith, filter, IsPermutation}
use Rattle.std.specs.List.{AllByRecursion, AllPairs, sum_by}
use Rattle.std.specs.List.Sorted.{IsStrictlySortedBy}
use Rattle.std.specs.Cmp.{IsTotalOrder}
use Rattle.std.specs.Ordering.{ordering_reverse, is_lt, is_eq}
use Rattle.std.specs.declared.cmp.Ordering.{Ordering}
use Rattle.std.specs.declared.cmp.Ordering.TheVariants.{Less, Equal, Greater}
use Rattle.std.proofs.lemmas.Cmp.{tied_itself}
use Rattle.std.proofs.lemmas.List.Elements.{recursion_from_All, All-from_recursion}
use Rattle.std.proofs.lemmas.List.Kept.{AllPairs-cons, IsStrictlySortedBy-filter}
use Rattle.std.proofs.lemmas.List.Sorted.{All-permutation, sum_by-IsPermutation, IsPermutation-sym, IsPermutation-trans}
use Rattle.std.proofs.lemmas.List.Sums.{sum_by-cons}
use Rattle.cite_schema.specs.Tables.{rises}

pub and_first : (a b : Bool) → (a && b) ≡ true → a ≡ true
and_first true b e = refl
and_first false b e = e

pub and_second : (a b : Bool) → (a && b) ≡ true → b ≡ true
and_second true b e = e
and_second false b e = cc

pub and_true : (a b : Bool) → a ≡ true → b ≡ true → (a && b) ≡ true
and_true true b d e = e
and_true false b d e = d

was_less : (o : Ordering) → is_lt o ≡ true → o ≡ Less
was_less Less e = refl
was_less Equal e = cc
was_less Greater e = cc

-- neighbours in the order of R
abbrev pub Rises : {X : Type 0} → (X → X → Ordering) → List X → Type 0
Rises R xs = rises (λ x y. is_lt (R x y)) xs ≡ true

-- x is an element
abbrev pub In : {X : Type 0} → X → List X → Type 0
In x [] = ⊥
In x (y ∷ ys) = (x ≡ y) ⊎ In x ys

pub all_in : {X : Type 0} (xs : List X) → AllByRecursion (λ x. In x xs) xs
all_in [] = tt
all_in {X} (x ∷ xs) = (inl refl, later xs (all_in xs))
  where
    later : (ys : List X) → AllByRecursion (λ y. In y xs) ys → AllByRecursion (λ y. In y (x ∷ xs)) ys
    later [] h = tt
    later (y ∷ ys) h = (inr h.0, later ys h.1)

-- what holds of each element holds of one
pub all_at : {X : Type 0} (P : X → Type 0) (x : X) (xs : List X) → AllByRecursion P xs → In x xs → P x
all_at P x [] h i = absurd i
all_at P x (y ∷ ys) h (inl e) = subst P (sym e) h.0
all_at P x (y ∷ ys) h (inr i) = all_at P x ys h.1 i

-- the elements of a rearrangement are elements
pub moved_in : {X : Type 0} (xs ys : List X) → IsPermutation xs ys → AllByRecursion (λ y. In y xs) ys
moved_in {X} xs ys p = recursion_from_All (λ (y : X). In y xs) ys (All-permutation (λ (y : X). In y xs) xs ys p (All-from_recursion (λ (y : X). In y xs) xs (all_in xs)))

module _ {X : Type 0} (R : X → X → Ordering) (total : IsTotalOrder R) where
  -- what comes after y comes after each x before y
  pub below_all : (x y : X) (ys : List X) → R x y ≡ Less → AllByRecursion (λ z. R y z ≡ Less) ys → AllByRecursion (λ z. R x z ≡ Less) ys
  below_all x y [] l h = tt
  below_all x y (z ∷ zs) l h = (total.trans x y z l h.0, below_all x y zs l h.1)

  -- where neighbours rise, each element comes before all later ones
  pub sorted_from_rises : (xs : List X) → Rises R xs → IsStrictlySortedBy R xs
  unfolding IsStrictlySortedBy
  sorted_from_rises [] u = tt
  sorted_from_rises (x ∷ []) u = (tt, tt)
  sorted_from_rises (x ∷ y ∷ ys) u =
      let more = sorted_from_rises (y ∷ ys) (and_second _ _ u) in
      let here = was_less _ (and_first _ _ u) in
      ((here, below_all x y ys here more.0), more)

  -- where each element comes before all later ones, neighbours rise
  pub rises_from_sorted : (xs : List X) → IsStrictlySortedBy R xs → Rises R xs
  unfolding IsStrictlySortedBy
  rises_from_sorted [] h = refl
  rises_from_sorted (x ∷ []) h = refl
  rises_from_sorted (x ∷ y ∷ ys) h = and_true _ _ (ap is_lt h.0.0) (rises_from_sorted (y ∷ ys) h.1)

  -- what a filter keeps of a list that rises, rises
  pub rises_filter : (p : X → Bool) (xs : List X) → Rises R xs → Rises R (filter p xs)
  rises_filter p xs u = rises_from_sorted (filter p xs) (IsStrictlySortedBy-filter R p xs (sorted_from_rises xs u))

  never_both : (x y : X) → R x y ≡ Less → R y x ≡ Less → ⊥
  never_both x y l m = let turned : R x y ≡ Greater = total.antisymm x y ∙ ap ordering_reverse m in absurd (cc)

  one_first : (x y : X) (xs ys : List X) → IsStrictlySortedBy R (x ∷ xs) → IsStrictlySortedBy R (y ∷ ys) → In x (y ∷ ys) → In y (x ∷ xs) → x ≡ y
  unfolding IsStrictlySortedBy
  one_first x y xs ys h k (inl e) j = e
  one_first x y xs ys h k (inr i) (inl e) = sym e
  one_first x y xs ys h k (inr i) (inr j) = absurd (never_both x y (all_at (λ z. R x z ≡ Less) y xs h.0 j) (all_at (λ z. R y z ≡ Less) x ys k.0 i))

  -- an element behind the first is behind it in the other list
  behind : (x y : X) (xs ys : List X) → x ≡ y → AllByRecursion (λ z. R x z ≡ Less) xs → AllByRecursion (λ z. In z (y ∷ ys)) xs → AllByRecursion (λ z. In z ys) xs
  behind x y [] ys e below h = tt
  behind x y (z ∷ zs) ys e below h = (by h.0, behind x y zs ys e below.1 h.1)
    where
      by : In z (y ∷ ys) → In z ys
      by (inl f) = let less : R x x ≡ Less = subst (λ w. R x w ≡ Less) (f ∙ sym e) below.0 in absurd (never_both x x less less)
      by (inr i) = i

  -- two lists that rise and have the same elements are one
  pub one_sorted : (xs ys : List X) → IsStrictlySortedBy R xs → IsStrictlySortedBy R ys → AllByRecursion (λ x. In x ys) xs → AllByRecursion (λ y. In y xs) ys → xs ≡ ys
  unfolding IsStrictlySortedBy
  one_sorted [] [] h k i j = refl
  one_sorted [] (y ∷ ys) h k i j = absurd j.0
  one_sorted (x ∷ xs) [] h k i j = absurd i.0
  one_sorted (x ∷ xs) (y ∷ ys) h k i j =
      let first : x ≡ y = one_first x y xs ys h k i.0 j.0 in
      let more : xs ≡ ys = one_sorted xs ys h.1 k.1 (behind x y xs ys first h.0 i.1) (behind y x ys xs (sym first) k.0 j.1) in
      ap (λ w. w ∷ xs) first ∙ ap (λ ws. y ∷ ws) more

  -- two rearrangements of one list that both rise are one
  pub one_rearrangement : (rows xs ys : List X) → IsPermutation rows xs → IsPermutation rows ys → Rises R xs → Rises R ys → xs ≡ ys
  one_rearrangement rows xs ys p q u v =
      one_sorted xs ys (sorted_from_rises xs u) (sorted_from_rises ys v)
      (moved_in ys xs (IsPermutation-trans ys rows xs (IsPermutation-sym rows ys q) p))
      (moved_in xs ys (IsPermutation-trans xs rows ys (IsPermutation-sym rows xs p) q))

  -- no two elements are equal in the order
  abbrev pub Differ : List X → Type 0
  Differ xs = AllPairs (λ x y. R x y ≢ Equal) xs

  mark : X → X → ℕ
  mark x y = cond (is_eq (R x y)) 1 0

  marked : (x y : X) → R x y ≡ Equal → mark x y ≡ 1
  unfolding mark
  marked x y e = ap (λ o. cond (is_eq o) 1 0) e

  unmarked : (x y : X) → is_eq (R x y) ≡ false → mark x y ≡ 0
  unfolding mark
  unmarked x y e = ap (λ b. cond b 1 0) e

  -- how many elements are equal to x in the order
  count : X → List X → ℕ
  count x xs = sum_by (mark x) xs

  count_none : (x : X) → count x [] ≡ 0
  unfolding count
  count_none x = refl

  count_one : (x y : X) (ys : List X) → count x (y ∷ ys) ≡ mark x y + count x ys
  unfolding count
  count_one x y ys = sum_by-cons (mark x) y ys

  none_counted : (x : X) (ys : List X) → AllByRecursion (λ z. R x z ≡ Less) ys → count x ys ≡ 0
  none_counted x [] h = count_none x
  none_counted x (y ∷ ys) h = let here = unmarked x y (ap is_eq h.0) in let more = none_counted x ys h.1 in let both = count_one x y ys in omega arith

  all_below_tied : (x y : X) (ys : List X) → R x y ≡ Equal → AllByRecursion (λ z. R y z ≡ Less) ys → AllByRecursion (λ z. R x z ≡ Less) ys
  all_below_tied x y [] e h = tt
  all_below_tied x y (z ∷ zs) e h = (total.congr x y z e ∙ h.0, all_below_tied x y zs e h.1)

  counted_first : (x y : X) (ys : List X) (o : Ordering) → R x y ≡ o → AllByRecursion (λ z. R y z ≡ Less) ys → count x ys ≤ 1 → count x (y ∷ ys) ≤ 1
  counted_first x y ys Less e h most = let here = unmarked x y (ap is_eq e) in let both = count_one x y ys in omega arith
  counted_first x y ys Equal e h most = let here = marked x y e in let none = none_counted x ys (all_below_tied x y ys e h) in let both = count_one x y ys in omega arith
  counted_first x y ys Greater e h most = let here = unmarked x y (ap is_eq e) in let both = count_one x y ys in omega arith

  one_in_sorted : (x : X) (ys : List X) → IsStrictlySortedBy R ys → count x ys ≤ 1
  unfolding IsStrictlySortedBy
  one_in_sorted x [] h = let none = count_none x in omega arith
  one_in_sorted x (y ∷ ys) h = counted_first x y ys (R x y) refl h.0 (one_in_sorted x ys h.1)

  uncounted : (x : X) (ys : List X) → count x ys ≡ 0 → AllByRecursion (λ y. R x y ≢ Equal) ys
  uncounted x [] n = tt
  uncounted x (y ∷ ys) n =
      let both = count_one x y ys in
      (λ e. let here = marked x y e in absurd (omega arith), uncounted x ys (omega arith))

  no_more : (x : X) (xs : List X) → count x (x ∷ xs) ≤ 1 → count x xs ≡ 0
  no_more x xs most = let here = marked x x (tied_itself total x) in let both = count_one x x xs in omega arith

  fewer : (x y : X) (xs : List X) → count y (x ∷ xs) ≤ 1 → count y xs ≤ 1
  fewer x y xs most = let both = count_one y x xs in omega arith

  differ_by_count : (xs : List X) → ((x : X) → count x xs ≤ 1) → Differ xs
  differ_by_count [] h = λ i j d lt le. absurd (omega arith)
  differ_by_count (x ∷ xs) h =
      AllPairs-cons (λ y z. R y z ≢ Equal) x xs (All-from_recursion (λ y. R x y ≢ Equal) xs (uncounted x xs (no_more x xs (h x))))
      (differ_by_count xs (λ y. fewer x y xs (h y)))

  same_count : (x : X) (rows xs : List X) → IsPermutation rows xs → count x xs ≡ count x rows
  unfolding count
  same_count x rows xs p = sum_by-IsPermutation (mark x) rows xs p

  -- a list with a rearrangement that rises has no two equal elements
  pub differ_from_rises : (rows xs : List X) → IsPermutation rows xs → Rises R xs → Differ rows
  differ_from_rises rows xs p u = differ_by_count rows (λ x. let same = same_count x rows xs p in let most = one_in_sorted x xs (sorted_from_rises xs u) in omega arith)
