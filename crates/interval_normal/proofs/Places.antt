-- Places in a list, and what stands from them on.
use Rattle.std.proofs.Common.{◌≡◌, ℕ, zero, suc, ◌+◌, ◌-◌, ◌<◌, ◌≤◌, List, [], ◌∷◌, length, take, drop, get_or, refl, sym, ap, ◌∙◌, arith, drop-cons, length-drop, Bool, true, false, ◌||◌}
use Rattle.std.specs.List.{list_any}
use Rattle.std.specs.declared.cmp.Ordering.{Ordering}
use Rattle.interval_normal.specs.declared.set.Span.{Span}
use Rattle.interval_normal.specs.Spans.{IsCanonical}
use Rattle.interval_normal.proofs.Order.{IsLine}
use Rattle.interval_normal.proofs.Unique.{rest}

one_more : (i : ℕ) → suc i ≡ i + 1
one_more i = omega arith

-- what stands from a place on is the element there and those behind it
pub split : {X : Type 0} (xs : List X) (i : ℕ) (x : X) → i < length xs → x ≡ get_or xs i x → drop i xs ≡ x ∷ drop (i + 1) xs
split xs i x lt is = drop-cons xs i x lt ∙ ap (λ y. y ∷ drop (suc i) xs) (sym is) ∙ ap (λ k. x ∷ drop k xs) (one_more i)

pub drop_past : {X : Type 0} (xs : List X) (i : ℕ) → length xs ≤ i → drop i xs ≡ []
drop_past [] zero h = refl
drop_past [] (suc i) h = refl
drop_past (x ∷ xs) zero h = absurd (omega arith)
drop_past (x ∷ xs) (suc i) h = drop_past xs i (omega arith)

-- a canonical list is canonical from each place on
pub drop_canonical : {P : Type 0} (valid : P → Type 0) (cmp : P → P → Ordering) (line : IsLine cmp) (xs : List (Span P)) (i : ℕ) → IsCanonical valid cmp xs → IsCanonical valid cmp (drop i xs)
drop_canonical valid cmp line xs zero c = c
drop_canonical valid cmp line [] (suc i) c = tt
drop_canonical valid cmp line (x ∷ xs) (suc i) c = drop_canonical valid cmp line xs i (rest valid cmp line x xs c)

all_of : {X : Type 0} (xs : List X) (n : ℕ) → length xs ≤ n → take n xs ≡ xs
all_of [] zero h = refl
all_of [] (suc n) h = refl
all_of (x ∷ xs) zero h = absurd (omega arith)
all_of (x ∷ xs) (suc n) h = ap (λ l. x ∷ l) (all_of xs n (omega arith))

-- all that stands from a place on
pub whole_rest : {X : Type 0} (xs : List X) (i : ℕ) → take (length xs - i) (drop i xs) ≡ drop i xs
whole_rest xs i = all_of (drop i xs) (length xs - i) (let e = length-drop i xs in omega arith)

-- a list of one element
pub sole : {X : Type 0} (xs : List X) (x : X) → 1 ≤ length xs → length xs < 2 → x ≡ get_or xs 0 x → xs ≡ x ∷ []
sole [] x l m is = absurd (omega arith)
sole (y ∷ []) x l m is = ap (λ z. z ∷ []) (sym is)
sole (y ∷ z ∷ zs) x l m is = absurd (omega arith)

-- what is in one of two halves
pub in_halves : {X : Type 0} (p : X → Bool) (xs : List X) (n : ℕ) → (list_any p (take n xs) || list_any p (drop n xs)) ≡ list_any p xs
in_halves p [] zero = refl
in_halves p [] (suc n) = refl
in_halves p (x ∷ xs) zero = refl
in_halves p (x ∷ xs) (suc n) = sym (assoc (p x) (list_any p (take n xs)) (list_any p (drop n xs))) ∙ ap (λ b. p x || b) (in_halves p xs n)
  where
    assoc : (a b c : Bool) → (a || (b || c)) ≡ ((a || b) || c)
    assoc true b c = refl
    assoc false b c = refl
