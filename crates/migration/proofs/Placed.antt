-- Lists of which one place changes, as the program changes them.
use Rattle.std.proofs.Common.{◌≡◌, ℕ, zero, suc, ◌+◌, drop, drop-cons, sym, ◌∙◌, ◌<◌, ◌≤◌, List, [], ◌∷◌, Option, Some, None, length, get_or, slice_get, slice_set, refl, ap, arith}
use Rattle.std.specs.Prelude.{option_map}
use Rattle.std.specs.List.{remove}
use Rattle.cite_schema.specs.declared.value.Value.{Value}
use Rattle.cite_schema.specs.declared.step.Step.TheVariants.{Rename}
use Rattle.migration.specs.Rows.{value_after}
use Rattle.migration.proofs.Keys.{renamed_is}
use Rattle.migration.specs.Places.{changed, changed_if, without}

-- the element at a place replaced by its change
pub set_changed : {A : Type 0} (f : A → A) (i : ℕ) (xs : List A) (d : A) → i < length xs → slice_set xs i (f (get_or xs i d)) ≡ changed f i xs
set_changed f i [] d lt = absurd (omega arith)
set_changed f zero (x ∷ xs) d lt = refl
set_changed f (suc i) (x ∷ xs) d lt = ap (λ ys. x ∷ ys) (set_changed f i xs d (omega arith))

-- nothing is changed behind the last element
pub none_changed : {A : Type 0} (f : A → A) (i : ℕ) (xs : List A) → length xs ≤ i → changed f i xs ≡ xs
none_changed f i [] le = refl
none_changed f zero (x ∷ xs) le = absurd (omega arith)
none_changed f (suc i) (x ∷ xs) le = ap (λ ys. x ∷ ys) (none_changed f i xs (omega arith))

-- the element at a place replaced by its change, where there is one
pub set_changed_if : {A : Type 0} (f : A → Option A) (i : ℕ) (xs : List A) (d y : A) → i < length xs → f (get_or xs i d) ≡ Some y → changed_if f i xs ≡ Some (slice_set xs i y)
set_changed_if f i [] d y lt e = absurd (omega arith)
set_changed_if f zero (x ∷ xs) d y lt e = ap (option_map (λ z. z ∷ xs)) e
set_changed_if f (suc i) (x ∷ xs) d y lt e = ap (option_map (λ ys. x ∷ ys)) (set_changed_if f i xs d y (omega arith) e)

pub not_changed_if : {A : Type 0} (f : A → Option A) (i : ℕ) (xs : List A) (d : A) → i < length xs → f (get_or xs i d) ≡ None → changed_if f i xs ≡ None
not_changed_if f i [] d lt e = absurd (omega arith)
not_changed_if f zero (x ∷ xs) d lt e = ap (option_map (λ z. z ∷ xs)) e
not_changed_if f (suc i) (x ∷ xs) d lt e = ap (option_map (λ ys. x ∷ ys)) (not_changed_if f i xs d (omega arith) e)

pub none_changed_if : {A : Type 0} (f : A → Option A) (i : ℕ) (xs : List A) → length xs ≤ i → changed_if f i xs ≡ Some xs
none_changed_if f i [] le = refl
none_changed_if f zero (x ∷ xs) le = absurd (omega arith)
none_changed_if f (suc i) (x ∷ xs) le = ap (option_map (λ ys. x ∷ ys)) (none_changed_if f i xs (omega arith))

-- the element at a place removed
pub removed : {A : Type 0} (i : ℕ) (xs : List A) → i < length xs → remove xs i ≡ without i xs
removed i [] lt = absurd (omega arith)
removed zero (x ∷ xs) lt = refl
removed (suc i) (x ∷ xs) lt = ap (λ ys. x ∷ ys) (removed i xs (omega arith))

pub none_removed : {A : Type 0} (i : ℕ) (xs : List A) → length xs ≤ i → without i xs ≡ xs
none_removed i [] le = refl
none_removed zero (x ∷ xs) le = absurd (omega arith)
none_removed (suc i) (x ∷ xs) le = ap (λ ys. x ∷ ys) (none_removed i xs (omega arith))

-- the element at a place is there
pub at_place : {A : Type 0} (i : ℕ) (xs : List A) (d : A) → i < length xs → slice_get xs i ≡ Some (get_or xs i d)
at_place i [] d lt = absurd (omega arith)
at_place zero (x ∷ xs) d lt = refl
at_place (suc i) (x ∷ xs) d lt = at_place i xs d (omega arith)

pub within : {A : Type 0} (i : ℕ) (xs : List A) (x : A) → slice_get xs i ≡ Some x → i < length xs
within i [] x e = absurd (cc)
within zero (y ∷ ys) x e = omega arith
within (suc i) (y ∷ ys) x e = let more = within i ys x e in omega arith

-- what stays as it is
pub itself : {A : Type 0} (i : ℕ) (xs : List A) → changed (λ x. x) i xs ≡ xs
itself i [] = refl
itself zero (x ∷ xs) = refl
itself (suc i) (x ∷ xs) = ap (λ ys. x ∷ ys) (itself i xs)

-- renaming leaves rows as they are
pub renamed_row : (c to : List ℕ) (i : ℕ) (row : List Value) → changed_if (value_after (Rename c to)) i row ≡ Some row
renamed_row c to i [] = refl
renamed_row c to zero (v ∷ vs) = ap (option_map (λ w. w ∷ vs)) (renamed_is c to v)
renamed_row c to (suc i) (v ∷ vs) = ap (option_map (λ ws. v ∷ ws)) (renamed_row c to i vs)

-- the elements from a place on
pub from_place : {A : Type 0} (xs : List A) (i : ℕ) (x : A) → i < length xs → x ≡ get_or xs i x → drop i xs ≡ x ∷ drop (i + 1) xs
from_place xs i x lt is = drop-cons xs i x lt ∙ ap (λ y. y ∷ drop (suc i) xs) (sym is) ∙ ap (λ j. x ∷ drop j xs) (one_more i)
  where
    one_more : (j : ℕ) → suc j ≡ j + 1
    one_more j = omega arith

nothing : {A : Type 0} (y : A) (ys : List A) → [] ≡ y ∷ ys → ⊥
nothing y ys e = cc

-- where elements are left, the place is one of them
pub cons_within : {A : Type 0} (i : ℕ) (xs : List A) (y : A) (ys : List A) → drop i xs ≡ y ∷ ys → i < length xs
cons_within zero [] y ys e = absurd (nothing y ys e)
cons_within (suc i) [] y ys e = absurd (nothing y ys e)
cons_within zero (x ∷ xs) y ys e = omega arith
cons_within (suc i) (x ∷ xs) y ys e = let more = cons_within i xs y ys e in omega arith

-- an element put in place of another, twice
pub set_again : {A : Type 0} (i : ℕ) (xs : List A) (x y : A) → slice_set (slice_set xs i x) i y ≡ slice_set xs i y
set_again i [] x y = refl
set_again zero (z ∷ zs) x y = refl
set_again (suc i) (z ∷ zs) x y = ap (λ ys. z ∷ ys) (set_again i zs x y)

-- an element at a place does not depend on what stands for one that is missing
pub same_at : {A : Type 0} (xs : List A) (i : ℕ) (d e : A) → i < length xs → get_or xs i d ≡ get_or xs i e
same_at [] i d e lt = absurd (omega arith)
same_at (x ∷ xs) zero d e lt = refl
same_at (x ∷ xs) (suc i) d e lt = same_at xs i d e (omega arith)

-- no element is left at the end
pub none_left : {A : Type 0} (xs : List A) (i : ℕ) → length xs ≤ i → drop i xs ≡ []
none_left [] zero le = refl
none_left [] (suc i) le = refl
none_left (x ∷ xs) zero le = absurd (omega arith)
none_left (x ∷ xs) (suc i) le = none_left xs i (omega arith)
