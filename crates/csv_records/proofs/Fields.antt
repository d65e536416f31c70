-- The field at a place, by std's words.
use Rattle.std.proofs.Common.{◌≡◌, ◌+◌, ℕ, zero, suc, List, [], ◌∷◌, slice_get, drop, refl, ap, ◌∙◌, arith}
use Rattle.csv.specs.Records.{field_at}

pub field_at_is : (fs : List (List ℕ)) (i : ℕ) → field_at fs i ≡ slice_get fs i
unfolding field_at
field_at_is [] i = refl
field_at_is (f ∷ fs) zero = refl
field_at_is (f ∷ fs) (suc i) = field_at_is fs i

-- a field behind the first ones
pub slice_get-drop : {A : Type 0} (n : ℕ) (xs : List A) (i : ℕ) → slice_get (drop n xs) i ≡ slice_get xs (n + i)
slice_get-drop zero xs i = let same : i ≡ 0 + i = omega arith in ap (λ k. slice_get xs k) same
slice_get-drop (suc n) [] i = refl
slice_get-drop (suc n) (x ∷ xs) i = let next : suc (n + i) ≡ suc n + i = omega arith in slice_get-drop n xs i ∙ ap (λ k. slice_get (x ∷ xs) k) next
