-- Lists of which one place changes.
use Rattle.std.specs.Prelude.{ℕ, zero, suc, List, [], ◌∷◌, Option, Some, option_map}

-- the list with the element at a place changed
abbrev pub changed : {A : Type 0} → (A → A) → ℕ → List A → List A
changed f i [] = []
changed f zero (x ∷ xs) = f x ∷ xs
changed f (suc i) (x ∷ xs) = x ∷ changed f i xs

-- the same where the change may fail
abbrev pub changed_if : {A : Type 0} → (A → Option A) → ℕ → List A → Option (List A)
changed_if f i [] = Some []
changed_if f zero (x ∷ xs) = option_map (λ y. y ∷ xs) (f x)
changed_if f (suc i) (x ∷ xs) = option_map (λ ys. x ∷ ys) (changed_if f i xs)

-- the list without the element at a place
abbrev pub without : {A : Type 0} → ℕ → List A → List A
without i [] = []
without zero (x ∷ xs) = xs
without (suc i) (x ∷ xs) = x ∷ without i xs
