-- Rearrangements of no row, one row and two.
use Rattle.std.proofs.Common.{◌≡◌, ℕ, zero, suc, ◌<◌, ◌⊎◌, inl, inr, List, [], ◌∷◌, length, refl, sym, ap, ◌∙◌, subst, arith, IsPermutation}
use Rattle.std.specs.List.{swap}
use Rattle.std.proofs.lemmas.List.Sorted.{IsPermutation-keeps, IsPermutation-swap}

below_one : (P : ℕ → Type 0) → P 0 → (i : ℕ) → i < 1 → P i
below_one P z zero h = z
below_one P z (suc i) h = absurd (omega arith)

below_two : (P : ℕ → Type 0) → P 0 → P 1 → (i : ℕ) → i < 2 → P i
below_two P z o zero h = z
below_two P z o (suc zero) h = o
below_two P z o (suc (suc i)) h = absurd (omega arith)

module _ {X : Type 0} where
  pub none_moved : (ys : List X) → IsPermutation [] ys → ys ≡ []
  none_moved ys p = IsPermutation-keeps [] (λ l. l ≡ []) refl step ys p
    where
      step : (l : List X) (i j : ℕ) → i < length l → j < length l → l ≡ [] → swap l i j ≡ []
      step l i j a b e = let h : i < 0 = subst (λ (w : List X). i < length w) e a in absurd (omega arith)

  pub one_moved : (x : X) (ys : List X) → IsPermutation (x ∷ []) ys → ys ≡ x ∷ []
  one_moved x ys p = IsPermutation-keeps (x ∷ []) (λ l. l ≡ x ∷ []) refl step ys p
    where
      at : (i j : ℕ) → i < 1 → j < 1 → swap (x ∷ []) i j ≡ x ∷ []
      at i j a b = below_one (λ m. swap (x ∷ []) m j ≡ x ∷ []) (below_one (λ n. swap (x ∷ []) 0 n ≡ x ∷ []) refl j b) i a

      step : (l : List X) (i j : ℕ) → i < length l → j < length l → l ≡ x ∷ [] → swap l i j ≡ x ∷ []
      step l i j a b e = ap (λ w. swap w i j) e ∙ at i j (subst (λ (w : List X). i < length w) e a) (subst (λ (w : List X). j < length w) e b)

  abbrev pub Two : X → X → List X → Type 0
  Two x y l = (l ≡ x ∷ y ∷ []) ⊎ (l ≡ y ∷ x ∷ [])

  swapped : (x y : X) (i j : ℕ) → i < 2 → j < 2 → Two x y (swap (x ∷ y ∷ []) i j)
  swapped x y i j a b = below_two (λ m. (swap (x ∷ y ∷ []) m j ≡ x ∷ y ∷ []) ⊎ (swap (x ∷ y ∷ []) m j ≡ y ∷ x ∷ []))
      (below_two (λ n. (swap (x ∷ y ∷ []) 0 n ≡ x ∷ y ∷ []) ⊎ (swap (x ∷ y ∷ []) 0 n ≡ y ∷ x ∷ [])) (inl refl) (inr refl) j b)
      (below_two (λ n. (swap (x ∷ y ∷ []) 1 n ≡ x ∷ y ∷ []) ⊎ (swap (x ∷ y ∷ []) 1 n ≡ y ∷ x ∷ [])) (inr refl) (inl refl) j b) i a

  pub two_moved : (x y : X) (ys : List X) → IsPermutation (x ∷ y ∷ []) ys → Two x y ys
  two_moved x y ys p = IsPermutation-keeps (x ∷ y ∷ []) (Two x y) (inl refl) step ys p
    where
      turned : (w : List X) → Two y x w → Two x y w
      turned w (inl e) = inr e
      turned w (inr e) = inl e

      step : (l : List X) (i j : ℕ) → i < length l → j < length l → Two x y l → Two x y (swap l i j)
      step l i j a b (inl e) = subst (λ (w : List X). Two x y (swap w i j)) (sym e) (swapped x y i j (subst (λ (w : List X). i < length w) e a) (subst (λ (w : List X). j < length w) e b))
      step l i j a b (inr e) = subst (λ (w : List X). Two x y (swap w i j)) (sym e) (turned (swap (y ∷ x ∷ []) i j) (swapped y x i j (subst (λ (w : List X). i < length w) e a) (subst (λ (w : List X). j < length w) e b)))

  pub turn_two : (x y : X) → IsPermutation (x ∷ y ∷ []) (y ∷ x ∷ [])
  turn_two x y = IsPermutation-swap (x ∷ y ∷ []) (y ∷ x ∷ []) 0 1 (omega arith) (omega arith) refl
