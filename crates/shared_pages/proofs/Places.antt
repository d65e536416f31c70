-- The item at a place of nodes, one node after the other.
use Rattle.std.proofs.Common.{◌≡◌, ℕ, zero, suc, ◌+◌, ◌-◌, ◌<◌, ◌≤◌, List, [], ◌∷◌, ◌++◌, length, slice_get, slice_index_or, drop, refl, sym, ap, ◌∙◌, arith}
use Rattle.std.specs.List.{flat_map}

-- what is left at a node is the node and what is left behind it
pub from_node : {N : Type 0} (nodes : List N) (i : ℕ) (n : N) → i < length nodes → n ≡ slice_index_or nodes i n → drop i nodes ≡ n ∷ drop (i + 1) nodes
from_node [] i n l e = absurd (omega arith)
from_node (m ∷ ms) zero n l e = ap (λ x. x ∷ ms) (sym e)
from_node (m ∷ ms) (suc i) n l e = from_node ms i n (omega arith) e ∙ ap (λ k. n ∷ drop k (m ∷ ms)) (sym (next i))
  where
    next : (i : ℕ) → suc i + 1 ≡ suc (i + 1)
    next i = omega arith

-- a place within the first of two lists
pub within : {T : Type 0} (xs ys : List T) (k : ℕ) → k < length xs → slice_get (xs ++ ys) k ≡ slice_get xs k
within [] ys k l = absurd (omega arith)
within (x ∷ xs) ys zero l = refl
within (x ∷ xs) ys (suc k) l = within xs ys k (omega arith)

-- a place behind it
pub behind : {T : Type 0} (xs ys : List T) (k : ℕ) → length xs ≤ k → slice_get (xs ++ ys) k ≡ slice_get ys (k - length xs)
behind [] ys k l = ap (slice_get ys) (whole k)
  where
    whole : (k : ℕ) → k ≡ k - 0
    whole k = omega arith
behind (x ∷ xs) ys zero l = absurd (omega arith)
behind (x ∷ xs) ys (suc k) l = behind xs ys k (omega arith) ∙ ap (slice_get ys) (same k (length xs))
  where
    same : (k n : ℕ) → k - n ≡ suc k - suc n
    same k n = omega arith
