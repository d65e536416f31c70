-- Orders as a loop goes over them.
use Rattle.std.proofs.Common.{◌≡◌, ◌≤◌, ◌-◌, ℕ, suc, true, ◌||◌, cond, List, [], ◌∷◌, ◌++◌, Option, length, get_or, nat_eq, refl, sym, ap, ◌∙◌, arith}
use Rattle.cite_schema.specs.declared.value.Value.{Value}
use Rattle.cite_schema.specs.declared.item.Dir.{Dir}
use Rattle.subset_query.specs.Forms.{ends_at_key}
use Rattle.subset_query.specs.Settling.{key, names, is_enough, is_fixed, needed}

-- the last column decides whether an order ends at the key
pub ends_last : (order : List Dir) (d : Dir) → 1 ≤ length order → nat_eq (get_or order (length order - 1) d).column 0 ≡ ends_at_key order
ends_last [] d h = absurd (omega arith)
ends_last (p ∷ []) d h = refl
ends_last (p ∷ q ∷ qs) d h =
    let e : length (p ∷ q ∷ qs) - 1 ≡ suc (length (q ∷ qs) - 1) = omega arith in
    ap (λ n. nat_eq (get_or (p ∷ q ∷ qs) n d).column 0) e ∙ ends_last (q ∷ qs) d (omega arith)

-- behind an order that is long enough nothing more is needed
pub enough : (only : List (Option Value)) (printed : List ℕ) (front rest : List Dir) → true ≡ is_enough printed front → needed only printed front [] ≡ needed only printed front rest
enough only printed front rest full = sym (ap (λ b. cond b front (front ++ (key ∷ []))) full) ∙ stops rest
  where
    stops : (ds : List Dir) → front ≡ needed only printed front ds
    stops [] = ap (λ b. cond b front (front ++ (key ∷ []))) full
    stops (d ∷ ds) = ap (λ b. cond b front (cond (is_fixed only d.column || names front d.column) (needed only printed front ds) (needed only printed (front ++ (d ∷ [])) ds))) full
