-- Cells that are in sets.
use Rattle.std.proofs.Common.{◌≡◌, ◌≢◌, ℕ, suc, ◌<◌, ◌+◌, Bool, true, false, ◌&&◌, List, [], ◌∷◌, length, drop, get_or, refl, sym, ap, ◌∙◌, arith, drop-cons}
use Rattle.cite_schema.specs.declared.value.Value.{Value}
use Rattle.subset_query.specs.Forms.{in_set, in_sets}
use Rattle.subset_query.specs.declared.form.ColumnSet.{ColumnSet}

one_more : (i : ℕ) → suc i ≡ i + 1
one_more i = omega arith

and_false : (b : Bool) → (b && false) ≡ false
and_false true = refl
and_false false = refl

-- a row of another width is in no sets
pub in_other_width : (ss : List ColumnSet) (vs : List Value) → length ss ≢ length vs → in_sets ss vs ≡ false
in_other_width [] [] n = absurd (n refl)
in_other_width [] (v ∷ vs) n = refl
in_other_width (s ∷ ss) [] n = refl
in_other_width (s ∷ ss) (v ∷ vs) n = ap (λ b. in_set s v && b) (in_other_width ss vs (λ e. n (ap suc e))) ∙ and_false (in_set s v)

-- the cells from a place on are in their sets where the one there is and those behind it are
pub in_from : (ss : List ColumnSet) (vs : List Value) (i : ℕ) (s : ColumnSet) (v : Value) → i < length ss → i < length vs → s ≡ get_or ss i s → v ≡ get_or vs i v
    → in_sets (drop i ss) (drop i vs) ≡ (in_set s v && in_sets (drop (i + 1) ss) (drop (i + 1) vs))
in_from ss vs i s v lt less is at =
    ap (λ ts. in_sets ts (drop i vs)) (drop-cons ss i s lt ∙ ap (λ t. t ∷ drop (suc i) ss) (sym is))
    ∙ ap (λ ws. in_sets (s ∷ drop (suc i) ss) ws) (drop-cons vs i v less ∙ ap (λ w. w ∷ drop (suc i) vs) (sym at))
    ∙ ap (λ j. in_set s v && in_sets (drop j ss) (drop j vs)) (one_more i)
