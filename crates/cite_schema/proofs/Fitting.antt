-- Rows that fit columns.
use Rattle.std.proofs.Common.{◌≡◌, ◌≢◌, ℕ, suc, ◌<◌, ◌+◌, Bool, true, false, ◌&&◌, List, [], ◌∷◌, length, drop, get_or, refl, sym, ap, ◌∙◌, arith, drop-cons}
use Rattle.cite_schema.specs.Tables.{fits, is_short, is_short_row}
use Rattle.cite_schema.specs.Values.{is_value_of}
use Rattle.cite_schema.specs.declared.value.Value.{Value}
use Rattle.cite_schema.specs.declared.schema.Column.{Column}

one_more : (i : ℕ) → suc i ≡ i + 1
one_more i = omega arith

and_false : (b : Bool) → (b && false) ≡ false
and_false true = refl
and_false false = refl

-- a row of another width fits no columns
pub fits_other_width : (cs : List Column) (vs : List Value) → length cs ≢ length vs → fits cs vs ≡ false
fits_other_width [] [] n = absurd (n refl)
fits_other_width [] (v ∷ vs) n = refl
fits_other_width (c ∷ cs) [] n = refl
fits_other_width (c ∷ cs) (v ∷ vs) n = ap (λ b. is_value_of c.kind v && b) (fits_other_width cs vs (λ e. n (ap suc e))) ∙ and_false (is_value_of c.kind v)

regroup : (a b f s : Bool) → ((a && f) && (b && s)) ≡ ((a && b) && (f && s))
regroup true true f s = refl
regroup true false f s = and_false f
regroup false b f s = refl

-- the cells from a place on fit where the one there does and those behind it do
pub fits_from : (cs : List Column) (vs : List Value) (i : ℕ) (c : Column) (v : Value) → i < length cs → i < length vs → v ≡ get_or vs i v
    → (fits (drop i cs) (drop i vs) && is_short_row (drop i vs))
    ≡ ((is_value_of (get_or cs i c).kind v && is_short v) && (fits (drop (i + 1) cs) (drop (i + 1) vs) && is_short_row (drop (i + 1) vs)))
fits_from cs vs i c v lt less is =
    ap (λ ds. fits ds (drop i vs) && is_short_row (drop i vs)) (drop-cons cs i c lt)
    ∙ ap (λ ws. fits (get_or cs i c ∷ drop (suc i) cs) ws && is_short_row ws) (drop-cons vs i v less ∙ ap (λ w. w ∷ drop (suc i) vs) (sym is))
    ∙ regroup (is_value_of (get_or cs i c).kind v) (is_short v) (fits (drop (suc i) cs) (drop (suc i) vs)) (is_short_row (drop (suc i) vs))
    ∙ ap (λ j. (is_value_of (get_or cs i c).kind v && is_short v) && (fits (drop j cs) (drop j vs) && is_short_row (drop j vs))) (one_more i)

pub after_fitting : (a b : Bool) → a ≡ true → (a && b) ≡ b
after_fitting a b e = ap (λ x. x && b) e

pub after_misfit : (a b : Bool) → a ≡ false → (a && b) ≡ false
after_misfit a b e = ap (λ x. x && b) e
