-- Citations that get other forms, one after the other.
use Rattle.std.proofs.Common.{◌≡◌, ℕ, zero, suc, ◌+◌, ◌<◌, List, [], ◌∷◌, ◌++◌, Some, None, length, slice_get, drop, refl, sym, ap, ◌∙◌, arith, add-one, append_assoc, length-append}
use Rattle.std.proofs.lemmas.Option.{slice_get_within, get_or_from_slice_get, none-some}
use Rattle.subset_query.specs.declared.form.Normal.{Normal}
use Rattle.shared_pages.proofs.Editing.{append_none}
use Rattle.shared_pages.proofs.Places.{from_node}
use Rattle.query_store.specs.declared.citation.Citation.{Citation}
use Rattle.query_store.specs.Citations.{numbered, with_form, with_forms}

-- so many citations have their new forms, and these forms are left
pub record IsCarried (cs : List Citation) (forms : List Normal) (done : List Citation) (n : ℕ) (rest : List Normal) : Type 0 where
  pub stands : done ++ with_forms (drop n cs) rest ≡ with_forms cs forms
  pub counted : length done ≡ n
  pub left : length rest + n ≡ length cs

no_forms : (cs : List Citation) → with_forms cs [] ≡ []
no_forms [] = refl
no_forms (c ∷ cs) = refl

-- the citation with the next number stands at the number's place
numbered_next : (cs : List Citation) (n : ℕ) → numbered cs (n + 1) ≡ slice_get cs n
numbered_next cs n = ap (numbered cs) (add-one n)

absent : (cs : List Citation) (n : ℕ) → None ≡ slice_get cs n → n < length cs → ⊥
absent [] n e l = absurd (omega arith)
absent (c ∷ cs) zero e l = none-some c e
absent (c ∷ cs) (suc n) e l = absent cs n e (omega arith)

-- there is one, while a form is left
pub is_there : (cs : List Citation) (forms : List Normal) (done : List Citation) (n : ℕ) (rest more : List Normal) (f : Normal) → IsCarried cs forms done n rest → rest ≡ f ∷ more → None ≡ numbered cs (n + 1) → ⊥
is_there cs forms done n rest more f h e none =
    let left = h.left in
    let within : n < length cs = omega (arith, ap length e) in
    absent cs n (none ∙ numbered_next cs n) within

-- at first all forms are left
pub carry_start : (cs : List Citation) (forms : List Normal) → length forms ≡ length cs → IsCarried cs forms [] 0 forms
carry_start cs forms e = record { stands = refl; counted = refl; left = omega arith }

-- the next citation gets the next form
pub carry_step : (cs : List Citation) (forms : List Normal) (done all : List Citation) (n : ℕ) (rest more : List Normal) (f : Normal) (c : Citation) → IsCarried cs forms done n rest → rest ≡ f ∷ more → Some c ≡ numbered cs (n + 1) → all ≡ done ++ with_form c f ∷ []
    → IsCarried cs forms all (n + 1) more
carry_step cs forms done all n rest more f c h e is grown = record {
  stands =
      ap (λ l. l ++ with_forms (drop (n + 1) cs) more) grown ∙ append_assoc done (with_form c f ∷ []) (with_forms (drop (n + 1) cs) more)
      ∙ ap (λ l. done ++ with_forms l (f ∷ more)) (sym place) ∙ ap (λ l. done ++ with_forms (drop n cs) l) (sym e) ∙ h.stands;
  counted = ap length grown ∙ length-append done (with_form c f ∷ []) ∙ ap (λ k. k + 1) h.counted;
  left = let left = h.left in omega (arith, ap length e);
}
  where
    at : slice_get cs n ≡ Some c
    at = sym (is ∙ numbered_next cs n)

    place : drop n cs ≡ c ∷ drop (n + 1) cs
    place = from_node cs n c (slice_get_within cs n c at) (sym (get_or_from_slice_get cs n c c at))

-- at last all have them
pub carry_end : (cs : List Citation) (forms : List Normal) (done : List Citation) (n : ℕ) (rest : List Normal) → IsCarried cs forms done n rest → rest ≡ [] → done ≡ with_forms cs forms
carry_end cs forms done n rest h e = sym (append_none done) ∙ ap (λ l. done ++ l) (sym (no_forms (drop n cs))) ∙ ap (λ l. done ++ with_forms (drop n cs) l) (sym e) ∙ h.stands
