-- Which findings of an index are picked: from the first with both digests on, those whose citation has the form.
use Rattle.std.specs.Prelude.{◌≡◌, ℕ, true, false, List, [], ◌∷◌, Some}
use Rattle.std.specs.Ordering.{is_eq}
use Rattle.subset_query.specs.declared.form.Normal.{Normal}
use Rattle.query_store.specs.declared.citation.Citation.{Citation}
use Rattle.query_store.specs.declared.finding.Finding.{Finding}
use Rattle.query_store.specs.Citations.{numbered}
use Rattle.query_store.specs.Places.{digest_cmp}

-- the citation with the number has the form
pub record HasForm (citations : List Citation) (form : Normal) (number : ℕ) : Type 0 where
  pub citation : Citation
  pub is : numbered citations number ≡ Some citation
  pub form_is : citation.normal ≡ form

-- the numbers that are picked of findings: of each, up to the first with another digest, whose number passes
pub data Picks (passes : ℕ → Type 0) (probe : Finding) : List Finding → List ℕ → Type 0 where
  None_left : Picks passes probe [] []
  Past : (f : Finding) (fs : List Finding) → is_eq (digest_cmp f probe) ≡ false → Picks passes probe (f ∷ fs) []
  Picked : (f : Finding) (fs : List Finding) (ns : List ℕ) → is_eq (digest_cmp f probe) ≡ true → passes f.number → Picks passes probe fs ns
      → Picks passes probe (f ∷ fs) (f.number ∷ ns)
  Left : (f : Finding) (fs : List Finding) (ns : List ℕ) → is_eq (digest_cmp f probe) ≡ true → (passes f.number → ⊥) → Picks passes probe fs ns
      → Picks passes probe (f ∷ fs) ns
