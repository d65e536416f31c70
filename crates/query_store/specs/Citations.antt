-- Citations by number, and those that have a form and a fingerprint.
use Rattle.std.specs.Prelude.{◌≡◌, ◌↔◌, ℕ, zero, suc, List, [], ◌∷◌, Option, None, Some, slice_get}
use Rattle.std.specs.List.{Contains}
use Rattle.std.specs.List.Sorted.{IsStrictlySortedBy}
use Rattle.std.specs.Ordering.{nat_cmp}
use Rattle.sha2.specs.Sha256.{sha256}
use Rattle.subset_query.specs.declared.form.Normal.{Normal}
use Rattle.subset_query.specs.Printed.{printed_form}
use Rattle.query_store.specs.declared.citation.Citation.{Citation}

-- the citation with a number; they are counted from 1
abbrev pub numbered : List Citation → ℕ → Option Citation
numbered citations zero = None
numbered citations (suc n) = slice_get citations n

-- the number is that of a citation with the form and the fingerprint
pub record IsCandidate (form : Normal) (fingerprint : List ℕ) (citations : List Citation) (number : ℕ) : Type 0 where
  pub citation : Citation
  pub is : numbered citations number ≡ Some citation
  pub form_is : citation.normal ≡ form
  pub fingerprint_is : citation.result_sha ≡ fingerprint

-- the numbers are those of all such citations, rising
pub record AreCandidates (form : Normal) (fingerprint : List ℕ) (citations : List Citation) (numbers : List ℕ) : Type 0 where
  pub rising : IsStrictlySortedBy nat_cmp numbers
  pub exact : (n : ℕ) → Contains numbers n ↔ IsCandidate form fingerprint citations n

-- the citation with another form, and the digest of that form; all else stays
abbrev pub with_form : Citation → Normal → Citation
with_form c form = record c { normal = form; query_sha = sha256 (printed_form form) }

-- each of the citations with its new form
abbrev pub with_forms : List Citation → List Normal → List Citation
with_forms [] forms = []
with_forms (c ∷ cs) [] = []
with_forms (c ∷ cs) (f ∷ fs) = with_form c f ∷ with_forms cs fs
