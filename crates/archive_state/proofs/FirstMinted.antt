-- The first citation that has a form and gave bytes.
use Rattle.std.proofs.Common.{◌≡◌, ◌<◌, ◌≤◌, ℕ, zero, suc, ◌⊎◌, inl, inr, List, [], ◌∷◌, Some, None, length, map, slice_get, get_or, refl, sym, ap, ◌∙◌, subst, arith}
use Rattle.std.specs.List.{AllByRecursion, Contains}
use Rattle.std.specs.List.Sorted.{IsStrictlySortedBy}
use Rattle.std.specs.Ordering.{nat_cmp}
use Rattle.std.proofs.lemmas.List.Elements.{at_from_Contains, Contains-get_or}
use Rattle.std.proofs.lemmas.Map.Keys.{non_decreasing_from_sorted}
use Rattle.std.proofs.lemmas.Bool.{cases_lt}
use Rattle.std.proofs.lemmas.Option.{same_Some}
use Rattle.sha2.specs.Sha256.{sha256}
use Rattle.query_store.specs.declared.citation.Citation.{Citation}
use Rattle.query_store.specs.Citations.{AreCandidates}
use Rattle.subset_query.specs.declared.form.Normal.{Normal}
use Rattle.archive_model.specs.Archives.{Archive, Minted}
use Rattle.archive_model.specs.Citing.{IsFirst}
use Rattle.archive_state.specs.Executing.{minted_as}
use Rattle.archive_state.specs.Citations.{Has, Lacks, TellsFirst, Gave}
use Rattle.archive_state.specs.Standing.{kept_of}
use Rattle.archive_state.proofs.ResolveMinted.{minted_there}

-- the citation at a place is the first that hits, if it hits and those before it miss
pub first_at : (Miss Hit : Minted → Type 0) (ms : List Minted) (place : ℕ) (m : Minted) → slice_get ms place ≡ Some m → Hit m → ((k : ℕ) (x : Minted) → k < place → slice_get ms k ≡ Some x → Miss x) → IsFirst Miss Hit ms place
first_at Miss Hit [] place m e hit miss = absurd (cc)
first_at Miss Hit (x ∷ xs) zero m e hit miss = let same : m ≡ x = cc in subst Hit same hit
first_at Miss Hit (x ∷ xs) (suc place) m e hit miss = (miss 0 x (omega arith) refl, first_at Miss Hit xs place m e hit (λ k y lt at. miss (suc k) y (omega arith) at))

-- what holds of each that stands at a place holds of all
pub all_at : {X : Type 0} (P : X → Type 0) (xs : List X) → ((k : ℕ) (x : X) → slice_get xs k ≡ Some x → P x) → AllByRecursion P xs
all_at P [] h = tt
all_at P (x ∷ xs) h = (h 0 x refl, all_at P xs (λ k y at. h (suc k) y at))

-- one citation has a number at most
pub one_minted : (a : Archive) (number : ℕ) (m n : Minted) → minted_as a number ≡ Some m → minted_as a number ≡ Some n → m ≡ n
one_minted a number m n e f = same_Some m n (sym e ∙ f)

-- of what was minted at a place something is kept there
kept_at : (ms : List Minted) (k : ℕ) (m : Minted) → slice_get ms k ≡ Some m → slice_get (map kept_of ms) k ≡ Some (kept_of m)
kept_at [] k m e = absurd (cc)
kept_at (x ∷ xs) zero m e = let same : x ≡ m = cc in ap (λ (w : Minted). Some (kept_of w)) same
kept_at (x ∷ xs) (suc k) m e = kept_at xs k m e

-- of rising numbers those below one that stands at a place stand before it
stands_before : (xs : List ℕ) (i j : ℕ) → IsStrictlySortedBy nat_cmp xs → j < length xs → get_or xs j 0 < get_or xs i 0 → j < i
stands_before xs i j rising lt below = by (cases_lt j i)
  where
    by : (j < i) ⊎ (i ≤ j) → j < i
    by (inl h) = h
    by (inr h) = let rises = non_decreasing_from_sorted xs rising i j 0 h lt in absurd (omega (arith, rises, below))

module _ (a : Archive) (store : List Citation) (form : Normal) (bytes : List ℕ) (numbers : List ℕ) (same : store ≡ map kept_of a.minted) (are : AreCandidates form (sha256 bytes) store numbers) where
  -- a citation that has the form and gave the bytes is among the candidates
  candidate : (k : ℕ) (m : Minted) → slice_get a.minted k ≡ Some m → Has form bytes m → Contains numbers (suc k)
  candidate k m at has = (are.exact (suc k)).1 (record {
    citation = kept_of m;
    is = ap (λ (s : List Citation). slice_get s k) same ∙ kept_at a.minted k m at;
    form_is = has.0;
    fingerprint_is = ap sha256 has.1;
  })

  -- where none of the candidates gave the bytes, no citation has the form and gave them
  pub none_has : ((k : ℕ) → k < length numbers → Gave a (get_or numbers k 0) bytes → ⊥) → TellsFirst form bytes a.minted None
  none_has none = all_at (Lacks form bytes) a.minted (λ k m at has.
      let (j, lt, there) = at_from_Contains numbers (suc k) (candidate k m at has) in
      none j lt (subst (λ n. Gave a n bytes) (sym (there 0)) (m, at, has.1)))

  -- the first candidate that gave the bytes is the first citation that has the form and gave them
  pub first_has : (i number : ℕ) → i < length numbers → number ≡ get_or numbers i 0 → Gave a number bytes → ((k : ℕ) → k < i → Gave a (get_or numbers k 0) bytes → ⊥) → TellsFirst form bytes a.minted (Some number)
  first_has i zero lt is (m, at, gave) none = absurd (cc)
  first_has i (suc place) lt is (m, at, gave) none = (place, omega arith, first_at (Lacks form bytes) (Has form bytes) a.minted place m at (has_form, gave) misses)
    where
      has_form : m.form ≡ form
      has_form =
          let c = (are.exact (suc place)).0 (subst (Contains numbers) (sym is) (Contains-get_or numbers i 0 lt)) in
          let (n, as', kept) = minted_there a store (suc place) c.citation same c.is in
          let one : m ≡ n = one_minted a (suc place) m n at as' in
          ap (λ (w : Minted). w.form) one ∙ ap (λ (k : Citation). k.normal) kept ∙ c.form_is

      misses : (k : ℕ) (x : Minted) → k < place → slice_get a.minted k ≡ Some x → Lacks form bytes x
      misses k x below there has =
          let (j, within, is_k) = at_from_Contains numbers (suc k) (candidate k x there has) in
          let named = is_k 0 in
          let before : j < i = stands_before numbers i j are.rising within (omega (arith, named, is, below)) in
          none j before (subst (λ n. Gave a n bytes) (sym named) (x, there, has.1))

-- the same, where the store, the digest and the numbers are known by what they equal
module _ (a : Archive) (store citations : List Citation) (form : Normal) (bytes digest : List ℕ) (given numbers : List ℕ) (kept : citations ≡ map kept_of a.minted) (same : store ≡ citations) (digested : digest ≡ sha256 bytes)
    (are : AreCandidates form digest store given) (listed : numbers ≡ given) where
  -- the numbers are candidates for the bytes' digest
  those : AreCandidates form (sha256 bytes) store numbers
  those = subst (λ d. AreCandidates form d store numbers) digested (subst (λ (ns : List ℕ). AreCandidates form digest store ns) (sym listed) are)

  -- where none of them gave the bytes, no citation is told
  pub no_candidate : ((k : ℕ) → k < length numbers → Gave a (get_or numbers k 0) bytes → ⊥) → TellsFirst form bytes a.minted None
  no_candidate = none_has a store form bytes numbers (same ∙ kept) those

  -- the first of them that gave the bytes is told
  pub first_candidate : (i : ℕ) → i < length numbers → Gave a (get_or numbers i 0) bytes → ((k : ℕ) → k < i → Gave a (get_or numbers k 0) bytes → ⊥) → TellsFirst form bytes a.minted (Some (get_or numbers i 0))
  first_candidate i lt gave none = first_has a store form bytes numbers (same ∙ kept) those i (get_or numbers i 0) lt refl gave none
