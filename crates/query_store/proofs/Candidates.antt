-- What is picked of an index are the candidates, rising.
use Rattle.std.proofs.Common.{◌≡◌, ℕ, zero, suc, ◌<◌, Bool, true, false, cond, inl, inr, List, [], ◌∷◌, ◌++◌, Some, length, filter, append_assoc, slice_index_or, refl, sym, ap, ◌∙◌, subst, arith}
use Rattle.std.specs.Cmp.{nat_cmp_is}
use Rattle.std.specs.List.{AllByRecursion, Contains}
use Rattle.std.specs.List.Sorted.{IsStrictlySortedBy}
use Rattle.std.specs.Ordering.{nat_cmp, ordering_then, is_eq, is_ge}
use Rattle.std.specs.declared.cmp.Ordering.{Ordering}
use Rattle.std.specs.declared.cmp.Ordering.TheVariants.{Less, Equal, Greater}
use Rattle.std.proofs.lemmas.Cmp.{alike_right}
use Rattle.std.proofs.lemmas.List.Kept.{IsStrictlySortedBy-filter}
use Rattle.std.proofs.lemmas.Option.{same_Some}
use Rattle.sha2.specs.Sha256.{sha256}
use Rattle.cite_schema.specs.Values.{text_cmp}
use Rattle.cite_schema.proofs.Orders.{text_total, text_exact}
use Rattle.cite_schema.proofs.Rising.{In, all_at}
use Rattle.subset_query.specs.declared.form.Normal.{Normal}
use Rattle.subset_query.specs.Printed.{printed_form}
use Rattle.shared_pages.specs.Probes.{all_from}
use Rattle.shared_pages.proofs.Editing.{append_none}
use Rattle.shared_pages.proofs.Order.{turned, itself}
use Rattle.query_store.specs.declared.citation.Citation.{Citation}
use Rattle.query_store.specs.declared.finding.Finding.{Finding}
use Rattle.query_store.specs.Citations.{numbered, IsCandidate, AreCandidates}
use Rattle.query_store.specs.Places.{digest_cmp, digest_total, finding_cmp, finding_of, IsFound, IsIndex}
use Rattle.query_store.specs.Picks.{HasForm, Picks, None_left, Past, Picked, Left}

was_equal : (o : Ordering) → is_eq o ≡ true → o ≡ Equal
was_equal Less e = cc
was_equal Equal e = refl
was_equal Greater e = cc

-- what is filtered was there
filtered_in : {X : Type 0} (p : X → Bool) (x : X) (xs : List X) → In x (filter p xs) → In x xs
filtered_in p x [] i = i
filtered_in {X} p x (y ∷ ys) i = by (λ j. filtered_in p x ys j) (p y) i
  where
    by : (In x (filter p ys) → In x ys) → (b : Bool) → In x (cond b (y ∷ filter p ys) (filter p ys)) → In x (y ∷ ys)
    by more true (inl e) = inl e
    by more true (inr i) = inr (more i)
    by more false i = inr (more i)

-- what passes is filtered
in_filtered : {X : Type 0} (p : X → Bool) (x : X) (xs : List X) → In x xs → p x ≡ true → In x (filter p xs)
in_filtered p x [] i t = i
in_filtered {X} p x (y ∷ ys) (inl e) t = by (p y) (ap p (sym e) ∙ t)
  where
    by : (b : Bool) → b ≡ true → In x (cond b (y ∷ filter p ys) (filter p ys))
    by true u = inl e
    by false u = let no : false ≡ true = u in absurd (cc)
in_filtered {X} p x (y ∷ ys) (inr i) t = by (p y) (in_filtered p x ys i t)
  where
    by : (b : Bool) → In x (filter p ys) → In x (cond b (y ∷ filter p ys) (filter p ys))
    by true more = inr more
    by false more = more

-- all that is filtered passes
all_pass : {X : Type 0} (p : X → Bool) (xs : List X) → AllByRecursion (λ x. p x ≡ true) (filter p xs)
all_pass p [] = tt
all_pass {X} p (x ∷ xs) = by (p x) refl (all_pass p xs)
  where
    by : (b : Bool) → p x ≡ b → AllByRecursion (λ x. p x ≡ true) (filter p xs) → AllByRecursion (λ x. p x ≡ true) (cond b (x ∷ filter p xs) (filter p xs))
    by true e more = (e, more)
    by false e more = more

in_from_place : (xs : List ℕ) (x k : ℕ) → k < length xs → slice_index_or xs k x ≡ x → In x xs
in_from_place [] x k l e = absurd (omega arith)
in_from_place (y ∷ ys) x zero l e = inl (sym e)
in_from_place (y ∷ ys) x (suc k) l e = inr (in_from_place ys x k (omega arith) e)

contains_from_in : (xs : List ℕ) (x : ℕ) → In x xs → Contains xs x
contains_from_in [] x i = absurd i
contains_from_in (y ∷ ys) x (inl e) = (0, omega arith, sym e)
contains_from_in (y ∷ ys) x (inr i) = let h : Contains ys x = contains_from_in ys x i in let l = h.1 in (suc h.0, omega arith, h.2)

-- both with the digests of the probe: then the number decides
number_above : (f g probe : Finding) → is_eq (digest_cmp f probe) ≡ true → is_eq (digest_cmp g probe) ≡ true → finding_cmp f g ≡ Less → nat_cmp f.number g.number ≡ Less
number_above f g probe e d l =
    let same : digest_cmp f g ≡ Equal = digest_total.congr f probe g (was_equal (digest_cmp f probe) e) ∙ turned digest_cmp digest_total g probe Equal (was_equal (digest_cmp g probe) d) in
    sym (ap (λ o. ordering_then o (nat_cmp f.number g.number)) same) ∙ l

-- between the probe and a finding with its digests all have these digests
between : (g f probe : Finding) → finding_cmp g f ≡ Less → is_ge (finding_cmp g probe) ≡ true → digest_cmp f probe ≡ Equal → digest_cmp g probe ≡ Equal
between g f probe l ge e = by (digest_cmp g probe) refl
  where
    by : (o : Ordering) → digest_cmp g probe ≡ o → digest_cmp g probe ≡ Equal
    by Less d = let no : false ≡ true = sym (ap (λ o. is_ge (ordering_then o (nat_cmp g.number probe.number))) d) ∙ ge in absurd (cc)
    by Equal d = d
    by Greater d = let no : Greater ≡ Less = sym (ap (λ o. ordering_then o (nat_cmp g.number f.number)) (alike_right digest_total f probe g e ∙ d)) ∙ l in absurd (cc)

-- a number was picked of one of the findings
record IsPick (passes : ℕ → Type 0) (probe : Finding) (fs : List Finding) (n : ℕ) : Type 0 where
  finding : Finding
  among : In finding fs
  alike : is_eq (digest_cmp finding probe) ≡ true
  passed : passes finding.number
  number_is : finding.number ≡ n

module _ (passes : ℕ → Type 0) (probe : Finding) where
  further : (f : Finding) (fs : List Finding) (n : ℕ) → IsPick passes probe fs n → IsPick passes probe (f ∷ fs) n
  further f fs n w = record { finding = w.finding; among = inr w.among; alike = w.alike; passed = w.passed; number_is = w.number_is }

  picked_from : (fs : List Finding) (ns : List ℕ) (n : ℕ) → Picks passes probe fs ns → In n ns → IsPick passes probe fs n
  picked_from fs ns n None_left i = absurd i
  picked_from fs ns n (Past f gs e) i = absurd i
  picked_from fs ns n (Picked f gs ms e p more) (inl s) = record { finding = f; among = inl refl; alike = e; passed = p; number_is = sym s }
  picked_from fs ns n (Picked f gs ms e p more) (inr i) = further f gs n (picked_from gs ms n more i)
  picked_from fs ns n (Left f gs ms e p more) i = further f gs n (picked_from gs ms n more i)

  numbers_above : (f : Finding) (fs : List Finding) (ns : List ℕ) → Picks passes probe fs ns → is_eq (digest_cmp f probe) ≡ true → AllByRecursion (λ g. finding_cmp f g ≡ Less) fs → AllByRecursion (λ m. nat_cmp f.number m ≡ Less) ns
  numbers_above f fs ns None_left e h = tt
  numbers_above f fs ns (Past g gs d) e h = tt
  numbers_above f fs ns (Picked g gs ms d p more) e h = (number_above f g probe e d h.0, numbers_above f gs ms more e h.1)
  numbers_above f fs ns (Left g gs ms d p more) e h = numbers_above f gs ms more e h.1

  -- the numbers rise
  picks_rise : (fs : List Finding) (ns : List ℕ) → Picks passes probe fs ns → IsStrictlySortedBy finding_cmp fs → IsStrictlySortedBy nat_cmp ns
  unfolding IsStrictlySortedBy
  picks_rise fs ns None_left s = tt
  picks_rise fs ns (Past f gs e) s = tt
  picks_rise fs ns (Picked f gs ms e p more) s = (numbers_above f gs ms more e s.0, picks_rise gs ms more s.1)
  picks_rise fs ns (Left f gs ms e p more) s = picks_rise gs ms more s.1

  -- each finding with the digests whose number passes is picked
  picks_all : (fs : List Finding) (ns : List ℕ) → Picks passes probe fs ns → IsStrictlySortedBy finding_cmp fs → AllByRecursion (λ g. is_ge (finding_cmp g probe) ≡ true) fs → (f : Finding) → In f fs → digest_cmp f probe ≡ Equal → passes f.number → In f.number ns
  unfolding IsStrictlySortedBy
  picks_all fs ns None_left s a f i e p = absurd i
  picks_all fs ns (Past g gs d) s a f (inl same) e p = let no : true ≡ false = sym (ap is_eq e) ∙ ap (λ h. is_eq (digest_cmp h probe)) same ∙ d in absurd (cc)
  picks_all fs ns (Past g gs d) s a f (inr i) e p = let no : true ≡ false = sym (ap is_eq (between g f probe (all_at (λ h. finding_cmp g h ≡ Less) f gs s.0 i) a.0 e)) ∙ d in absurd (cc)
  picks_all fs ns (Picked g gs ms d q more) s a f (inl same) e p = inl (ap (λ (h : Finding). h.number) same)
  picks_all fs ns (Picked g gs ms d q more) s a f (inr i) e p = inr (picks_all gs ms more s.1 a.1 f i e p)
  picks_all fs ns (Left g gs ms d q more) s a f (inl same) e p = absurd (q (subst (λ (h : Finding). passes h.number) same p))
  picks_all fs ns (Left g gs ms d q more) s a f (inr i) e p = picks_all gs ms more s.1 a.1 f i e p

text_same : (a b : List ℕ) → a ≡ b → text_cmp a b ≡ Equal
text_same a b e = ap (text_cmp a) (sym e) ∙ itself text_cmp text_total a

then_second : (o p : Ordering) → ordering_then o p ≡ Equal → p ≡ Equal
then_second Less p e = cc
then_second Equal p e = e
then_second Greater p e = cc

from_zero : (n : ℕ) → is_ge (nat_cmp n 0) ≡ true
from_zero zero = refl
from_zero (suc n) = let l : 0 < suc n = omega arith in sym (ap is_ge (nat_cmp_is (suc n) 0 Greater l))

module _ (cs : List Citation) (index : List Finding) (form : Normal) (fingerprint : List ℕ) (probe : Finding) (h : IsIndex cs index) (query_is : probe.query_sha ≡ sha256 (printed_form form)) (result_is : probe.result_sha ≡ fingerprint) (number_is : probe.number ≡ 0) where
  -- what is picked is a candidate
  candidate_from : (n : ℕ) → IsPick (HasForm cs form) probe (all_from finding_cmp probe index) n → IsCandidate form fingerprint cs n
  candidate_from n w = record {
    citation = w.passed.citation;
    is = subst (λ k. numbered cs k ≡ Some w.passed.citation) w.number_is w.passed.is;
    form_is = w.passed.form_is;
    fingerprint_is =
        ap (λ (c : Citation). c.result_sha) (sym same) ∙ sym (ap (λ (f : Finding). f.result_sha) found.found)
        ∙ text_exact w.finding.result_sha probe.result_sha (then_second (text_cmp w.finding.query_sha probe.query_sha) (text_cmp w.finding.result_sha probe.result_sha) (was_equal (digest_cmp w.finding probe) w.alike)) ∙ result_is;
  }
    where
      found : IsFound cs w.finding
      found = all_at (IsFound cs) w.finding index h.sound (filtered_in (λ f. is_ge (finding_cmp f probe)) w.finding index w.among)

      same : found.citation ≡ w.passed.citation
      same = same_Some found.citation w.passed.citation (sym found.is ∙ w.passed.is)

  -- each candidate is found, with the digests of the probe
  found_alike : (n : ℕ) (w : IsCandidate form fingerprint cs n) → digest_cmp (finding_of n w.citation) probe ≡ Equal
  found_alike n w =
      ap (λ o. ordering_then o (text_cmp w.citation.result_sha probe.result_sha)) (text_same (sha256 (printed_form w.citation.normal)) probe.query_sha (ap (λ f. sha256 (printed_form f)) w.form_is ∙ sym query_is))
      ∙ text_same w.citation.result_sha probe.result_sha (w.fingerprint_is ∙ sym result_is)

  found_from : (n : ℕ) (w : IsCandidate form fingerprint cs n) → In (finding_of n w.citation) (all_from finding_cmp probe index)
  found_from n w =
      in_filtered (λ f. is_ge (finding_cmp f probe)) (finding_of n w.citation) index (h.whole n w.citation w.is)
      (ap (λ o. is_ge (ordering_then o (nat_cmp n probe.number))) (found_alike n w) ∙ ap (λ k. is_ge (nat_cmp n k)) number_is ∙ from_zero n)

  -- what is picked are the candidates
  pub are_candidates : (ns : List ℕ) → IsStrictlySortedBy finding_cmp index → Picks (HasForm cs form) probe (all_from finding_cmp probe index) ns → AreCandidates form fingerprint cs ns
  are_candidates ns s p = record {
    rising = picks_rise (HasForm cs form) probe (all_from finding_cmp probe index) ns p sorted;
    exact = λ n. (
      λ i. candidate_from n (picked_from (HasForm cs form) probe (all_from finding_cmp probe index) ns n p (in_from_place ns n i.0 i.1 i.2)),
      λ w. contains_from_in ns n (picks_all (HasForm cs form) probe (all_from finding_cmp probe index) ns p sorted (all_pass (λ f. is_ge (finding_cmp f probe)) index) (finding_of n w.citation) (found_from n w) (found_alike n w) (record { citation = w.citation; is = w.is; form_is = w.form_is })),
    );
  }
    where
      sorted : IsStrictlySortedBy finding_cmp (all_from finding_cmp probe index)
      sorted = IsStrictlySortedBy-filter finding_cmp (λ f. is_ge (finding_cmp f probe)) index s

-- whatever is picked of the findings that are left, comes behind the numbers that were picked so far
abbrev pub Leads : (ℕ → Type 0) → Finding → List Finding → List Finding → List ℕ → Type 0
Leads passes probe all rest done = (ns : List ℕ) → Picks passes probe rest ns → Picks passes probe all (done ++ ns)

module _ (passes : ℕ → Type 0) (probe : Finding) (all rest : List Finding) (done : List ℕ) (h : Leads passes probe all rest done) where
  -- the next finding is picked
  pub picks_one : (f : Finding) (more : List Finding) (grown : List ℕ) → rest ≡ f ∷ more → is_eq (digest_cmp f probe) ≡ true → passes f.number → grown ≡ done ++ f.number ∷ [] → Leads passes probe all more grown
  picks_one f more grown e same ok g = λ ns p.
      subst (λ l. Picks passes probe all l) (sym (append_assoc done (f.number ∷ []) ns) ∙ ap (λ d. d ++ ns) (sym g))
      (h (f.number ∷ ns) (subst (λ fs. Picks passes probe fs (f.number ∷ ns)) (sym e) (Picked f more ns same ok p)))

  -- the next finding is left
  pub leaves_one : (f : Finding) (more : List Finding) → rest ≡ f ∷ more → is_eq (digest_cmp f probe) ≡ true → (passes f.number → ⊥) → Leads passes probe all more done
  leaves_one f more e same other = λ ns p. h ns (subst (λ fs. Picks passes probe fs ns) (sym e) (Left f more ns same other p))

  -- the next finding has other digests
  pub ends_before : (f : Finding) (more : List Finding) → rest ≡ f ∷ more → is_eq (digest_cmp f probe) ≡ false → Picks passes probe all done
  ends_before f more e other = subst (λ l. Picks passes probe all l) (append_none done) (h [] (subst (λ fs. Picks passes probe fs []) (sym e) (Past f more other)))

  -- no finding is left
  pub ends_all : rest ≡ [] → Picks passes probe all done
  ends_all e = subst (λ l. Picks passes probe all l) (append_none done) (h [] (subst (λ fs. Picks passes probe fs []) (sym e) None_left))
