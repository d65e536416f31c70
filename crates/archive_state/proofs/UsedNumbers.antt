-- The used numbers, one more.
use Rattle.std.proofs.Common.{◌≡◌, ℕ, ◌+◌, Bool, true, false, ◌&&◌, cond, List, [], ◌∷◌, Option, Some, None, length, refl, sym, ap, ◌∙◌, arith}
use Rattle.std.specs.Prelude.{◌==◌, option_map, if◌then◌else◌}
use Rattle.std.specs.Cmp.{IsTotalOrder}
use Rattle.std.specs.List.{AllByRecursion, find}
use Rattle.std.specs.List.Sorted.{IsStrictlySortedBy}
use Rattle.std.specs.Option.{option_or}
use Rattle.std.specs.Ordering.{is_eq, match_ordering, ordering_then, nat_cmp}
use Rattle.std.specs.declared.cmp.Ordering.{Ordering}
use Rattle.std.specs.declared.cmp.Ordering.TheVariants.{Less, Equal, Greater}
use Rattle.std.proofs.lemmas.Bool.Decides.{nat_tests}
use Rattle.std.proofs.lemmas.Cmp.{tied_itself, on_total}
use Rattle.sha2.specs.Sha256.{sha256}
use Rattle.cite_schema.specs.Values.{text_cmp}
use Rattle.cite_schema.specs.declared.value.Value.{Value}
use Rattle.cite_schema.specs.declared.line.Line.{Line}
use Rattle.cite_schema.specs.declared.batch_ask.BatchAsk.{BatchAsk}
use Rattle.cite_schema.proofs.Orders.{text_total, text_exact}
use Rattle.cite_schema.proofs.Rising.{and_first, and_second, sorted_from_rises}
use Rattle.batches.specs.Bodies.{is_word}
use Rattle.shared_pages.specs.declared.edit.Edit.{Edit}
use Rattle.shared_pages.specs.declared.edit.Edit.TheVariants.{Put}
use Rattle.shared_pages.specs.Edits.{place, by_place, changed, edited}
use Rattle.archive_model.specs.Archives.{Archive, version_count}
use Rattle.archive_model.specs.Batching.{batch_of, with_batch}
use Rattle.archive_model.proofs.Sound.{unmapped}
use Rattle.archive_state.specs.declared.used.UsedNumber.{UsedNumber}
use Rattle.archive_state.specs.Used.{used_cmp, used_total, used_by, use_of}
use Rattle.archive_state.proofs.LimitsPassed.{same_found}

-- the test for the number of a curator
abbrev has_number : List ℕ → ℕ → UsedNumber → Bool
has_number curator number u = is_word u.curator curator && (u.number == number)

-- the version and the digest
abbrev pub told : UsedNumber → ℕ × List ℕ
told u = (u.version, u.digest)

-- one order and then another is equal where both are
then_equal : (a b : Ordering) → is_eq (ordering_then a b) ≡ (is_eq a && is_eq b)
then_equal Less b = refl
then_equal Equal b = refl
then_equal Greater b = refl

same_numbers : (n m : ℕ) → is_eq (nat_cmp n m) ≡ (n == m)
same_numbers n m = grind (arith, nat_tests)

-- equal in the order are those with one curator and one number
equal_used : (u v : UsedNumber) → is_eq (used_cmp u v) ≡ has_number v.curator v.number u
equal_used u v = then_equal (text_cmp u.curator v.curator) (nat_cmp u.number v.number) ∙ ap (λ b. is_word u.curator v.curator && b) (same_numbers u.number v.number)

-- so it is of each of some
all_equal_used : (us : List UsedNumber) (v : UsedNumber) → AllByRecursion (λ u. is_eq (used_cmp u v) ≡ has_number v.curator v.number u) us
all_equal_used [] v = tt
all_equal_used (u ∷ us) v = (equal_used u v, all_equal_used us v)

-- what is found at a used number's place is what its number tells
pub found_use : (us : List UsedNumber) (v : UsedNumber) → option_map told (find (λ u. is_eq (used_cmp u v)) us) ≡ use_of v.curator v.number us
found_use us v = ap (option_map told) (same_found (λ u. is_eq (used_cmp u v)) (has_number v.curator v.number) us (all_equal_used us v))

same_number : (n m : ℕ) → (n == m) ≡ true → n ≡ m
same_number n m h = grind (arith, nat_tests)

equal : (o : Ordering) → is_eq o ≡ true → o ≡ Equal
equal Less e = cc
equal Equal e = refl
equal Greater e = cc

-- the new one, if it has the number, and else what was found
abbrev new_or : Bool → UsedNumber → Option UsedNumber → Option UsedNumber
new_or b new o = option_or (if b then Some new else None) o

-- what is found where the new one stands in front
in_front : (b : Bool) (new : UsedNumber) (o : Option UsedNumber) → cond b (Some new) o ≡ new_or b new o
in_front true new o = refl
in_front false new o = refl

-- and where one stands in front that passes the test while the new one does not
behind : (b : Bool) (u new : UsedNumber) → (b ≡ true → ⊥) → Some u ≡ new_or b new (Some u)
behind true u new h = absurd (h refl)
behind false u new h = refl

module _ (test : UsedNumber → Bool) (new : UsedNumber) where
  -- none of the numbers passes the test where the new one does, and none is equal to it
  record IsFree (us : List UsedNumber) : Type 0 where
    free : test new ≡ true → find test us ≡ None
    other : find (λ u. is_eq (used_cmp u new)) us ≡ None

  -- so it is of the others where the first is below the new one and does not pass
  free_behind : (u : UsedNumber) (us : List UsedNumber) → used_cmp u new ≡ Less → test u ≡ false → IsFree (u ∷ us) → IsFree us
  free_behind u us less is_false f = record {
    free = λ h. sym (ap (λ b. cond b (Some u) (find test us)) is_false) ∙ f.free h;
    other = sym (ap (λ o. cond (is_eq o) (Some u) (find (λ v. is_eq (used_cmp v new)) us)) less) ∙ f.other;
  }

  -- the first and the new one do not both pass
  not_both : (u : UsedNumber) (us : List UsedNumber) → test u ≡ true → IsFree (u ∷ us) → test new ≡ true → ⊥
  not_both u us is_true f h = let c : Some u ≡ None = sym (ap (λ b. cond b (Some u) (find test us)) is_true) ∙ f.free h in absurd (cc)

  -- the first is not equal to the new one
  not_equal : (u : UsedNumber) (us : List UsedNumber) → used_cmp u new ≡ Equal → IsFree (u ∷ us) → ⊥
  not_equal u us same f = let c : Some u ≡ None = sym (ap (λ o. cond (is_eq o) (Some u) (find (λ v. is_eq (used_cmp v new)) us)) same) ∙ f.other in absurd (cc)

  -- what is found after the new one is put among them
  put_among : (us : List UsedNumber) → IsFree us → find test (changed used_cmp us (Put new)) ≡ new_or (test new) new (find test us)
  put_among [] f = in_front (test new) new None
  put_among (u ∷ us) f = by (used_cmp u new) refl (test u) refl (λ g. put_among us g)
    where
      by : (o : Ordering) → used_cmp u new ≡ o → (b : Bool) → test u ≡ b → (IsFree us → find test (changed used_cmp us (Put new)) ≡ new_or (test new) new (find test us))
          → find test (match_ordering o (u ∷ changed used_cmp us (Put new)) (new ∷ us) (new ∷ u ∷ us)) ≡ new_or (test new) new (find test (u ∷ us))
      by Less less true is_true more =
          ap (λ b. cond b (Some u) (find test (changed used_cmp us (Put new)))) is_true ∙ behind (test new) u new (not_both u us is_true f)
          ∙ sym (ap (λ b. new_or (test new) new (cond b (Some u) (find test us))) is_true)
      by Less less false is_false more =
          ap (λ b. cond b (Some u) (find test (changed used_cmp us (Put new)))) is_false ∙ more (free_behind u us less is_false f)
          ∙ sym (ap (λ b. new_or (test new) new (cond b (Some u) (find test us))) is_false)
      by Equal same b is more = absurd (not_equal u us same f)
      by Greater greater b is more = in_front (test new) new (find test (u ∷ us))

-- a function goes through a choice
mapped_or : {A B : Type 0} (f : A → B) (o p : Option A) → option_map f (option_or o p) ≡ option_or (option_map f o) (option_map f p)
mapped_or f None p = refl
mapped_or f (Some x) p = refl

-- the numbers that the batches of an archive have used
abbrev pub TellNumbers : List UsedNumber → Archive → Type 0
TellNumbers used a = (curator : List ℕ) (number : ℕ) → use_of curator number used ≡ batch_of curator number a.last a.older

-- with the batch's own number they are those of the archive that the batch makes
pub numbers_grow : (a : Archive) (ask : BatchAsk) (now : ℕ) (lines : List Line) (table : List (List Value)) (used : List UsedNumber) (version : ℕ) → TellNumbers used a → batch_of ask.curator ask.number a.last a.older ≡ None
    → version ≡ version_count a + 1 → TellNumbers (edited used_cmp used (Put (used_by ask version) ∷ [])) (with_batch a ask now lines table)
numbers_grow a ask now lines table used version agree fresh is curator number =
    ap (option_map told) (put_among test new used (record { free = λ h. unmapped told (find test used) (agree curator number ∙ old_none h); other = none_equal }))
    ∙ mapped_or told (if test new then Some new else None) (find test used)
    ∙ ap (λ o. option_or (option_map told (if test new then Some new else None)) o) (agree curator number)
    ∙ by (is_word ask.curator curator && (ask.number == number))
  where
    test : UsedNumber → Bool
    test = has_number curator number

    new : UsedNumber
    new = used_by ask version

    none_equal : find (λ u. is_eq (used_cmp u (used_by ask version))) used ≡ None
    none_equal = unmapped told (find (λ u. is_eq (used_cmp u (used_by ask version))) used) (found_use used (used_by ask version) ∙ agree ask.curator ask.number ∙ fresh)

    old_none : (is_word ask.curator curator && (ask.number == number)) ≡ true → batch_of curator number a.last a.older ≡ None
    old_none h =
        let c : ask.curator ≡ curator = text_exact ask.curator curator (equal (text_cmp ask.curator curator) (and_first (is_word ask.curator curator) (ask.number == number) h)) in
        let n : ask.number ≡ number = same_number ask.number number (and_second (is_word ask.curator curator) (ask.number == number) h) in
        ap (λ x. batch_of x number a.last a.older) (sym c) ∙ ap (λ x. batch_of ask.curator x a.last a.older) (sym n) ∙ fresh

    one : version ≡ length (a.last ∷ a.older) + 1
    one = omega (arith, is)

    by : (b : Bool) → option_or (option_map told (if b then Some (used_by ask version) else None)) (batch_of curator number a.last a.older)
        ≡ option_or (if b then Some (length (a.last ∷ a.older) + 1, sha256 ask.body) else None) (batch_of curator number a.last a.older)
    by true = ap (λ n. Some (n, sha256 ask.body)) one
    by false = refl

-- a word is itself
pub word_itself : (a b : List ℕ) → a ≡ b → is_word a b ≡ true
word_itself a b e = ap (is_word a) (sym e) ∙ ap is_eq (tied_itself text_total a)

-- and no other
pub word_other : (a b : List ℕ) → (a ≡ b → ⊥) → is_word a b ≡ false
word_other a b h = by (is_word a b) refl
  where
    by : (t : Bool) → is_word a b ≡ t → t ≡ false
    by true e = absurd (h (text_exact a b (equal (text_cmp a b) e)))
    by false e = refl

-- the order of edits by their places is total
edits_total : IsTotalOrder (by_place used_cmp)
edits_total = on_total (λ (e : Edit UsedNumber). place e) used_total

-- an edit alone stands in order
pub one_edit : (e : Edit UsedNumber) → IsStrictlySortedBy (by_place used_cmp) (e ∷ [])
one_edit e = sorted_from_rises (by_place used_cmp) edits_total (e ∷ []) refl

-- and so does none
pub no_edit : IsStrictlySortedBy (by_place used_cmp) []
no_edit = sorted_from_rises (by_place used_cmp) edits_total [] refl
