-- Which citation a number stands for, and how numbered ones go on.
use Rattle.std.proofs.Common.{◌≡◌, ℕ, zero, suc, ◌+◌, ◌-◌, ◌<◌, ◌≤◌, ◌⊎◌, inl, inr, ⊎_elim, List, [], ◌∷◌, ◌++◌, Option, Some, None, length, slice_get, refl, sym, ap, ◌∙◌, subst, arith, add-one}
use Rattle.std.specs.Cmp.{nat_cmp_is}
use Rattle.std.specs.List.{AllByRecursion}
use Rattle.std.specs.Ordering.{nat_cmp}
use Rattle.std.specs.declared.cmp.Ordering.TheVariants.{Less}
use Rattle.std.proofs.lemmas.List.{map-append}
use Rattle.std.proofs.lemmas.Option.{none-some, same_Some, slice_get_within}
use Rattle.shared_pages.specs.declared.edit.Edit.TheVariants.{Put}
use Rattle.shared_pages.specs.Edits.{edited}
use Rattle.shared_pages.proofs.Editing.{append_none, edited-behind}
use Rattle.shared_pages.proofs.Places.{within, behind}
use Rattle.query_store.specs.declared.citation.Citation.{Citation}
use Rattle.query_store.specs.declared.numbered.Numbered.{Numbered}
use Rattle.query_store.specs.Citations.{numbered}
use Rattle.query_store.specs.Places.{number_cmp, number_total, citations_of, listed, entries, all_citations, AreNumbered}

-- the citation with a number stands at the place before the number
pub at_place : (cs : List Citation) (n : ℕ) → 0 < n → numbered cs n ≡ slice_get cs (n - 1)
at_place cs zero l = absurd (omega arith)
at_place cs (suc n) l = ap (slice_get cs) (before n)
  where
    before : (n : ℕ) → n ≡ suc n - 1
    before n = omega arith

-- no citation's number is over the count
pub number_last : (cs : List Citation) (n : ℕ) (c : Citation) → numbered cs n ≡ Some c → n ≤ length cs
number_last cs zero c e = omega arith
number_last cs (suc n) c e = let l : n < length cs = slice_get_within cs n c e in omega arith

-- a citation keeps its number where one more comes
pub kept_number : (cs : List Citation) (new : Citation) (n : ℕ) (c : Citation) → numbered cs n ≡ Some c → numbered (cs ++ new ∷ []) n ≡ Some c
kept_number cs new zero c e = e
kept_number cs new (suc n) c e = within cs (new ∷ []) n (slice_get_within cs n c e) ∙ e

-- the new one has the next number
pub next_number : (cs : List Citation) (new : Citation) (n : ℕ) → n ≡ length cs + 1 → numbered (cs ++ new ∷ []) n ≡ Some new
next_number cs new n e =
    let p : 0 < n = omega arith in
    let le : length cs ≤ n - 1 = omega arith in
    let none : n - 1 - length cs ≡ 0 = omega arith in
    at_place (cs ++ new ∷ []) n p ∙ behind cs (new ∷ []) (n - 1) le ∙ ap (slice_get (new ∷ [])) none

-- each place is an earlier one, or that behind all
earlier_or_behind : (cs : List Citation) (new : Citation) (k : ℕ) (c : Citation) → slice_get (cs ++ new ∷ []) k ≡ Some c → (slice_get cs k ≡ Some c) ⊎ ((k ≡ length cs) × (new ≡ c))
earlier_or_behind [] new zero c e = inr (refl, same_Some new c e)
earlier_or_behind [] new (suc k) c e = absurd (none-some c e)
earlier_or_behind (d ∷ ds) new zero c e = inl e
earlier_or_behind (d ∷ ds) new (suc k) c e = ⊎_elim (λ old. inl old) (λ now. inr (ap suc now.0, now.1)) (earlier_or_behind ds new k c e)

-- each number is an earlier one, or that of the new citation
pub earlier_or_next : (cs : List Citation) (new : Citation) (n : ℕ) (c : Citation) → numbered (cs ++ new ∷ []) n ≡ Some c → (numbered cs n ≡ Some c) ⊎ ((n ≡ length cs + 1) × (new ≡ c))
earlier_or_next cs new zero c e = inl e
earlier_or_next cs new (suc n) c e = ⊎_elim (λ old. inl old) (λ now. inr (ap suc now.0 ∙ sym (add-one (length cs)), now.1)) (earlier_or_behind cs new n c e)

-- entries are below the number that comes next
below : (first : ℕ) (ns : List Numbered) (m : ℕ) → AreNumbered first ns → first + length ns ≤ m → AllByRecursion (λ (n : Numbered). nat_cmp n.number m ≡ Less) ns
below first [] m h l = tt
below first (n ∷ ns) m h l =
    let at = h.0 in
    let less : n.number < m = omega arith in
    (sym (nat_cmp_is n.number m Less less), below (first + 1) ns m h.1 (omega arith))

-- an entry with the next number goes behind the others
pub put_behind : (older : List Numbered) (entry : Numbered) → AreNumbered 1 older → entry.number ≡ length older + 1 → edited number_cmp older (Put entry ∷ []) ≡ older ++ entry ∷ []
put_behind older entry h e =
    ap (λ l. edited number_cmp l (Put entry ∷ [])) (sym (append_none older))
    ∙ edited-behind number_cmp number_total older [] (Put entry ∷ []) (below 1 older entry.number h (omega arith), tt)

-- what goes on with the next number is numbered
numbered_on : (first : ℕ) (ns ms : List Numbered) → AreNumbered first ns → AreNumbered (first + length ns) ms → AreNumbered first (ns ++ ms)
numbered_on first [] ms h k = subst (λ n. AreNumbered n ms) (same first) k
  where
    same : (n : ℕ) → n + 0 ≡ n
    same n = omega arith
numbered_on first (n ∷ ns) ms h k = (h.0, numbered_on (first + 1) ns ms h.1 (subst (λ n. AreNumbered n ms) (same first (length ns)) k))
  where
    same : (n m : ℕ) → n + suc m ≡ n + 1 + m
    same n m = omega arith

-- so the older citations with the newest are numbered
pub all_numbered : (older : List Numbered) (newest : Option Citation) → AreNumbered 1 older → AreNumbered 1 (older ++ entries (length older + 1) newest)
all_numbered older newest h = numbered_on 1 older (entries (length older + 1) newest) h (subst (λ n. AreNumbered n (entries (length older + 1) newest)) (same (length older)) (one (length older + 1) newest))
  where
    same : (n : ℕ) → n + 1 ≡ 1 + n
    same n = omega arith

    one : (n : ℕ) (o : Option Citation) → AreNumbered n (entries n o)
    one n None = tt
    one n (Some c) = (refl, tt)

-- and are the same citations
pub all_the_same : (older : List Numbered) (newest : Option Citation) → citations_of (older ++ entries (length older + 1) newest) ≡ all_citations older newest
all_the_same older newest = map-append (λ (n : Numbered). n.citation) older (entries (length older + 1) newest) ∙ ap (λ l. citations_of older ++ l) (by newest)
  where
    by : (o : Option Citation) → citations_of (entries (length older + 1) o) ≡ listed o
    by None = refl
    by (Some c) = refl
