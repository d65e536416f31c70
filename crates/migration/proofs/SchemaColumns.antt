-- Columns that make a schema are carried to columns that make one.
use Rattle.std.proofs.Common.{◌≡◌, ◌≢◌, ℕ, zero, suc, ◌+◌, ◌<◌, ◌≤◌, Bool, true, false, ◌&&◌, ◌||◌, List, [], ◌∷◌, ◌++◌, IsTrue, length, refl, sym, ap, ◌∙◌, subst, arith, length-append}
use Rattle.std.specs.Prelude.{Ok, nat_lt}
use Rattle.std.specs.List.{AllByRecursion, AllPairs}
use Rattle.std.specs.Ordering.{is_eq}
use Rattle.std.proofs.lemmas.Bool.Decides.{nat_tests}
use Rattle.std.proofs.lemmas.Cmp.{tied_itself}
use Rattle.std.proofs.lemmas.List.Elements.{recursion_from_All, All-from_recursion}
use Rattle.std.proofs.lemmas.List.Kept.{AllPairs-cons}
use Rattle.cite_schema.specs.Values.{text_cmp, kind_of}
use Rattle.cite_schema.specs.Headings.{is_name, is_named_before}
use Rattle.cite_schema.specs.declared.schema.Column.{Column}
use Rattle.cite_schema.specs.declared.step.Step.{Step}
use Rattle.cite_schema.specs.declared.step.Step.TheVariants.{Rename, Add, DropColumn, Scale, Recode, RetypeToText}
use Rattle.cite_schema.proofs.Orders.{text_total}
use Rattle.cite_schema.proofs.Results.{unfaulted}
use Rattle.cite_schema.proofs.Rising.{and_first}
use Rattle.cite_schema.proofs.WellNamed.{are_well_named, well_named_is}
use Rattle.migration.specs.Places.{changed, without}
use Rattle.migration.specs.Columns.{place_of, column_after, columns_after, columns_after_all, step_fault, may_come_in}
use Rattle.migration.specs.CarryLaws.{CarriedColumnsMakeSchemas}
use Rattle.migration.proofs.Faultless.{IsFaultless, faultless, not_false}
use Rattle.migration.proofs.Keys.{step_leaves_some}

module _ {X : Type 0} (P : X → Type 0) where
  all_changed : (g : X → X) → ((x : X) → P x → P (g x)) → (i : ℕ) (xs : List X) → AllByRecursion P xs → AllByRecursion P (changed g i xs)
  all_changed g turn i [] h = tt
  all_changed g turn zero (x ∷ xs) h = (turn x h.0, h.1)
  all_changed g turn (suc i) (x ∷ xs) h = (h.0, all_changed g turn i xs h.1)

  all_without : (i : ℕ) (xs : List X) → AllByRecursion P xs → AllByRecursion P (without i xs)
  all_without i [] h = tt
  all_without zero (x ∷ xs) h = h.1
  all_without (suc i) (x ∷ xs) h = (h.0, all_without i xs h.1)

  all_more : (xs : List X) (y : X) → AllByRecursion P xs → P y → AllByRecursion P (xs ++ y ∷ [])
  all_more [] y h k = (k, tt)
  all_more (x ∷ xs) y h k = (h.0, all_more xs y h.1 k)

pub length_changed : {X : Type 0} (g : X → X) (i : ℕ) (xs : List X) → length (changed g i xs) ≡ length xs
length_changed g i [] = refl
length_changed g zero (x ∷ xs) = refl
length_changed g (suc i) (x ∷ xs) = ap suc (length_changed g i xs)

length_without : {X : Type 0} (i : ℕ) (xs : List X) → length (without i xs) ≤ length xs
length_without i [] = omega arith
length_without zero (x ∷ xs) = omega arith
length_without (suc i) (x ∷ xs) = let more = length_without i xs in omega arith

-- no two columns have one name
NamesDiffer : List Column → Type 0
NamesDiffer [] = Unit {0}
NamesDiffer (c ∷ cs) = AllByRecursion (λ d. c.name ≢ d.name) cs × NamesDiffer cs

differ_from : (cs : List Column) → AllPairs (λ c d. c.name ≢ d.name) cs → NamesDiffer cs
unfolding NamesDiffer
differ_from [] a = tt
differ_from (c ∷ cs) a =
    (recursion_from_All (λ d. c.name ≢ d.name) cs (λ k e lt. a 0 (suc k) e (omega arith) (omega arith)), differ_from cs (λ i j d lt le. a (suc i) (suc j) d (omega arith) (omega arith)))

differ_to : (cs : List Column) → NamesDiffer cs → AllPairs (λ c d. c.name ≢ d.name) cs
unfolding NamesDiffer
differ_to [] h = λ i j d lt le. absurd (omega arith)
differ_to (c ∷ cs) h = AllPairs-cons (λ x y. x.name ≢ y.name) c cs (All-from_recursion (λ d. c.name ≢ d.name) cs h.0) (differ_to cs h.1)

neither : (a b : Bool) → (a || b) ≡ false → (a ≡ false) × (b ≡ false)
neither true b e = absurd (cc)
neither false b e = (refl, e)

free_names : (cs : List Column) (name : List ℕ) → is_named_before cs name ≡ false → AllByRecursion (λ c. c.name ≢ name) cs
free_names [] name e = tt
free_names (c ∷ cs) name e = let (a, b) = neither _ _ e in (λ same. other same a, free_names cs name b)
  where
    other : c.name ≡ name → is_eq (text_cmp c.name name) ≡ false → ⊥
    other same a = let c : true ≡ false = sym (ap is_eq (tied_itself text_total c.name)) ∙ ap (λ n. is_eq (text_cmp c.name n)) same ∙ a in absurd (cc)

differ_renamed : (to : List ℕ) (i : ℕ) (cs : List Column) → NamesDiffer cs → AllByRecursion (λ c. c.name ≢ to) cs → NamesDiffer (changed (λ c. record c { name = to }) i cs)
unfolding NamesDiffer
differ_renamed to i [] h free = tt
differ_renamed to zero (c ∷ cs) h free = (turned cs free.1, h.1)
  where
    turned : (ds : List Column) → AllByRecursion (λ d. d.name ≢ to) ds → AllByRecursion (λ d. to ≢ d.name) ds
    turned [] g = tt
    turned (d ∷ ds) g = (λ e. g.0 (sym e), turned ds g.1)
differ_renamed to (suc i) (c ∷ cs) h free = (all_changed (λ d. c.name ≢ d.name) (λ d. record d { name = to }) (λ d g. free.0) i cs h.0, differ_renamed to i cs h.1 free.1)

differ_kept : (g : Column → Column) → ((c : Column) → (g c).name ≡ c.name) → (i : ℕ) (cs : List Column) → NamesDiffer cs → NamesDiffer (changed g i cs)
unfolding NamesDiffer
differ_kept g same i [] h = tt
differ_kept g same zero (c ∷ cs) h = (subst (λ name. AllByRecursion (λ d. name ≢ d.name) cs) (sym (same c)) h.0, h.1)
differ_kept g same (suc i) (c ∷ cs) h = (all_changed (λ d. c.name ≢ d.name) g (λ d k e. k (e ∙ same d)) i cs h.0, differ_kept g same i cs h.1)

differ_without : (i : ℕ) (cs : List Column) → NamesDiffer cs → NamesDiffer (without i cs)
unfolding NamesDiffer
differ_without i [] h = tt
differ_without zero (c ∷ cs) h = h.1
differ_without (suc i) (c ∷ cs) h = (all_without (λ d. c.name ≢ d.name) i cs h.0, differ_without i cs h.1)

differ_more : (cs : List Column) (n : Column) → NamesDiffer cs → AllByRecursion (λ c. c.name ≢ n.name) cs → NamesDiffer (cs ++ n ∷ [])
unfolding NamesDiffer
differ_more [] n h free = (tt, tt)
differ_more (c ∷ cs) n h free = (all_more (λ d. c.name ≢ d.name) cs n h.0 free.0, differ_more cs n h.1 free.1)

-- columns that make a schema, by recursion
record Named (cs : List Column) : Type 0 where
  some : 0 < length cs
  few : length cs ≤ 64
  named : AllByRecursion (λ c. IsTrue (is_name c.name)) cs
  apart : NamesDiffer cs

not_many : (n : ℕ) → nat_lt 64 n ≡ false → n ≤ 64
not_many n e = grind (arith, nat_tests)

kept_named : (columns : List Column) (step : Step) (g : Column → Column) → ((c : Column) → (g c).name ≡ c.name) → (i : ℕ) → 0 < length (changed g i columns) → Named columns → Named (changed g i columns)
kept_named columns step g same i some h = record {
  some = some;
  few = subst (λ n. n ≤ 64) (sym (length_changed g i columns)) h.few;
  named = all_changed (λ c. IsTrue (is_name c.name)) g (λ c k. subst (λ name. IsTrue (is_name name)) (sym (same c)) k) i columns h.named;
  apart = differ_kept g same i columns h.apart;
}

step_named : (columns : List Column) (step : Step) → IsFaultless columns step → Named columns → Named (columns_after columns step)
step_named columns (Rename c to) f h = record {
  some = step_leaves_some columns (Rename c to) f h.some;
  few = subst (λ n. n ≤ 64) (sym (length_changed (column_after (Rename c to)) (place_of columns (Rename c to)) columns)) h.few;
  named = all_changed (λ d. IsTrue (is_name d.name)) (column_after (Rename c to)) (λ d k. not_false (is_name to) f.good) (place_of columns (Rename c to)) columns h.named;
  apart = differ_renamed to (place_of columns (Rename c to)) columns h.apart (free_names columns to f.free);
}
step_named columns (Add c v) f h = record {
  some = step_leaves_some columns (Add c v) f h.some;
  few = subst (λ n. n ≤ 64) (sym (length-append columns (record { name = c; kind = kind_of v } ∷ []))) (not_many (length columns + 1) f.fitting);
  named = all_more (λ d. IsTrue (is_name d.name)) columns (record { name = c; kind = kind_of v }) h.named (and_first (is_name c) (may_come_in v) (not_false (is_name c && may_come_in v) f.good));
  apart = differ_more columns (record { name = c; kind = kind_of v }) h.apart (free_names columns c f.free);
}
step_named columns (DropColumn c) f h = record {
  some = step_leaves_some columns (DropColumn c) f h.some;
  few = let less = length_without (place_of columns (DropColumn c)) columns in omega (arith, h.few);
  named = all_without (λ d. IsTrue (is_name d.name)) (place_of columns (DropColumn c)) columns h.named;
  apart = differ_without (place_of columns (DropColumn c)) columns h.apart;
}
step_named columns (Scale c by plus) f h = kept_named columns (Scale c by plus) (column_after (Scale c by plus)) (λ d. refl) (place_of columns (Scale c by plus)) (step_leaves_some columns (Scale c by plus) f h.some) h
step_named columns (Recode c old new) f h = kept_named columns (Recode c old new) (column_after (Recode c old new)) (λ d. refl) (place_of columns (Recode c old new)) (step_leaves_some columns (Recode c old new) f h.some) h
step_named columns (RetypeToText c) f h = kept_named columns (RetypeToText c) (column_after (RetypeToText c)) (λ d. refl) (place_of columns (RetypeToText c)) (step_leaves_some columns (RetypeToText c) f h.some) h

steps_named : (n : ℕ) (columns after : List Column) (steps : List Step) → columns_after_all n columns steps ≡ Ok after → Named columns → Named after
steps_named n columns after [] s h = let same : columns ≡ after = cc in subst Named same h
steps_named n columns after (x ∷ xs) s h =
    let (none, rest) = unfaulted (step_fault columns n x) _ after s in
    steps_named (n + 1) (columns_after columns x) after xs rest (step_named columns x (faultless columns n x none) h)

pub carried_headings : CarriedColumnsMakeSchemas
carried_headings n columns after steps s h =
    let w = are_well_named columns h in
    let g = steps_named n columns after steps s (record { some = w.some; few = w.few; named = recursion_from_All (λ c. IsTrue (is_name c.name)) columns w.named; apart = differ_from columns w.apart }) in
    well_named_is after (record { some = g.some; few = g.few; named = All-from_recursion (λ c. IsTrue (is_name c.name)) after g.named; apart = differ_to after g.apart })
