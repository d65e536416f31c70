-- The records of a text, one after the other.
use Rattle.std.proofs.Common.{◌≡◌, ◌<◌, ◌≤◌, ◌+◌, ℕ, zero, suc, Bool, true, false, ◌==◌, List, [], ◌∷◌, Option, Some, None, length, refl, ap, subst, arith}
use Rattle.std.specs.Prelude.{if◌then◌else◌}
use Rattle.csv.specs.Machine.{Read, step, in_field, start_field, start_record, ends_with, is_end, ends_at_end, next_record, fields_after, field_after}
use Rattle.csv.specs.Reading.{records_from, records_next, default_config, strip_bom, is_bom}
use Rattle.csv.specs.declared.parser.State.{State}
use Rattle.csv.specs.declared.parser.State.TheVariants as st
use Rattle.csv.specs.declared.parser.Action.{Action}
use Rattle.csv.specs.declared.parser.Action.TheVariants as act
use Rattle.csv.specs.declared.parser.Terminator.TheVariants as term
use Rattle.csv_records.specs.Records.{rest_of, records_of}

-- a step that ends a record leads between two records
Ends : State × Action → Type 0
Ends q = is_end q.1 ≡ true → ends_at_end q.0 ≡ false

choice : (b : Bool) (p q : State × Action) → Ends p → Ends q → Ends (if b then p else q)
choice true p q f g = f
choice false p q f g = g

goes_on : (s : State) (a : Action) → is_end a ≡ false → Ends (s, a)
unfolding Ends
goes_on s a e f = cc

after : (b : Bool) → Ends ((if b then st.AfterCr else st.StartRecord), act.EndRecord)
unfolding Ends
after true e = refl
after false e = refl

in_field_ends : (c : ℕ) → Ends (in_field default_config c)
in_field_ends c = choice (c == 44) _ _ (goes_on st.StartField act.EndField refl) (choice (ends_with term.CRLF c) _ _ (after (c == 13)) (goes_on st.InField act.Copy refl))

start_field_ends : (c : ℕ) → Ends (start_field default_config c)
start_field_ends c = choice (c == 34) _ _ (goes_on st.InQuoted act.Skip refl) (in_field_ends c)

start_record_ends : (c : ℕ) → Ends (start_record default_config c)
start_record_ends c = choice (ends_with term.CRLF c) _ _ (goes_on st.StartRecord act.Skip refl) (start_field_ends c)

step_ends : (s : State) (c : ℕ) → Ends (step default_config s c)
step_ends st.StartRecord c = start_record_ends c
step_ends st.StartField c = start_field_ends c
step_ends st.InField c = in_field_ends c
step_ends st.InQuoted c = choice (c == 34) _ _ (goes_on st.AfterQuote act.Skip refl) (goes_on st.InQuoted act.Copy refl)
step_ends st.InEscape c = goes_on st.InQuoted act.Copy refl
step_ends st.AfterQuote c = choice (c == 34) _ _ (goes_on st.InQuoted act.Copy refl) (in_field_ends c)
step_ends st.InComment c = choice (c == 10) _ _ (goes_on st.StartRecord act.Skip refl) (goes_on st.InComment act.Skip refl)
step_ends st.AfterCr c = choice (c == 10) _ _ (goes_on st.StartRecord act.Skip refl) (start_record_ends c)

-- a record that was read ends between two records, and takes a byte at least where there is one
pub record Took (xs : List ℕ) (p : Read) : Type 0 where
  pub between : ends_at_end p.1 ≡ false
  pub fewer : length p.2 + 1 ≤ length xs + 1
  pub less : (c : ℕ) (rest : List ℕ) → xs ≡ c ∷ rest → length p.2 ≤ length rest

at_end : (b : Bool) (fields : List (List ℕ)) (p : Read) → (if b then Some (fields, st.StartRecord, []) else None) ≡ Some p → Took [] p
at_end true fields p e = let is : (fields, st.StartRecord, []) ≡ p = cc in
    subst (λ (q : Read). Took [] q) is (record { between = refl; fewer = omega arith; less = λ c rest h. cc })
at_end false fields p e = cc

more : (c : ℕ) (rest : List ℕ) (p : Read) → Took rest p → Took (c ∷ rest) p
more c rest p t = record { between = t.between; fewer = let f = t.fewer in omega arith; less = λ d others h. let same : rest ≡ others = cc in let f = t.fewer in let n : length rest ≡ length others = ap length same in omega arith }

ended_here : (s : State) (c : ℕ) (rest : List ℕ) (fields : List (List ℕ)) (p : Read) → is_end (step default_config s c).1 ≡ true → Some (fields, (step default_config s c).0, rest) ≡ Some p → Took (c ∷ rest) p
unfolding Ends
ended_here s c rest fields p e h = let is : (fields, (step default_config s c).0, rest) ≡ p = cc in
    subst (λ (q : Read). Took (c ∷ rest) q) is (record { between = step_ends s c e; fewer = omega arith; less = λ d others k. let same : rest ≡ others = cc in let n : length rest ≡ length others = ap length same in omega arith })

pub took : (s : State) (fields : List (List ℕ)) (field xs : List ℕ) (p : Read) → next_record default_config s fields field xs ≡ Some p → Took xs p
unfolding next_record
took s fields field [] p e = at_end (ends_at_end s) _ p e
took s fields field (c ∷ rest) p e = by (is_end (step default_config s c).1) refl e
    (λ h. more c rest p (took (step default_config s c).0 (fields_after (step default_config s c).1 fields field) (field_after (step default_config s c).1 c field) rest p h))
  where
    by : (b : Bool) → is_end (step default_config s c).1 ≡ b
        → (if b then Some (fields_after (step default_config s c).1 fields field, (step default_config s c).0, rest)
        else next_record default_config (step default_config s c).0 (fields_after (step default_config s c).1 fields field) (field_after (step default_config s c).1 c field) rest) ≡ Some p
        → (next_record default_config (step default_config s c).0 (fields_after (step default_config s c).1 fields field) (field_after (step default_config s c).1 c field) rest ≡ Some p → Took (c ∷ rest) p)
        → Took (c ∷ rest) p
    by true h k later = ended_here s c rest _ p h k
    by false h k later = later k

-- between two records there is no record without a byte
nothing_left : (s : State) (p : Read) → ends_at_end s ≡ false → next_record default_config s [] [] [] ≡ Some p → ⊥
unfolding next_record
nothing_left s p h e = let none : None ≡ Some p = subst (λ b. (if b then Some ([] ∷ [], st.StartRecord, []) else None) ≡ Some p) h e in cc

pub shorter : (s : State) (xs : List ℕ) (p : Read) → ends_at_end s ≡ false → next_record default_config s [] [] xs ≡ Some p → length p.2 < length xs
shorter s [] p h e = absurd (nothing_left s p h e)
shorter s (c ∷ rest) p h e = let l = (took s [] [] (c ∷ rest) p e).less c rest refl in omega arith

-- how far the records are counted makes no difference, where it is far enough
enough : (n m : ℕ) (s : State) (xs : List ℕ) → ends_at_end s ≡ false → length xs < n → length xs < m → records_from default_config n s xs ≡ records_from default_config m s xs
unfolding records_from
enough zero m s xs h p q = absurd (omega arith)
enough (suc n) zero s xs h p q = absurd (omega arith)
enough (suc n) (suc m) s xs h p q = by (next_record default_config s [] [] xs) refl (λ t u less more between. enough n m t u between less more)
  where
    by : (o : Option Read) → next_record default_config s [] [] xs ≡ o
        → ((t : State) (u : List ℕ) → length u < n → length u < m → ends_at_end t ≡ false → records_from default_config n t u ≡ records_from default_config m t u)
        → records_next (records_from default_config n) o ≡ records_next (records_from default_config m) o
    by None e later = refl
    by (Some r) e later = let less = shorter s xs r h e in ap (λ l. r.0 ∷ l) (later r.1 r.2 (omega arith) (omega arith) (took s [] [] xs r e).between)

pub one_more : (s : State) (xs : List ℕ) (p : Read) → ends_at_end s ≡ false → next_record default_config s [] [] xs ≡ Some p → rest_of s xs ≡ p.0 ∷ rest_of p.1 p.2
unfolding records_from
one_more s xs p h e =
    let less = shorter s xs p h e in
    let long : length xs + 1 ≡ suc (length xs) = omega arith in
    rw long (rw e (ap (λ l. p.0 ∷ l) (enough (length xs) (length p.2 + 1) p.1 p.2 (took s [] [] xs p e).between less (omega arith))))

pub no_more : (s : State) (xs : List ℕ) → next_record default_config s [] [] xs ≡ None → rest_of s xs ≡ []
unfolding records_from
no_more s xs e = let long : length xs + 1 ≡ suc (length xs) = omega arith in rw long (rw e refl)

-- no more records than bytes
few_from : (n : ℕ) (s : State) (xs : List ℕ) → ends_at_end s ≡ false → length xs < n → length (records_from default_config n s xs) ≤ length xs
unfolding records_from
few_from zero s xs h lt = absurd (omega arith)
few_from (suc n) s xs h lt = by (next_record default_config s [] [] xs) refl (λ t u between less. few_from n t u between less)
  where
    by : (o : Option Read) → next_record default_config s [] [] xs ≡ o → ((t : State) (u : List ℕ) → ends_at_end t ≡ false → length u < n → length (records_from default_config n t u) ≤ length u)
        → length (records_next (records_from default_config n) o) ≤ length xs
    by None e more = omega arith
    by (Some r) e more = let less = shorter s xs r h e in let rest = more r.1 r.2 (took s [] [] xs r e).between (omega arith) in omega (arith, rest)

without_mark : (text : List ℕ) → length (strip_bom text) ≤ length text
unfolding strip_bom
without_mark [] = omega arith
without_mark (a ∷ []) = omega arith
without_mark (a ∷ b ∷ []) = omega arith
without_mark (a ∷ b ∷ c ∷ rest) = by (is_bom a b c)
  where
    by : (mark : Bool) → length (if mark then rest else a ∷ b ∷ c ∷ rest) ≤ length (a ∷ b ∷ c ∷ rest)
    by true = omega arith
    by false = omega arith

pub few_records : (text : List ℕ) → length (records_of text) ≤ length text
few_records text =
    let few = few_from (length (strip_bom text) + 1) st.StartRecord (strip_bom text) refl (omega arith) in
    let short = without_mark text in
    omega (arith, few, short)
