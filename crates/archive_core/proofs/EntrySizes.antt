-- The payload of each entry of a legal history is as small as a record wants it.
use Rattle.std.proofs.Common.{◌≡◌, ℕ, zero, suc, ◌+◌, ◌*◌, ◌≤◌, true, not, ◌&&◌, List, [], ◌∷◌, ◌++◌, None, length, refl, ap, ◌∙◌, subst, arith, length-append}
use Rattle.std.specs.Prelude.{nat_le, nat_lt, Some}
use Rattle.std.specs.Int.{w64, cast_unsigned}
use Rattle.std.specs.List.{AllByRecursion, flat_map}
use Rattle.std.proofs.lemmas.Bool.Decides.{nat_tests}
use Rattle.std.proofs.lemmas.List.Elements.{All-nil, All-cons, All-pop}
use Rattle.cite_schema.specs.declared.value.Value.{Value}
use Rattle.cite_schema.specs.declared.value.Value.TheVariants as values
use Rattle.cite_schema.specs.declared.step.Step.{Step}
use Rattle.cite_schema.specs.declared.step.Step.TheVariants.{Rename, Add, DropColumn, Scale, Recode, RetypeToText}
use Rattle.cite_schema.specs.declared.query.CiteAsk.{CiteAsk}
use Rattle.cite_schema.proofs.Results.{demanded}
use Rattle.cite_schema.proofs.Rising.{and_first, and_second}
use Rattle.archive_journal.specs.Laws.{AreSmall}
use Rattle.entry_codec.specs.declared.entry.FoundEntry.{FoundEntry}
use Rattle.entry_codec.specs.declared.entry.BatchEntry.{BatchEntry}
use Rattle.entry_codec.specs.declared.entry.MigrateEntry.{MigrateEntry}
use Rattle.entry_codec.specs.declared.entry.Entry.{Entry}
use Rattle.entry_codec.specs.declared.entry.Entry.TheVariants as entries
use Rattle.entry_codec.specs.Payloads.{big_endian, spelled_text, spelled_body, spelled_value, spelled_step, spelled_list, payload}
use Rattle.entry_codec.specs.Spellable.{held, FitsText, FitsValue, FitsStep}
use Rattle.archive_model.specs.declared.answers.Cited.{Cited}
use Rattle.archive_model.specs.Archives.{Archive, columns_of}
use Rattle.archive_model.specs.Outcomes.{Outcome}
use Rattle.archive_model.specs.Citing.{cite_entry, new_citation, CiteStep}
use Rattle.archive_model.specs.Histories.{found_fault, founded, cite_ask, MakesBy, Makes, Runs, LeadsTo}
use Rattle.archive_model.proofs.FoundingSize.{founding_fits}
use Rattle.archive_model.proofs.Growing.{grow}
use Rattle.archive_model.proofs.Made.{made, cited, moved}
use Rattle.archive_model.proofs.Sound.{columns_carried, citations_resolve}
use Rattle.archive_state.proofs.MoveEntries.{steps_fit}
use Rattle.archive_core.specs.Keeping.{payloads_of}
use Rattle.archive_core.proofs.Lengths.{payloads_grow}

at_most : (n m : ℕ) → nat_le n m ≡ true → n ≤ m
at_most n m h = grind (arith, nat_tests)

not_above : (most n : ℕ) → not (nat_lt most n) ≡ true → n ≤ most
not_above most n h = grind (arith, nat_tests)

length_bytes : (width n : ℕ) → length (big_endian width n) ≡ width
unfolding big_endian
length_bytes zero n = refl
length_bytes (suc width) n = ap suc (length_bytes width n)

length_text : (t : List ℕ) → length (spelled_text t) ≡ 2 + length t
length_text t = length-append (big_endian 2 (length t)) t ∙ ap (λ n. n + length t) (length_bytes 2 (length t))

text_is_small : (t : List ℕ) → FitsText t → length (spelled_text t) ≤ 65537
text_is_small t fits = let long = length_text t in omega (arith, long)

value_is_small : (v : Value) → FitsValue held v → length (spelled_value v) ≤ 65538
value_is_small (values.Int z) fits = let long = length_bytes 8 (cast_unsigned w64 z) in omega (arith, long)
value_is_small (values.Text t) fits = let small = text_is_small t fits in omega (arith, small)

-- two texts together
both_small : (a b : List ℕ) (n m : ℕ) → length a ≤ n → length b ≤ m → length (a ++ b) ≤ n + m
both_small a b n m h k = let both = length-append a b in omega arith

-- a step has a text and two values, at most
step_is_small : (s : Step) → FitsStep held s → length (spelled_step s) ≤ 196614
step_is_small (Rename column to) fits =
    let small = both_small (spelled_text column) (spelled_text to) 65537 65537 (text_is_small column fits.0) (text_is_small to fits.1) in
    omega (arith, small)
step_is_small (Add column value) fits =
    let small = both_small (spelled_text column) (spelled_value value) 65537 65538 (text_is_small column fits.0) (value_is_small value fits.1) in
    omega (arith, small)
step_is_small (DropColumn column) fits = let small = text_is_small column fits in omega (arith, small)
step_is_small (Scale column by plus) fits =
    let numbers = length-append (big_endian 8 (cast_unsigned w64 by)) (big_endian 8 (cast_unsigned w64 plus)) in
    let all = length-append (spelled_text column) (big_endian 8 (cast_unsigned w64 by) ++ big_endian 8 (cast_unsigned w64 plus)) in
    let first = length_bytes 8 (cast_unsigned w64 by) in
    let second = length_bytes 8 (cast_unsigned w64 plus) in
    let small = text_is_small column fits.0 in
    omega (arith, numbers, all, first, second, small)
step_is_small (Recode column old new) fits =
    let values = both_small (spelled_value old) (spelled_value new) 65538 65538 (value_is_small old fits.1) (value_is_small new fits.2) in
    let small = both_small (spelled_text column) (spelled_value old ++ spelled_value new) 65537 131076 (text_is_small column fits.0) values in
    omega (arith, small)
step_is_small (RetypeToText column) fits = let small = text_is_small column fits in omega (arith, small)

steps_are_small : (steps : List Step) → AllByRecursion (FitsStep held) steps → length (flat_map spelled_step steps) ≤ 196614 * length steps
steps_are_small [] fits = omega arith
steps_are_small (x ∷ xs) fits =
    let both = length-append (spelled_step x) (flat_map spelled_step xs) in
    let here = step_is_small x fits.0 in
    let more = steps_are_small xs fits.1 in
    omega (arith, both, here, more)

-- 16 steps are small enough
migration_is_small : (e : MigrateEntry) → length e.steps ≤ 16 → AllByRecursion (FitsStep held) e.steps → length (payload (entries.Migrate e)) ≤ 16777216
migration_is_small e few fits =
    let all = length-append (big_endian 8 e.stamp) (big_endian 4 e.schema ++ spelled_list 2 spelled_step e.steps) in
    let rest = length-append (big_endian 4 e.schema) (spelled_list 2 spelled_step e.steps) in
    let list = length-append (big_endian 2 (length e.steps)) (flat_map spelled_step e.steps) in
    let stamp = length_bytes 8 e.stamp in
    let schema = length_bytes 4 e.schema in
    let count = length_bytes 2 (length e.steps) in
    let steps = steps_are_small e.steps fits in
    omega (arith, all, rest, list, stamp, schema, count, steps)

-- so is a body of at most 8,388,608 bytes
batch_is_small : (e : BatchEntry) → length e.curator ≤ 64 → length e.body ≤ 8388608 → length (payload (entries.Batch e)) ≤ 16777216
batch_is_small e short small =
    let all = length-append (big_endian 8 e.stamp) (big_endian 4 e.schema ++ (spelled_text e.curator ++ (big_endian 4 e.number ++ spelled_body e.body))) in
    let rest = length-append (big_endian 4 e.schema) (spelled_text e.curator ++ (big_endian 4 e.number ++ spelled_body e.body)) in
    let after = length-append (spelled_text e.curator) (big_endian 4 e.number ++ spelled_body e.body) in
    let last = length-append (big_endian 4 e.number) (spelled_body e.body) in
    let body = length-append (big_endian 4 (length e.body)) e.body in
    let stamp = length_bytes 8 e.stamp in
    let schema = length_bytes 4 e.schema in
    let curator = length_text e.curator in
    let number = length_bytes 4 e.number in
    let count = length_bytes 4 (length e.body) in
    omega (arith, all, rest, after, last, body, stamp, schema, curator, number, count)

pub founding_is_small : (f : FoundEntry) → found_fault f.dataset f.columns f.stamp ≡ None → length (payload (entries.Found f)) ≤ 16777216
founding_is_small f legal = less (length (payload (entries.Found f))) (founding_fits f 16777216 (omega arith) legal)
  where
    less : (n : ℕ) → 17 + (n + 37) ≤ 16777216 → n ≤ 16777216
    less n h = omega arith

-- a citation whose entry is larger is refused
citation_is_small : (a : Archive) (ask : CiteAsk) (now : ℕ) (o : Outcome Cited) (e : Entry) (b : Archive) → CiteStep a ask now o → MakesBy o e b → length (payload e) ≤ 16777216
citation_is_small a ask now o e b s m =
    let c = cited a ask now o e b s m in
    let entry = cite_entry a ask now c.answered.bytes in
    let legal = made o a entry (record { number = length a.minted + 1; new = true }) (new_citation a ask now c.answered.bytes c.minting.form) e b c.minting.outcome m in
    let (small, rest) = demanded (not (nat_lt 16777216 (length (payload entry)))) _ _ b legal in
    subst (λ d. length (payload d) ≤ 16777216) c.entry_is (not_above 16777216 (length (payload entry)) small)

makes_small : (history : List Entry) (a : Archive) (e : Entry) (b : Archive) → LeadsTo history a → Makes a e b → length (payload e) ≤ 16777216
makes_small history a (entries.Found e) b leads m = absurd m
makes_small history a (entries.Batch e) b leads m =
    batch_is_small e (at_most (length e.curator) 64 (and_first _ _ (and_second (nat_le 1 (length e.curator)) _ m.0.curator))) m.0.body
makes_small history a (entries.Cite e) b leads (o, s, m) = citation_is_small a (cite_ask e) e.stamp o (entries.Cite e) b s m
makes_small history a (entries.Migrate e) b leads (o, s, m) =
    let v = moved a e.schema e.steps e.stamp o (entries.Migrate e) b s m in
    let (few, rest) = demanded (nat_le 1 (length e.steps) && nat_le (length e.steps) 16) _ _ v.schema v.schema_is in
    let heading = (citations_resolve history a leads).heading in
    migration_is_small e (at_most (length e.steps) 16 (and_second _ _ few)) (steps_fit 1 (columns_of a) v.schema.columns e.steps heading (columns_carried a.last.schema v.schema e.steps v.schema_is))

-- entries that stand behind a legal history are small
runs_small : (history : List Entry) (a : Archive) (es : List Entry) (b : Archive) → LeadsTo history a → Runs a es b → AreSmall (payloads_of es)
runs_small history a [] b leads runs = All-nil (λ (p : List ℕ). length p ≤ 16777216)
runs_small history a (e ∷ es) b leads (next, m, runs) =
    All-cons (λ (p : List ℕ). length p ≤ 16777216) (payload e) (payloads_of es) (makes_small history a e next leads m) (runs_small (history ++ e ∷ []) next es b (grow history a next e leads m) runs)

pub payloads_are_small : (history : List Entry) (a : Archive) → LeadsTo history a → AreSmall (payloads_of history)
payloads_are_small [] a h = absurd h
payloads_are_small (entries.Found f ∷ es) a h =
    All-cons (λ (p : List ℕ). length p ≤ 16777216) (payload (entries.Found f)) (payloads_of es) (founding_is_small f h.0) (runs_small (entries.Found f ∷ []) (founded f) es a (h.0, refl) h.1)
payloads_are_small (entries.Batch e ∷ es) a h = absurd h
payloads_are_small (entries.Cite e ∷ es) a h = absurd h
payloads_are_small (entries.Migrate e ∷ es) a h = absurd h

-- so is an entry that may stand behind a history
pub follower_is_small : (history : List Entry) (e : Entry) (b : Archive) → LeadsTo (history ++ e ∷ []) b → length (payload e) ≤ 16777216
follower_is_small history e b leads =
    (All-pop (λ (p : List ℕ). length p ≤ 16777216) (payloads_of (history ++ e ∷ [])) (payloads_of history) (Some (payload e)) (payloads_grow history e) (payloads_are_small (history ++ e ∷ []) b leads)).1
