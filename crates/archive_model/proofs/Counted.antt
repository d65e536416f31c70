-- In every archive to which a history leads, what is counted is in order.
use Rattle.std.proofs.Common.{◌≡◌, ℕ, zero, suc, ◌+◌, ◌<◌, ◌≤◌, max, Bool, true, false, cond, List, [], ◌∷◌, ◌++◌, Option, Some, None, Result, length, map, refl, sym, ap, ◌∙◌, subst, arith, length-append}
use Rattle.std.specs.Prelude.{Ok, option_map, nat_lt, nat_le, ◌&&◌, if◌then◌else◌}
use Rattle.std.specs.List.{AllByRecursion, find}
use Rattle.std.specs.Option.{option_and_then}
use Rattle.std.proofs.lemmas.List.{length-map, append-nil}
use Rattle.std.proofs.lemmas.Bool.Decides.{nat_tests}
use Rattle.cite_schema.specs.Headings.{Heading}
use Rattle.cite_schema.specs.declared.value.Value.{Value}
use Rattle.cite_schema.specs.declared.step.Step.{Step}
use Rattle.cite_schema.specs.declared.batch_ask.BatchAsk.{BatchAsk}
use Rattle.cite_schema.specs.declared.query.CiteAsk.{CiteAsk}
use Rattle.cite_schema.proofs.Results.{demanded, gave}
use Rattle.migration.specs.declared.fault.StepFault.{StepFault}
use Rattle.migration.specs.Columns.{columns_after_all, carry_schema}
use Rattle.entry_codec.specs.declared.entry.FoundEntry.{FoundEntry}
use Rattle.entry_codec.specs.declared.entry.Entry.{Entry}
use Rattle.entry_codec.specs.declared.entry.Entry.TheVariants.{Found, Batch, Cite, Migrate}
use Rattle.entry_codec.specs.Payloads.{record_length}
use Rattle.archive_model.specs.declared.answers.Refused.{Refused}
use Rattle.archive_model.specs.declared.answers.Refused.TheVariants.{ResultTooLarge}
use Rattle.archive_model.specs.declared.answers.Cited.{Cited}
use Rattle.archive_model.specs.declared.answers.Moved.{Moved}
use Rattle.archive_model.specs.Archives.{Archive, Version, Minted, ByMigration, ByBatch, columns_of, version_count, kept_in, kept_rows, carried_by}
use Rattle.archive_model.specs.Limits.{Counted, KeptRows, Versions, Citations, Weight, JournalBytes, limit, quantity, first_over, result_limit, clock_end}
use Rattle.archive_model.specs.Outcomes.{Outcome, over, stamped}
use Rattle.archive_model.specs.Batching.{with_batch}
use Rattle.archive_model.specs.Citing.{with_citation, new_minted, too_large}
use Rattle.archive_model.specs.Migrating.{with_migration, IsCarried, AreCarried}
use Rattle.archive_model.specs.Histories.{Makes, Runs, LeadsTo, found_fault, founded, batch_ask, cite_ask, records_length, journal_length, journal_frame}
use Rattle.archive_model.specs.ArchiveLaws.{AreNumbered, NeverFall, migrations_in, IsCounted, CountsKeepTheirLimits}
use Rattle.archive_model.proofs.Lists.{all_push}
use Rattle.archive_model.proofs.Founded.{founded_stamp}
use Rattle.archive_model.proofs.FoundingSize.{founding_fits}
use Rattle.archive_model.proofs.Made.{IsBatched, batched, IsCited, cited, IsMoved, moved}

numbered_push : (k : ℕ) (ms : List Minted) (m : Minted) → AreNumbered k ms → m.issue.number ≡ k + length ms → AreNumbered k (ms ++ m ∷ [])
numbered_push k [] m h e = (omega (arith, e), tt)
numbered_push k (x ∷ xs) m h e = (h.0, numbered_push (k + 1) xs m h.1 (omega (arith, e)))

numbered_carried : (a : Archive) (steps : List Step) (k : ℕ) (ms ns : List Minted) → AreCarried a steps ms ns → AreNumbered k ms → AreNumbered k ns
numbered_carried a steps k [] [] h n = tt
numbered_carried a steps k [] (y ∷ ys) h n = absurd h
numbered_carried a steps k (x ∷ xs) [] h n = absurd h
numbered_carried a steps k (x ∷ xs) (y ∷ ys) h n = (ap (λ (w : Minted). w.issue.number) h.1 ∙ n.0, numbered_carried a steps (k + 1) xs ys h.2 n.1)

pub length_carried : (a : Archive) (steps : List Step) (ms ns : List Minted) → AreCarried a steps ms ns → length ns ≡ length ms
length_carried a steps [] [] h = refl
length_carried a steps [] (y ∷ ys) h = absurd h
length_carried a steps (x ∷ xs) [] h = absurd h
length_carried a steps (x ∷ xs) (y ∷ ys) h = ap suc (length_carried a steps xs ys h.2)

sizes_carried : (a : Archive) (steps : List Step) (most : ℕ) (ms ns : List Minted) → AreCarried a steps ms ns
    → AllByRecursion (λ (m : Minted). length m.bytes ≤ most) ms → AllByRecursion (λ (m : Minted). length m.bytes ≤ most) ns
sizes_carried a steps most [] [] h small = tt
sizes_carried a steps most [] (y ∷ ys) h small = absurd h
sizes_carried a steps most (x ∷ xs) [] h small = absurd h
sizes_carried a steps most (x ∷ xs) (y ∷ ys) h small = (subst (λ n. n ≤ most) (ap (λ (w : Minted). length w.bytes) (sym h.1)) small.0, sizes_carried a steps most xs ys h.2 small.1)

not_above : (most n : ℕ) → nat_lt most n ≡ false → n ≤ most
not_above most n h = grind (arith, nat_tests)

-- where nothing is told of a test, the test failed
untold : {A : Type 0} (b : Bool) (x : A) → (if b then Some x else None) ≡ None → b ≡ false
untold true x e = absurd (cc)
untold false x e = refl

-- bytes that are not too large are few enough
few_bytes : (bytes : List ℕ) → too_large bytes ≡ None → length bytes ≤ result_limit
few_bytes bytes e = not_above result_limit (length bytes) (untold (nat_lt result_limit (length bytes)) (ResultTooLarge (length bytes)) e)

not_found : {A : Type 0} (test : A → Bool) (x : A) (xs : List A) → find test (x ∷ xs) ≡ None → (test x ≡ false) × (find test xs ≡ None)
not_found {A} test x xs e = by (test x) e
  where
    by : (b : Bool) → cond b (Some x) (find test xs) ≡ None → (b ≡ false) × (find test xs ≡ None)
    by true e = absurd (cc)
    by false e = (refl, e)

none_over : (a : Archive) (counts : List Counted) → first_over a counts ≡ None → AllByRecursion (λ c. quantity a c ≤ limit c) counts
none_over a [] e = tt
none_over a (c ∷ cs) e =
    let (fine, more) = not_found (λ d. nat_lt (limit d) (quantity a d)) c cs e in
    (not_above (limit c) (quantity a c) fine, none_over a cs more)

unmapped : {A B : Type 0} (f : A → B) (o : Option A) → option_map f o ≡ None → o ≡ None
unmapped f None e = refl
unmapped f (Some x) e = absurd (cc)

-- where no count is over its limit, each is within
within : (a : Archive) (counts : List Counted) → over a counts ≡ None → AllByRecursion (λ c. quantity a c ≤ limit c) counts
within a counts e = none_over a counts (unmapped _ (first_over a counts) e)

in_range : (now stamp end : ℕ) → nat_lt now end ≡ true → stamp < end → max now stamp < end
in_range now stamp end h k = grind (arith, nat_tests)

below : (now end : ℕ) → nat_lt now end ≡ true → now < end
below now end h = grind (arith, nat_tests)

-- all of it but the journal
record Counts (a : Archive) : Type 0 where
  numbers : AreNumbered 1 a.minted
  stamps : NeverFall a.last a.older
  last_stamp : a.last.stamp ≤ a.stamp
  clock : a.stamp < clock_end
  schema : a.last.schema.number ≡ 1 + migrations_in a.last a.older
  limits : (c : Counted) → quantity a c ≤ limit c
  sizes : AllByRecursion (λ (m : Minted). length m.bytes ≤ result_limit) a.minted

number_in : (n : ℕ) (columns : List _) (h : Heading) → ◌≡◌ {A = Result Heading StepFault} (Ok (record { number = n; columns = columns })) (Ok h) → h.number ≡ n
number_in n columns h e = let same : record { number = n; columns = columns } ≡ h = cc in ap (λ (w : Heading). w.number) (sym same)

carried_number : (old new : Heading) (steps : List Step) → carry_schema old steps ≡ Ok new → new.number ≡ old.number + 1
carried_number old new steps e =
    let (few, e1) = demanded (nat_le 1 (length steps) && nat_le (length steps) 16) _ _ new e in
    let (columns, are, e2) = gave (columns_after_all 1 old.columns steps) (λ fault. fault) _ new e1 in
    number_in (old.number + 1) columns new e2

-- a migration brings no row, and loses none
kept_moved : (v w : Version) (ws : List Version) (steps : List Step) → v.maker ≡ ByMigration steps → length (kept_in v (w ∷ ws)) ≡ length (kept_in w ws)
kept_moved v w ws steps e =
    rw e (length-append (map (option_and_then (carried_by w.schema.columns (ByMigration steps))) (kept_in w ws)) [] ∙ plus_none (length (map (option_and_then (carried_by w.schema.columns (ByMigration steps))) (kept_in w ws)))
    ∙ length-map (kept_in w ws) (option_and_then (carried_by w.schema.columns (ByMigration steps))))
  where
    plus_none : (n : ℕ) → n + 0 ≡ n
    plus_none n = omega arith

module _ (a : Archive) (h : Counts a) where
  counts_batch : (ask : BatchAsk) (now : ℕ) (e : Entry) (b : Archive) → IsBatched a ask now e b → Counts b
  counts_batch ask now e b m = subst Counts m.is (record {
    numbers = h.numbers;
    stamps = (omega (arith, h.last_stamp), h.stamps);
    last_stamp = omega arith;
    clock = in_range now a.stamp clock_end m.moment h.clock;
    schema = omega (arith, h.schema);
    limits = kept;
    sizes = h.sizes;
  })
    where
      next : Archive
      next = with_batch a ask now m.lines m.table

      room : AllByRecursion (λ c. quantity next c ≤ limit c) (Versions ∷ KeptRows ∷ Weight ∷ JournalBytes ∷ [])
      room = within next (Versions ∷ KeptRows ∷ Weight ∷ JournalBytes ∷ []) m.room

      kept : (c : Counted) → quantity next c ≤ limit c
      kept Versions = room.0
      kept KeptRows = room.1.0
      kept Weight = room.1.1.0
      kept JournalBytes = room.1.1.1.0
      kept Citations = h.limits Citations

  counts_cite : (ask : CiteAsk) (now : ℕ) (o : Outcome Cited) (e : Entry) (b : Archive) → IsCited a ask now o e b → Counts b
  counts_cite ask now o e b m = subst Counts m.is (record {
    numbers = numbered_push 1 a.minted (new_minted a ask now m.answered.bytes m.minting.form) h.numbers (omega arith);
    stamps = h.stamps;
    last_stamp = omega (arith, h.last_stamp);
    clock = in_range now a.stamp clock_end m.moment h.clock;
    schema = h.schema;
    limits = kept;
    sizes = all_push (λ (k : Minted). length k.bytes ≤ result_limit) a.minted (new_minted a ask now m.answered.bytes m.minting.form) h.sizes (few_bytes m.answered.bytes m.small);
  })
    where
      next : Archive
      next = with_citation a ask now m.answered.bytes m.minting.form

      room : AllByRecursion (λ c. quantity next c ≤ limit c) (Citations ∷ JournalBytes ∷ [])
      room = within next (Citations ∷ JournalBytes ∷ []) m.room

      kept : (c : Counted) → quantity next c ≤ limit c
      kept Versions = h.limits Versions
      kept KeptRows = h.limits KeptRows
      kept Weight = h.limits Weight
      kept JournalBytes = room.1.0
      kept Citations = room.0

  counts_move : (steps : List Step) (now : ℕ) (o : Outcome Moved) (e : Entry) (b : Archive) → IsMoved a steps now o e b → Counts b
  counts_move steps now o e b m = subst Counts m.is (record {
    numbers = numbered_carried a steps 1 a.minted m.verdict.minted m.verdict.carried h.numbers;
    stamps = (omega (arith, h.last_stamp), h.stamps);
    last_stamp = omega arith;
    clock = in_range now a.stamp clock_end m.moment h.clock;
    schema = omega (arith, h.schema, carried_number a.last.schema m.schema steps m.schema_is);
    limits = kept;
    sizes = sizes_carried a steps result_limit a.minted m.verdict.minted m.verdict.carried h.sizes;
  })
    where
      next : Archive
      next = with_migration a m.schema steps now

      few : AllByRecursion (λ c. quantity next c ≤ limit c) (Versions ∷ [])
      few = within next (Versions ∷ []) m.few

      room : AllByRecursion (λ c. quantity next c ≤ limit c) (Weight ∷ JournalBytes ∷ [])
      room = within next (Weight ∷ JournalBytes ∷ []) m.room

      kept : (c : Counted) → quantity (record next { minted = m.verdict.minted }) c ≤ limit c
      kept Versions = few.0
      kept KeptRows = subst (λ n. n ≤ limit KeptRows) (sym (kept_moved next.last a.last a.older steps refl)) (h.limits KeptRows)
      kept Weight = room.0
      kept JournalBytes = room.1.0
      kept Citations = subst (λ n. n ≤ limit Citations) (sym (length_carried a steps a.minted m.verdict.minted m.verdict.carried)) (h.limits Citations)

  counts_makes : (e : Entry) (b : Archive) → Makes a e b → Counts b
  counts_makes (Found e) b k = absurd k
  counts_makes (Batch e) b k = counts_batch (batch_ask e) e.stamp (Batch e) b (batched a (batch_ask e) e.stamp (Batch e) b k.1)
  counts_makes (Cite e) b (o, s, m) = counts_cite (cite_ask e) e.stamp o (Cite e) b (cited a (cite_ask e) e.stamp o (Cite e) b s m)
  counts_makes (Migrate e) b (o, s, m) = counts_move e.steps e.stamp o (Migrate e) b (moved a e.schema e.steps e.stamp o (Migrate e) b s m)

counts_runs : (a : Archive) (es : List Entry) (b : Archive) → Counts a → Runs a es b → Counts b
counts_runs a [] b h k = subst Counts k h
counts_runs a (e ∷ es) b h (next, m, k) = counts_runs next es b (counts_makes a h e next m) k

-- each entry puts its record behind the journal
journal_makes : (a : Archive) (e : Entry) (b : Archive) → Makes a e b → b.journal ≡ a.journal + record_length e
journal_makes a (Found e) b k = absurd k
journal_makes a (Batch e) b k =
    let m = batched a (batch_ask e) e.stamp (Batch e) b k.1 in
    ap (λ (w : Archive). w.journal) (sym m.is) ∙ ap (λ w. a.journal + record_length w) m.entry_is
journal_makes a (Cite e) b (o, s, k) =
    let m = cited a (cite_ask e) e.stamp o (Cite e) b s k in
    ap (λ (w : Archive). w.journal) (sym m.is) ∙ ap (λ w. a.journal + record_length w) m.entry_is
journal_makes a (Migrate e) b (o, s, k) =
    let m = moved a e.schema e.steps e.stamp o (Migrate e) b s k in
    ap (λ (w : Archive). w.journal) (sym m.is) ∙ ap (λ w. a.journal + record_length w) m.entry_is

journal_runs : (a : Archive) (es : List Entry) (b : Archive) → Runs a es b → b.journal ≡ a.journal + records_length es
journal_runs a [] b k = let same = ap (λ (w : Archive). w.journal) (sym k) in omega (arith, same)
journal_runs a (e ∷ es) b (next, m, k) =
    let here = journal_makes a e next m in
    let more = journal_runs next es b k in
    omega (arith, here, more)

founded_limits : (f : FoundEntry) → found_fault f.dataset f.columns f.stamp ≡ None → (c : Counted) → quantity (founded f) c ≤ limit c
founded_limits f e KeptRows = omega arith
founded_limits f e Versions = omega arith
founded_limits f e Citations = omega arith
founded_limits f e Weight = omega arith
founded_limits f e JournalBytes = founding_fits f (limit JournalBytes) (omega arith) e

counts_founded : (f : FoundEntry) → found_fault f.dataset f.columns f.stamp ≡ None → Counts (founded f)
counts_founded f e = record {
  numbers = tt;
  stamps = tt;
  last_stamp = omega arith;
  clock = below f.stamp clock_end (founded_stamp f e);
  schema = refl;
  limits = founded_limits f e;
  sizes = tt;
}

pub counts_keep_their_limits : CountsKeepTheirLimits
counts_keep_their_limits [] a h = absurd h
counts_keep_their_limits (Found f ∷ es) a h =
    let c = counts_runs (founded f) es a (counts_founded f h.0) h.1 in
    let j = journal_runs (founded f) es a h.1 in
    record { numbers = c.numbers; stamps = c.stamps; last_stamp = c.last_stamp; clock = c.clock; schema = c.schema; limits = c.limits; sizes = c.sizes; journal = omega (arith, j) }
counts_keep_their_limits (Batch e ∷ es) a h = absurd h
counts_keep_their_limits (Cite e ∷ es) a h = absurd h
counts_keep_their_limits (Migrate e ∷ es) a h = absurd h
