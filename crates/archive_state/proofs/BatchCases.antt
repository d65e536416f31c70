-- The answers of a new batch, case by case.
use Rattle.std.proofs.Common.{◌≡◌, ◌≢◌, ℕ, ◌+◌, ◌-◌, ◌^◌, ◌<◌, ◌≤◌, true, List, Option, Some, None, Result, length, max, min, sym, ap, ◌∙◌, subst, arith}
use Rattle.std.specs.Prelude.{Ok, Err, nat_le}
use Rattle.std.specs.Arc.{arc_value}
use Rattle.std.proofs.lemmas.Bool.Decides.{nat_tests}
use Rattle.cite_schema.specs.Headings.{Heading}
use Rattle.cite_schema.specs.declared.batch_ask.BatchAsk.{BatchAsk}
use Rattle.cite_schema.proofs.Rising.{and_first, and_second}
use Rattle.versioned_rows.specs.Weights.{rows_weight}
use Rattle.versioned_rows.specs.Histories.{RowHistory, rows_of}
use Rattle.entry_codec.specs.declared.entry.Entry.{Entry}
use Rattle.entry_codec.specs.declared.entry.Entry.TheVariants as entries
use Rattle.entry_codec.specs.Payloads.{payload, record_length}
use Rattle.entry_codec.specs.Spellable.{FitsEntry, IsPrintable}
use Rattle.archive_model.specs.declared.answers.Refused.TheVariants as refusals
use Rattle.archive_model.specs.declared.answers.Refused.{Refused}
use Rattle.archive_model.specs.declared.answers.Stored.{Stored}
use Rattle.archive_model.specs.Archives.{Archive, version_count}
use Rattle.archive_model.specs.Limits.{clock_end}
use Rattle.archive_model.specs.Outcomes.{stamped}
use Rattle.archive_model.specs.Batching.{batch_of, batch_entry}
use Rattle.archive_model.specs.Histories.{MayBeAsked}
use Rattle.archive_state.specs.declared.snapshot.Snapshot.{Snapshot}
use Rattle.archive_state.specs.declared.present.Present.{Present}
use Rattle.archive_state.specs.declared.plan.Made.{Made}
use Rattle.archive_state.specs.Used.{used_by}
use Rattle.archive_state.specs.Limiting.{amount, passed}
use Rattle.archive_state.specs.Standing.{StandsFor}
use Rattle.archive_state.specs.Batches.{IsNextByBody, MakesRows, PlansBatch}
use Rattle.archive_state.proofs.BatchRows.{IsMade, is_made, rows_refused, made_by, counts_of, batch_counts, other_schema, full, late, stored}
use Rattle.archive_state.proofs.BatchNext.{IsNextPresent, stands_next}

-- what is answered, whatever history it is that the present state stands for
abbrev pub AnswersBatch : Present → BatchAsk → ℕ → Result (Made Stored) Refused → Type 0
AnswersBatch p ask now result =
    (history : List Entry) (a : Archive) → StandsFor p history a → batch_of ask.curator ask.number a.last a.older ≡ None → PlansBatch a ask now history result

-- the reply to a batch that is stored in a version
abbrev pub stored_in : ℕ → Stored
stored_in version = record { version = version; new = true }

-- the entry of a batch with a stamp
abbrev pub entry_at : BatchAsk → ℕ → Entry
entry_at ask stamp = entries.Batch (record { stamp = stamp; schema = ask.schema; curator = ask.curator; number = ask.number; body = ask.body })

-- what the test of a limit tells
at_most : (n m : ℕ) → nat_le n m ≡ true → n ≤ m
at_most n m h = grind (arith, nat_tests)

-- a number within a limit is below a greater one
below : (n most limit : ℕ) → n ≤ most → most < limit → n < limit
below n most limit h k = omega arith

-- a batch that may be asked has a payload
pub printable : (ask : BatchAsk) (stamp : ℕ) → MayBeAsked ask → IsPrintable (entry_at ask stamp)
printable ask stamp asked =
    let short : length ask.curator ≤ 64 = at_most (length ask.curator) 64 (and_first _ _ (and_second _ _ asked.curator)) in
    (tt, tt, below (length ask.curator) 64 (2 ^ 16) short sixty_four, tt, asked.body)
  where
    sixty_four : 64 < 2 ^ 16
    sixty_four = omega arith

module _ (p : Present) (ask : BatchAsk) (now : ℕ) where
  -- the batch is for another schema
  pub other_schema_case : (current : ℕ) → current ≡ (arc_value p.snapshot).schema.number → ask.schema ≢ current → AnswersBatch p ask now (Err (refusals.WrongSchema current))
  other_schema_case current is other history a st fresh =
      let same = is ∙ ap (λ (h : Heading). h.number) st.agrees.shows.schema_is in
      other_schema a ask now (λ e. other (e ∙ sym same)) ∙ ap (λ n. Err (refusals.WrongSchema n)) (sym same)

  -- the body makes no rows
  pub rows_case : (refusal : Refused) → ask.schema ≡ (arc_value p.snapshot).schema.number → MakesRows (arc_value p.snapshot).schema.columns ask.body (arc_value p.snapshot).rows (Err refusal) → AnswersBatch p ask now (Err refusal)
  rows_case refusal same why history a st fresh = rows_refused (arc_value p.snapshot) a ask st.agrees.shows now history refusal same why

  -- the rows are made, and the journal is counted with the entry
  pub record IsCounting (rows : RowHistory) (stamp journal : ℕ) : Type 0 where
    pub schema : ask.schema ≡ (arc_value p.snapshot).schema.number
    pub made : IsNextByBody (arc_value p.snapshot).schema.columns ask.body (arc_value p.snapshot).rows rows
    pub stamp_is : stamp ≡ max now p.stamp
    pub journal_is : journal ≡ min (p.journal + record_length (entry_at ask stamp)) (2 ^ 64 - 1)

  module _ (rows : RowHistory) (stamp journal : ℕ) (k : IsCounting rows stamp journal) where
    module _ (history : List Entry) (a : Archive) (st : StandsFor p history a) where
      -- the rows are made of the archive's
      made : IsMade a ask rows
      made = is_made (arc_value p.snapshot) a ask st.agrees.shows rows k.schema k.made

      -- the stamp is the archive's
      stamp_in : stamp ≡ stamped a now
      stamp_in = k.stamp_is ∙ ap (max now) st.agrees.stamp_is

      -- so is the entry
      entry_in : entry_at ask stamp ≡ batch_entry a ask now
      entry_in = ap (entry_at ask) stamp_in

      -- so is the count of the journal
      journal_in : journal ≡ min (a.journal + record_length (batch_entry a ask now)) (2 ^ 64 - 1)
      journal_in = k.journal_is ∙ ap (λ n. min (n + record_length (entry_at ask stamp)) (2 ^ 64 - 1)) st.agrees.journal_is ∙ ap (λ (e : Entry). min (a.journal + record_length e) (2 ^ 64 - 1)) entry_in

    -- a limit is passed
    pub full_case : (limit : ℕ) → passed (counts_of rows journal) batch_counts ≡ Some limit → AnswersBatch p ask now (Err (refusals.Full limit))
    full_case limit e history a st fresh = full a ask now rows (made history a st) journal (journal_in history a st) limit e

    -- the moment is out of the range
    pub late_case : passed (counts_of rows journal) batch_counts ≡ None → clock_end ≤ now → AnswersBatch p ask now (Err (refusals.ClockRange now))
    late_case e h history a st fresh = late a ask now rows (made history a st) journal (journal_in history a st) e h

    -- the batch is stored
    pub made_case : (m : Made Stored) → passed (counts_of rows journal) batch_counts ≡ None → now < clock_end → MayBeAsked ask → FitsEntry (entry_at ask stamp)
        → m.reply ≡ stored_in rows.last → m.payload ≡ payload (entry_at ask stamp) → IsNextPresent p m.next rows (used_by ask ((arc_value p.snapshot).rows.last + 1)) stamp journal → AnswersBatch p ask now (Ok m)
    made_case m e h asked fits reply written next history a st fresh = record {
      next = made_by a ask now rows (made history a st);
      makes = stored a ask now rows (made history a st) journal (journal_in history a st) e h;
      reply_is = reply ∙ ap stored_in (last_in history a st);
      payload_is = written ∙ ap payload (entry_in history a st);
      fits = subst (λ (e : Entry). FitsEntry e) (entry_in history a st) fits;
      stands = stands_next p history a ask now rows st (made history a st) m.next stamp journal asked h fresh k.stamp_is (journal_in history a st) e next;
    }
      where
        last_in : (history : List Entry) (a : Archive) (st : StandsFor p history a) → rows.last ≡ version_count a + 1
        last_in history a st = k.made.next.last ∙ ap (λ n. n + 1) st.agrees.shows.parts.tables.last

-- the same, by what the parts of the plan read
module _ (p : Present) (ask : BatchAsk) (now : ℕ) (seen : Snapshot) (body : List ℕ) (same : seen ≡ arc_value p.snapshot) (same_body : body ≡ ask.body) where
  -- the number of the schema that is read
  number_seen : seen.schema.number ≡ (arc_value p.snapshot).schema.number
  number_seen = ap (λ (s : Snapshot). s.schema.number) same

  -- rows that are made of what is read are made of what is kept
  makes_seen : (r : Result RowHistory Refused) → MakesRows seen.schema.columns body seen.rows r → MakesRows (arc_value p.snapshot).schema.columns ask.body (arc_value p.snapshot).rows r
  makes_seen r h =
      subst (λ (b : List ℕ). MakesRows (arc_value p.snapshot).schema.columns b (arc_value p.snapshot).rows r) same_body
      (subst (λ (s : Snapshot). MakesRows s.schema.columns body s.rows r) same h)

  -- why they are not made is answered
  pub rows_told : (refusal : Refused) → ask.schema ≡ seen.schema.number → MakesRows seen.schema.columns body seen.rows (Err refusal) → AnswersBatch p ask now (Err refusal)
  rows_told refusal schema h = rows_case p ask now refusal (schema ∙ number_seen) (makes_seen (Err refusal) h)

  -- where they are, the counts are known
  pub counting : (rows : RowHistory) (stamp journal : ℕ) (entry : Entry) → ask.schema ≡ seen.schema.number → MakesRows seen.schema.columns body seen.rows (Ok rows) → stamp ≡ max now p.stamp → entry ≡ entry_at ask stamp
      → journal ≡ min (p.journal + record_length entry) (2 ^ 64 - 1) → IsCounting p ask now rows stamp journal
  counting rows stamp journal entry schema h stamp_is entry_is journal_is = record {
    schema = schema ∙ number_seen;
    made = makes_seen (Ok rows) h;
    stamp_is = stamp_is;
    journal_is = journal_is ∙ ap (λ (e : Entry). min (p.journal + record_length e) (2 ^ 64 - 1)) entry_is;
  }

-- what is passed by the counts that are read is what is passed by those of the rows
pub passed_by : (rows : RowHistory) (version kept weight journal : ℕ) (o : Option ℕ) → version ≡ rows.last → kept ≡ length rows.kept → weight ≡ rows_weight (rows_of rows)
    → o ≡ passed (amount version kept weight 0 journal) batch_counts → passed (counts_of rows journal) batch_counts ≡ o
passed_by rows version kept weight journal o v k w e =
    sym (e ∙ ap (λ n. passed (amount n kept weight 0 journal) batch_counts) v ∙ ap (λ n. passed (amount rows.last n weight 0 journal) batch_counts) k
    ∙ ap (λ n. passed (amount rows.last (length rows.kept) n 0 journal) batch_counts) w)
