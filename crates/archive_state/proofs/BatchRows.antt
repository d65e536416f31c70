-- What a batch does, by the rows that its body makes.
use Rattle.std.proofs.Common.{◌≡◌, ◌≢◌, ℕ, ◌+◌, ◌-◌, ◌^◌, ◌<◌, ◌≤◌, true, false, List, [], ◌∷◌, Option, Some, None, Result, length, min, sym, ap, ◌∙◌, subst, arith}
use Rattle.std.specs.Prelude.{Ok, Err, ◌==◌, option_map, nat_lt}
use Rattle.std.specs.List.{AllByRecursion}
use Rattle.std.proofs.lemmas.Bool.Decides.{nat_tests}
use Rattle.cite_schema.specs.Headings.{Heading}
use Rattle.cite_schema.specs.Tests.{demand, unless, given}
use Rattle.cite_schema.specs.declared.value.Value.{Value}
use Rattle.cite_schema.specs.declared.schema.Column.{Column}
use Rattle.cite_schema.specs.declared.line.Line.{Line}
use Rattle.cite_schema.specs.declared.batch_ask.BatchAsk.{BatchAsk}
use Rattle.batches.specs.declared.fault.BatchFault.{BatchFault}
use Rattle.batches.specs.Bodies.{lines_of}
use Rattle.versioned_rows.specs.declared.fault.ApplyFault.{ApplyFault}
use Rattle.versioned_rows.specs.Changes.{after_lines}
use Rattle.versioned_rows.specs.Weights.{rows_weight}
use Rattle.versioned_rows.specs.Histories.{RowHistory, rows_of, last_table}
use Rattle.entry_codec.specs.declared.entry.Entry.{Entry}
use Rattle.entry_codec.specs.Payloads.{record_length}
use Rattle.archive_model.specs.declared.answers.Refused.{Refused}
use Rattle.archive_model.specs.declared.answers.Refused.TheVariants as refusals
use Rattle.archive_model.specs.Archives.{Archive, columns_of}
use Rattle.archive_model.specs.Limits.{Counted, KeptRows, Versions, Weight, JournalBytes, limit, quantity, clock_end}
use Rattle.archive_model.specs.Outcomes.{over}
use Rattle.archive_model.specs.Batching.{batch_entry, with_batch, new_batch}
use Rattle.archive_model.specs.Agreeing.{AgreeRows}
use Rattle.archive_model.proofs.InStep.{same_last, lines_keep, agreement_counts}
use Rattle.archive_state.specs.declared.snapshot.Snapshot.{Snapshot}
use Rattle.archive_state.specs.Standing.{Shows}
use Rattle.archive_state.specs.Limiting.{amount, passed}
use Rattle.archive_state.specs.Batches.{MakesRows, IsNextByBody, PlansBatch}
use Rattle.archive_state.proofs.LimitsPassed.{is_over, is_within, over_is_passed, none_passed, capped_over, uncapped}

-- the test of numbers that are one
pub same_numbers : (n m : ℕ) → n ≡ m → (n == m) ≡ true
same_numbers n m h = grind (arith, nat_tests)

-- and of others
pub other_numbers : (n m : ℕ) → n ≢ m → (n == m) ≡ false
other_numbers n m h = grind (arith, nat_tests)

-- what follows where the schema is the present one
abbrev by_lines : Archive → BatchAsk → ℕ → Result Archive Refused
by_lines a ask now =
    given (lines_of (columns_of a) ask.body) refusals.Body (λ lines.
    given (after_lines 1 lines a.last.table) refusals.Lines (λ table.
    unless (over (with_batch a ask now lines table) (Versions ∷ KeptRows ∷ Weight ∷ JournalBytes ∷ [])) (
    demand (nat_lt now clock_end) (refusals.ClockRange now) (
    Ok (with_batch a ask now lines table)))))

-- and where the lines make a table
abbrev by_table : Archive → BatchAsk → ℕ → List Line → List (List Value) → Result Archive Refused
by_table a ask now lines table =
    unless (over (with_batch a ask now lines table) (Versions ∷ KeptRows ∷ Weight ∷ JournalBytes ∷ [])) (
    demand (nat_lt now clock_end) (refusals.ClockRange now) (
    Ok (with_batch a ask now lines table)))

module _ (a : Archive) (ask : BatchAsk) (now : ℕ) where
  -- a batch for another schema is refused
  pub other_schema : ask.schema ≢ a.last.schema.number → new_batch a ask now ≡ Err (refusals.WrongSchema a.last.schema.number)
  other_schema h = ap (λ b. demand b (refusals.WrongSchema a.last.schema.number) (by_lines a ask now)) (other_numbers ask.schema a.last.schema.number h)

  -- for the present one the lines decide
  this_schema : ask.schema ≡ a.last.schema.number → new_batch a ask now ≡ by_lines a ask now
  this_schema h = ap (λ b. demand b (refusals.WrongSchema a.last.schema.number) (by_lines a ask now)) (same_numbers ask.schema a.last.schema.number h)

  -- a body that spells no lines is refused
  body_refused : (fault : BatchFault) → ask.schema ≡ a.last.schema.number → lines_of (columns_of a) ask.body ≡ Err fault → new_batch a ask now ≡ Err (refusals.Body fault)
  body_refused fault h e = this_schema h ∙ ap (λ r. given r refusals.Body (λ lines. given (after_lines 1 lines a.last.table) refusals.Lines (λ table. by_table a ask now lines table))) e

  -- what lines make of the last table decides
  spelled : (lines : List Line) → ask.schema ≡ a.last.schema.number → lines_of (columns_of a) ask.body ≡ Ok lines
      → new_batch a ask now ≡ given (after_lines 1 lines a.last.table) refusals.Lines (λ table. by_table a ask now lines table)
  spelled lines h e = this_schema h ∙ ap (λ r. given r refusals.Body (λ ls. given (after_lines 1 ls a.last.table) refusals.Lines (λ table. by_table a ask now ls table))) e

  -- lines that do not go with it are refused
  lines_refused : (lines : List Line) (fault : ApplyFault) → ask.schema ≡ a.last.schema.number → lines_of (columns_of a) ask.body ≡ Ok lines → after_lines 1 lines a.last.table ≡ Err fault → new_batch a ask now ≡ Err (refusals.Lines fault)
  lines_refused lines fault h e f = spelled lines h e ∙ ap (λ r. given r refusals.Lines (λ table. by_table a ask now lines table)) f

  -- the limits and the moment decide what lines do that make a table
  judged : (lines : List Line) (table : List (List Value)) → ask.schema ≡ a.last.schema.number → lines_of (columns_of a) ask.body ≡ Ok lines → after_lines 1 lines a.last.table ≡ Ok table → new_batch a ask now ≡ by_table a ask now lines table
  judged lines table h e f = spelled lines h e ∙ ap (λ r. given r refusals.Lines (λ t. by_table a ask now lines t)) f

-- the rows are those that the body makes of what readers see of the archive
pub record IsMade (a : Archive) (ask : BatchAsk) (rows : RowHistory) : Type 0 where
  pub schema : ask.schema ≡ a.last.schema.number
  pub lines : List Line
  pub spelled : lines_of (columns_of a) ask.body ≡ Ok lines
  pub table : after_lines 1 lines a.last.table ≡ Ok (last_table rows)
  pub agree : (now : ℕ) → AgreeRows rows (with_batch a ask now lines (last_table rows))

-- the archive that such a batch makes
abbrev pub made_by : (a : Archive) (ask : BatchAsk) (now : ℕ) (rows : RowHistory) → IsMade a ask rows → Archive
made_by a ask now rows m = with_batch a ask now m.lines (last_table rows)

module _ (s : Snapshot) (a : Archive) (ask : BatchAsk) (shows : Shows s a) where
  -- readers see the present columns
  columns_are : s.schema.columns ≡ columns_of a
  columns_are = ap (λ (h : Heading). h.columns) shows.schema_is

  -- the rows after the body are made
  pub is_made : (rows : RowHistory) → ask.schema ≡ s.schema.number → IsNextByBody s.schema.columns ask.body s.rows rows → IsMade a ask rows
  is_made rows h m =
      let table = ap (after_lines 1 m.lines) (sym (same_last a s.rows shows.parts.tables)) ∙ m.next.table in
      record {
        schema = h ∙ ap (λ (g : Heading). g.number) shows.schema_is;
        lines = m.lines;
        spelled = ap (λ (cs : List Column). lines_of cs ask.body) (sym columns_are) ∙ m.spelled;
        table = table;
        agree = λ now. lines_keep a ask now m.lines (last_table rows) s.rows rows shows.parts.tables table m.next;
      }

  -- why the body makes none is why the batch is refused
  pub rows_refused : (now : ℕ) (history : List Entry) (refusal : Refused) → ask.schema ≡ s.schema.number → MakesRows s.schema.columns ask.body s.rows (Err refusal) → PlansBatch a ask now history (Err refusal)
  rows_refused now history (refusals.Body fault) h e =
      body_refused a ask now fault (h ∙ ap (λ (g : Heading). g.number) shows.schema_is) (ap (λ (cs : List Column). lines_of cs ask.body) (sym columns_are) ∙ e)
  rows_refused now history (refusals.Lines fault) h e =
      lines_refused a ask now e.lines fault (h ∙ ap (λ (g : Heading). g.number) shows.schema_is) (ap (λ (cs : List Column). lines_of cs ask.body) (sym columns_are) ∙ e.spelled)
      (ap (after_lines 1 e.lines) (sym (same_last a s.rows shows.parts.tables)) ∙ e.misfit)
  rows_refused now history refusals.NoMemory h e = tt
  rows_refused now history (refusals.NumberUsed version) h e = absurd e
  rows_refused now history (refusals.WrongSchema current) h e = absurd e
  rows_refused now history (refusals.Query fault) h e = absurd e
  rows_refused now history (refusals.BadMeta part) h e = absurd e
  rows_refused now history (refusals.Steps fault) h e = absurd e
  rows_refused now history (refusals.ResultTooLarge bytes) h e = absurd e
  rows_refused now history (refusals.EntryTooLarge bytes) h e = absurd e
  rows_refused now history (refusals.Overflow version key) h e = absurd e
  rows_refused now history (refusals.Full limit) h e = absurd e
  rows_refused now history (refusals.CitedSubset number) h e = absurd e
  rows_refused now history (refusals.ClockRange moment) h e = absurd e
  rows_refused now history refusals.DiskFailed h e = absurd e

-- what is counted after a batch
abbrev pub counts_of : RowHistory → ℕ → Counted → ℕ
counts_of rows journal = amount rows.last (length rows.kept) (rows_weight (rows_of rows)) 0 journal

-- the counts that a batch may pass
abbrev pub batch_counts : List Counted
batch_counts = Versions ∷ KeptRows ∷ Weight ∷ JournalBytes ∷ []

module _ (a : Archive) (ask : BatchAsk) (now : ℕ) (rows : RowHistory) (m : IsMade a ask rows) (journal : ℕ) (whole : journal ≡ min (a.journal + record_length (batch_entry a ask now)) (2 ^ 64 - 1)) where
  -- as much is counted as the limits tell
  counted : AllByRecursion (λ c. nat_lt (limit c) (quantity (made_by a ask now rows m) c) ≡ nat_lt (limit c) (counts_of rows journal c)) batch_counts
  counted =
      let agree = m.agree now in
      let (kept, weight) = agreement_counts (made_by a ask now rows m) rows agree in (
        ap (λ n. nat_lt (limit Versions) n) (sym agree.last),
        (
          ap (λ n. nat_lt (limit KeptRows) n) kept,
          (
            ap (λ n. nat_lt (limit Weight) n) weight,
            (capped_over (limit JournalBytes) (2 ^ 64 - 1) (a.journal + record_length (batch_entry a ask now)) (omega arith) ∙ ap (λ n. nat_lt (limit JournalBytes) n) (sym whole), tt),
          ),
        ),
      )

  -- so the archive is over a limit where the counts are
  over_is : over (made_by a ask now rows m) batch_counts ≡ option_map (λ l. refusals.Full l) (passed (counts_of rows journal) batch_counts)
  over_is = over_is_passed (made_by a ask now rows m) (counts_of rows journal) batch_counts counted

  -- what is passed decides
  decided : (o : Option ℕ) → passed (counts_of rows journal) batch_counts ≡ o
      → new_batch a ask now ≡ unless (option_map (λ l. refusals.Full l) o) (demand (nat_lt now clock_end) (refusals.ClockRange now) (Ok (made_by a ask now rows m)))
  decided o e =
      judged a ask now m.lines (last_table rows) m.schema m.spelled m.table
      ∙ ap (λ r. unless r (demand (nat_lt now clock_end) (refusals.ClockRange now) (Ok (made_by a ask now rows m)))) (over_is ∙ ap (option_map (λ l. refusals.Full l)) e)

  -- a limit is passed
  pub full : (l : ℕ) → passed (counts_of rows journal) batch_counts ≡ Some l → new_batch a ask now ≡ Err (refusals.Full l)
  full l e = decided (Some l) e

  -- none is, and the moment is out of the range
  pub late : passed (counts_of rows journal) batch_counts ≡ None → clock_end ≤ now → new_batch a ask now ≡ Err (refusals.ClockRange now)
  late e h = decided None e ∙ ap (λ b. demand b (refusals.ClockRange now) (Ok (made_by a ask now rows m))) (is_within now clock_end h)

  -- none is, and the moment is within it
  pub stored : passed (counts_of rows journal) batch_counts ≡ None → now < clock_end → new_batch a ask now ≡ Ok (made_by a ask now rows m)
  stored e h = decided None e ∙ ap (λ b. demand b (refusals.ClockRange now) (Ok (made_by a ask now rows m))) (is_over now clock_end h)

  -- then the journal is counted in full
  pub journal_whole : passed (counts_of rows journal) batch_counts ≡ None → journal ≡ a.journal + record_length (batch_entry a ask now)
  journal_whole e =
      let within = (none_passed (counts_of rows journal) batch_counts e).1.1.1.0 in
      whole ∙ uncapped (limit JournalBytes) (2 ^ 64 - 1) (a.journal + record_length (batch_entry a ask now)) (omega arith) (subst (λ n. n ≤ limit JournalBytes) whole within)
