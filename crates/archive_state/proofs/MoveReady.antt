-- The cases of a migration, by what its plan reads of what is kept.
use Rattle.std.proofs.Common.{◌≡◌, ℕ, ◌+◌, ◌-◌, ◌^◌, ◌<◌, List, [], ◌∷◌, Some, None, max, min, sym, ap, ◌∙◌, subst}
use Rattle.std.specs.Prelude.{Ok, Err}
use Rattle.std.specs.Arc.{arc_value}
use Rattle.cite_schema.specs.Headings.{Heading}
use Rattle.cite_schema.specs.declared.step.Step.{Step}
use Rattle.migration.specs.Columns.{carry_schema, step_places}
use Rattle.migration.specs.Rows.{carry_row}
use Rattle.versioned_rows.specs.Histories.{RowHistory, rows_of}
use Rattle.versioned_rows.specs.Nexts.{IsNextByRule}
use Rattle.versioned_rows.specs.Weights.{rows_weight}
use Rattle.entry_codec.specs.declared.entry.Entry.{Entry}
use Rattle.entry_codec.specs.declared.entry.Entry.TheVariants as entries
use Rattle.entry_codec.specs.Payloads.{record_length}
use Rattle.entry_codec.specs.Spellable.{FitsEntry, IsPrintable}
use Rattle.archive_model.specs.declared.answers.Refused.{Refused}
use Rattle.archive_model.specs.declared.answers.Refused.TheVariants as refusals
use Rattle.archive_model.specs.Limits.{Weight, JournalBytes}
use Rattle.archive_model.proofs.Sound.{columns_carried}
use Rattle.archive_state.specs.declared.snapshot.Snapshot.{Snapshot}
use Rattle.archive_state.specs.declared.present.Present.{Present}
use Rattle.archive_state.specs.Limiting.{amount, passed}
use Rattle.archive_state.specs.Standing.{IsSeen, Stands}
use Rattle.archive_state.specs.Migrations.{MovesRows}
use Rattle.archive_state.proofs.BatchRoom.{stands_seen}
use Rattle.archive_state.proofs.MoveRows.{heading_seen, few_steps}
use Rattle.archive_state.proofs.MoveEntries.{move_printable}
use Rattle.archive_state.proofs.MoveBegins.{Begins, rows_case, full_case, made_case}

-- the number, the steps and the versions that are read let the migration begin
pub record HasBegun (s : Snapshot) (schema : ℕ) (steps : List Step) (carried : Heading) : Type 0 where
  pub number : schema ≡ s.schema.number
  pub carried_is : carry_schema s.schema steps ≡ Ok carried
  pub few : s.rows.last < 200000

module _ (p : Present) (schema : ℕ) (steps : List Step) (now : ℕ) (carried : Heading) (seen : Snapshot) (same : seen ≡ arc_value p.snapshot) where
  -- what is read is kept
  pub begun : schema ≡ seen.schema.number → carry_schema seen.schema steps ≡ Ok carried → (version : ℕ) → version ≡ seen.rows.last → version < 200000 → HasBegun (arc_value p.snapshot) schema steps carried
  begun number is version last few = subst (λ (s : Snapshot). HasBegun s schema steps carried) same (record { number = number; carried_is = is; few = subst (λ n. n < 200000) last few })

  -- rows that are not carried are told
  pub rows_told : HasBegun (arc_value p.snapshot) schema steps carried → (refusal : Refused) → MovesRows seen.schema.columns steps seen.rows (Err refusal) → Begins p schema steps now (Err refusal)
  rows_told b refusal h = rows_case p schema steps now b.number carried b.carried_is b.few refusal (subst (λ (s : Snapshot). MovesRows s.schema.columns steps s.rows (Err refusal)) same h)

-- the entry can be printed
pub begun_printable : (p : Present) (schema : ℕ) (steps : List Step) (carried : Heading) (seen : Snapshot) (stamp : ℕ) → Stands p → seen ≡ arc_value p.snapshot → carry_schema seen.schema steps ≡ Ok carried
    → IsPrintable (entries.Migrate (record { stamp = stamp; schema = schema; steps = steps }))
begun_printable p schema steps carried seen stamp stands same e =
    let there : IsSeen seen = subst IsSeen (sym same) (stands_seen p stands) in
    move_printable stamp schema 1 seen.schema.columns carried.columns steps (heading_seen seen there) (few_steps seen.schema carried steps e) (columns_carried seen.schema carried steps e)

module _ (p : Present) (schema : ℕ) (steps : List Step) (now : ℕ) (carried : Heading) (seen : Snapshot) (same : seen ≡ arc_value p.snapshot) (b : HasBegun (arc_value p.snapshot) schema steps carried) (rows : RowHistory)
    (next : MovesRows seen.schema.columns steps seen.rows (Ok rows)) (stamp : ℕ) (entry : Entry) (journal : ℕ) (stamp_is : stamp ≡ max now p.stamp)
    (entry_is : entry ≡ entries.Migrate (record { stamp = stamp; schema = schema; steps = steps })) (journal_is : journal ≡ min (p.journal + record_length entry) (2 ^ 64 - 1)) where
  next_there : IsNextByRule (carry_row (arc_value p.snapshot).schema.columns steps) (arc_value p.snapshot).rows rows
  next_there = subst (λ (s : Snapshot). IsNextByRule (carry_row s.schema.columns steps) s.rows rows) same next

  pub full_told : (limit weight : ℕ) → weight ≡ rows_weight (rows_of rows) → Some limit ≡ passed (amount 0 0 weight 0 journal) (Weight ∷ JournalBytes ∷ []) → Begins p schema steps now (Err (refusals.Full limit))
  full_told limit weight w h = full_case p schema steps now b.number carried b.carried_is b.few rows next_there stamp entry journal stamp_is entry_is journal_is limit weight w h

  pub made_told : (places : List ℕ) (weight : ℕ) (heading : Heading) → heading ≡ seen.schema → places ≡ step_places heading.columns steps → FitsEntry entry → weight ≡ rows_weight (rows_of rows)
      → None ≡ passed (amount 0 0 weight 0 journal) (Weight ∷ JournalBytes ∷ []) → Begins p schema steps now (Ok (record { schema = carried; places = places; rows = rows; entry = entry; stamp = stamp; journal = journal }))
  made_told places weight heading is at fits w h =
      made_case p schema steps now b.number carried b.carried_is b.few rows next_there stamp entry journal stamp_is entry_is journal_is places weight
      (at ∙ ap (λ (g : Heading). step_places g.columns steps) is ∙ ap (λ (s : Snapshot). step_places s.schema.columns steps) same) fits w h
