-- The same cases, by what is kept.
use Rattle.std.proofs.Common.{◌≡◌, ◌≢◌, ℕ, ◌+◌, ◌-◌, ◌^◌, ◌<◌, ◌≤◌, List, [], ◌∷◌, Some, None, Result, max, min, sym, ap, ◌∙◌, subst}
use Rattle.std.specs.Prelude.{Ok, Err}
use Rattle.std.specs.Arc.{arc_value}
use Rattle.cite_schema.specs.Headings.{Heading}
use Rattle.cite_schema.specs.declared.step.Step.{Step}
use Rattle.migration.specs.Columns.{carry_schema, step_places}
use Rattle.migration.specs.Rows.{carry_row}
use Rattle.versioned_rows.specs.Histories.{RowHistory, rows_of, as_of, first_version, lost_key}
use Rattle.versioned_rows.specs.Nexts.{IsNextByRule}
use Rattle.versioned_rows.specs.Weights.{rows_weight}
use Rattle.entry_codec.specs.declared.entry.Entry.{Entry}
use Rattle.entry_codec.specs.declared.entry.Entry.TheVariants as entries
use Rattle.entry_codec.specs.Payloads.{record_length}
use Rattle.entry_codec.specs.Spellable.{FitsEntry}
use Rattle.archive_model.specs.declared.answers.Refused.{Refused}
use Rattle.archive_model.specs.declared.answers.Refused.TheVariants as refusals
use Rattle.archive_model.specs.Archives.{Archive, columns_of, version_count}
use Rattle.archive_model.specs.Limits.{Weight, JournalBytes}
use Rattle.archive_model.specs.Outcomes.{stamped}
use Rattle.archive_model.specs.Migrating.{migrate_entry}
use Rattle.archive_state.specs.declared.present.Present.{Present}
use Rattle.archive_state.specs.declared.migrating.Moving.{Moving}
use Rattle.archive_state.specs.Limiting.{amount, passed}
use Rattle.archive_state.specs.Standing.{StandsFor}
use Rattle.archive_state.specs.Migrations.{TellsSchema, MovesRows, BeginsMove}
use Rattle.archive_state.proofs.MoveCases.{other_schema, steps_refused, too_many, row_lost, too_much, made, journal_whole}

module _ (p : Present) (schema : ℕ) (steps : List Step) (now : ℕ) where
  abbrev pub Begins : Result Moving Refused → Type 0
  Begins r = (history : List Entry) (a : Archive) → StandsFor p history a → BeginsMove (arc_value p.snapshot) a schema steps now r

  -- it is for another schema
  pub other_case : (current : ℕ) → current ≡ (arc_value p.snapshot).schema.number → schema ≢ current → Begins (Err (refusals.WrongSchema current))
  other_case current is other history a st =
      let same : current ≡ a.last.schema.number = is ∙ ap (λ (h : Heading). h.number) st.agrees.shows.schema_is in
      other_schema a schema steps now (λ e. other (e ∙ sym same)) ∙ ap (λ n. Err (refusals.WrongSchema n)) (sym same)

  module _ (is : schema ≡ (arc_value p.snapshot).schema.number) where
    number_in : (history : List Entry) (a : Archive) → StandsFor p history a → schema ≡ a.last.schema.number
    number_in history a st = is ∙ ap (λ (h : Heading). h.number) st.agrees.shows.schema_is

    -- the steps carry no schema
    pub schema_case : (refusal : Refused) → TellsSchema (arc_value p.snapshot).schema steps (Err refusal) → Begins (Err refusal)
    schema_case (refusals.Steps fault) e history a st = steps_refused a schema steps now (number_in history a st) fault (ap (λ (h : Heading). carry_schema h steps) (sym st.agrees.shows.schema_is) ∙ e)
    schema_case refusals.NoMemory e history a st = tt
    schema_case (refusals.NumberUsed version) e history a st = absurd e
    schema_case (refusals.WrongSchema current) e history a st = absurd e
    schema_case (refusals.Body fault) e history a st = absurd e
    schema_case (refusals.Lines fault) e history a st = absurd e
    schema_case (refusals.Query fault) e history a st = absurd e
    schema_case (refusals.BadMeta part) e history a st = absurd e
    schema_case (refusals.ResultTooLarge bytes) e history a st = absurd e
    schema_case (refusals.EntryTooLarge bytes) e history a st = absurd e
    schema_case (refusals.Overflow version key) e history a st = absurd e
    schema_case (refusals.Full limit) e history a st = absurd e
    schema_case (refusals.CitedSubset number) e history a st = absurd e
    schema_case (refusals.ClockRange moment) e history a st = absurd e
    schema_case refusals.DiskFailed e history a st = absurd e

    module _ (carried : Heading) (e : carry_schema (arc_value p.snapshot).schema steps ≡ Ok carried) where
      carried_in : (history : List Entry) (a : Archive) → StandsFor p history a → carry_schema a.last.schema steps ≡ Ok carried
      carried_in history a st = ap (λ (h : Heading). carry_schema h steps) (sym st.agrees.shows.schema_is) ∙ e

      -- there are too many versions
      pub many_case : 200000 ≤ (arc_value p.snapshot).rows.last → Begins (Err (refusals.Full 2))
      many_case h history a st = too_many a schema steps now (number_in history a st) carried (carried_in history a st) (subst (λ n. 200000 ≤ n) st.agrees.shows.parts.tables.last h)

      module _ (few : (arc_value p.snapshot).rows.last < 200000) where
        few_in : (history : List Entry) (a : Archive) → StandsFor p history a → version_count a < 200000
        few_in history a st = subst (λ n. n < 200000) st.agrees.shows.parts.tables.last few

        columns_in : (history : List Entry) (a : Archive) → StandsFor p history a → (arc_value p.snapshot).schema.columns ≡ columns_of a
        columns_in history a st = ap (λ (h : Heading). h.columns) st.agrees.shows.schema_is

        -- a row is not carried
        pub rows_case : (refusal : Refused) → MovesRows (arc_value p.snapshot).schema.columns steps (arc_value p.snapshot).rows (Err refusal) → Begins (Err refusal)
        rows_case (refusals.Overflow version key) h history a st =
            row_lost a schema steps now (number_in history a st) carried (carried_in history a st) (few_in history a st) (arc_value p.snapshot).rows st.agrees.shows.parts.tables version key
            (subst (λ cs. first_version (arc_value p.snapshot).rows.last (λ v. lost_key (carry_row cs steps) (as_of (arc_value p.snapshot).rows v)) ≡ Some (version, key)) (columns_in history a st) h)
        rows_case refusals.NoMemory h history a st = tt
        rows_case (refusals.NumberUsed version) h history a st = absurd h
        rows_case (refusals.WrongSchema current) h history a st = absurd h
        rows_case (refusals.Body fault) h history a st = absurd h
        rows_case (refusals.Lines fault) h history a st = absurd h
        rows_case (refusals.Query fault) h history a st = absurd h
        rows_case (refusals.BadMeta part) h history a st = absurd h
        rows_case (refusals.Steps fault) h history a st = absurd h
        rows_case (refusals.ResultTooLarge bytes) h history a st = absurd h
        rows_case (refusals.EntryTooLarge bytes) h history a st = absurd h
        rows_case (refusals.Full limit) h history a st = absurd h
        rows_case (refusals.CitedSubset number) h history a st = absurd h
        rows_case (refusals.ClockRange moment) h history a st = absurd h
        rows_case refusals.DiskFailed h history a st = absurd h

        module _ (rows : RowHistory) (next : IsNextByRule (carry_row (arc_value p.snapshot).schema.columns steps) (arc_value p.snapshot).rows rows) (stamp : ℕ) (entry : Entry) (journal : ℕ) (stamp_is : stamp ≡ max now p.stamp)
            (entry_is : entry ≡ entries.Migrate (record { stamp = stamp; schema = schema; steps = steps })) (journal_is : journal ≡ min (p.journal + record_length entry) (2 ^ 64 - 1)) where
          module _ (history : List Entry) (a : Archive) (st : StandsFor p history a) where
            next_in : IsNextByRule (carry_row (columns_of a) steps) (arc_value p.snapshot).rows rows
            next_in = subst (λ cs. IsNextByRule (carry_row cs steps) (arc_value p.snapshot).rows rows) (columns_in history a st) next

            stamp_in : stamp ≡ stamped a now
            stamp_in = stamp_is ∙ ap (max now) st.agrees.stamp_is

            entry_in : entry ≡ migrate_entry a steps now
            entry_in =
                entry_is ∙ ap (λ s. entries.Migrate (record { stamp = s; schema = schema; steps = steps })) stamp_in
                ∙ ap (λ n. entries.Migrate (record { stamp = stamped a now; schema = n; steps = steps })) (number_in history a st)

            journal_in : journal ≡ min (a.journal + record_length (migrate_entry a steps now)) (2 ^ 64 - 1)
            journal_in =
                journal_is ∙ ap (λ n. min (n + record_length entry) (2 ^ 64 - 1)) st.agrees.journal_is
                ∙ ap (λ (x : Entry). min (a.journal + record_length x) (2 ^ 64 - 1)) entry_in

          -- a limit is passed
          pub full_case : (limit weight : ℕ) → weight ≡ rows_weight (rows_of rows) → Some limit ≡ passed (amount 0 0 weight 0 journal) (Weight ∷ JournalBytes ∷ []) → Begins (Err (refusals.Full limit))
          full_case limit weight w h history a st =
              too_much a schema steps now (number_in history a st) carried (carried_in history a st) (few_in history a st) (arc_value p.snapshot).rows st.agrees.shows.parts.tables rows (next_in history a st) journal (journal_in history a st)
              limit (ap (λ n. passed (amount 0 0 n 0 journal) (Weight ∷ JournalBytes ∷ [])) (sym w) ∙ sym h)

          -- none is
          pub made_case : (places : List ℕ) (weight : ℕ) → places ≡ step_places (arc_value p.snapshot).schema.columns steps → FitsEntry entry → weight ≡ rows_weight (rows_of rows)
              → None ≡ passed (amount 0 0 weight 0 journal) (Weight ∷ JournalBytes ∷ []) → Begins (Ok (record { schema = carried; places = places; rows = rows; entry = entry; stamp = stamp; journal = journal }))
          made_case places weight places_are fits w h history a st =
              let none = ap (λ n. passed (amount 0 0 n 0 journal) (Weight ∷ JournalBytes ∷ [])) (sym w) ∙ sym h in
              record {
                makes = made a schema steps now (number_in history a st) carried (carried_in history a st) (few_in history a st) (arc_value p.snapshot).rows st.agrees.shows.parts.tables rows (next_in history a st) journal (journal_in history a st) none;
                schema_is = e;
                places_are = places_are;
                rows_are = next;
                entry_is = entry_in history a st;
                fits = fits;
                stamp_is = stamp_in history a st;
                journal_is = journal_whole a schema steps now (number_in history a st) carried (carried_in history a st) (few_in history a st) (arc_value p.snapshot).rows st.agrees.shows.parts.tables rows (next_in history a st) journal (journal_in history a st) none;
              }
