-- The plan of a migration is what the archive does.
use Rattle.std.proofs.Common.{◌≡◌, ℕ, ◌+◌, ◌<◌, ◌≤◌, inl, inr, List, [], ◌∷◌, Some, Result, length, map, refl, sym, ap, ◌∙◌, subst, length-append}
use Rattle.std.specs.Prelude.{Ok, Err, ◌==◌, unwrap_or}
use Rattle.std.specs.Arc.{arc_value}
use Rattle.cite_schema.specs.Headings.{Heading}
use Rattle.cite_schema.specs.Tests.{demand, unless, given}
use Rattle.cite_schema.specs.declared.step.Step.{Step}
use Rattle.subset_query.specs.declared.form.Normal.{Normal}
use Rattle.migration.specs.Columns.{carry_schema}
use Rattle.migration.specs.Rows.{carry_row, carry_rows}
use Rattle.versioned_rows.specs.Nexts.{IsNextByRule}
use Rattle.query_store.specs.declared.citation.Citation.{Citation}
use Rattle.query_store.specs.Citations.{with_forms}
use Rattle.entry_codec.specs.declared.entry.Entry.{Entry}
use Rattle.entry_codec.specs.declared.entry.Entry.TheVariants as entries
use Rattle.entry_codec.specs.Payloads.{payload}
use Rattle.entry_codec.specs.Spellable.{FitsEntry}
use Rattle.archive_model.specs.declared.answers.Refused.{Refused}
use Rattle.archive_model.specs.declared.answers.Refused.TheVariants as refusals
use Rattle.archive_model.specs.declared.answers.Moved.{Moved}
use Rattle.archive_model.specs.Archives.{Archive, Minted, ByMigration, columns_of, version_count}
use Rattle.archive_model.specs.Limits.{Versions, Weight, JournalBytes, clock_end}
use Rattle.archive_model.specs.Outcomes.{Outcome, refuses, makes, stamped, grown, over}
use Rattle.archive_model.specs.Histories.{Makes}
use Rattle.archive_model.specs.Migrating.{migrate_entry, with_migration, overflow, new_migration, AreCarried, AreVerified, MigrateStep}
use Rattle.archive_model.proofs.Counted.{counts_keep_their_limits}
use Rattle.archive_model.proofs.Growing.{grow}
use Rattle.archive_model.proofs.InStep.{steps_keep}
use Rattle.archive_state.specs.declared.snapshot.Snapshot.{Snapshot}
use Rattle.archive_state.specs.declared.present.Present.{Present}
use Rattle.archive_state.specs.declared.migrating.Moving.{Moving}
use Rattle.archive_state.specs.declared.plan.Made.{Made}
use Rattle.archive_state.specs.declared.plan.Planned.TheVariants.{New}
use Rattle.archive_state.specs.Used.{use_of}
use Rattle.archive_state.specs.Standing.{Shows, StandsFor, kept_of}
use Rattle.archive_state.specs.Planning.{Plans}
use Rattle.archive_state.specs.Migrations.{IsMoving, BeginsMove, AreFormsAfter, TellsForms, IsMovedTo}
use Rattle.archive_state.proofs.BatchNext.{max_twice, max_below}
use Rattle.archive_state.proofs.LimitsPassed.{is_over, is_within}

-- citations with their forms
abbrev pub carried_to : List Minted → List Normal → List Minted
carried_to [] fs = []
carried_to (m ∷ ms) [] = []
carried_to (m ∷ ms) (f ∷ fs) = record m { form = f } ∷ carried_to ms fs

-- where there is a form for each, all are carried
are_carried : (a : Archive) (steps : List Step) (ms : List Minted) (fs : List Normal) → AreFormsAfter a steps ms fs → length fs ≡ length ms → AreCarried a steps ms (carried_to ms fs)
are_carried a steps [] [] h e = tt
are_carried a steps [] (f ∷ fs) h e = absurd h
are_carried a steps (m ∷ ms) [] h e = absurd (cc)
are_carried a steps (m ∷ ms) (f ∷ fs) h e = (h.0, refl, are_carried a steps ms fs h.1 (cc))

-- what is kept of them is what was kept, with the forms
kept_with : (ms : List Minted) (fs : List Normal) → with_forms (map kept_of ms) fs ≡ map kept_of (carried_to ms fs)
kept_with [] fs = refl
kept_with (m ∷ ms) [] = refl
kept_with (m ∷ ms) (f ∷ fs) = ap (λ (l : List Citation). kept_of (record m { form = f }) ∷ l) (kept_with ms fs)

-- the archive with the last table carried, with a stamp
abbrev moved_at : Archive → List Step → Heading → ℕ → Archive
moved_at a steps schema stamp =
    grown a (record { schema = schema; table = unwrap_or (carry_rows (columns_of a) steps a.last.table) []; stamp = stamp; maker = ByMigration steps })
    (entries.Migrate (record { stamp = stamp; schema = a.last.schema.number; steps = steps }))

-- what a migration does before the citations, by its stamp
abbrev new_at : Archive → ℕ → List Step → ℕ → Result Archive Refused
new_at a schema steps stamp =
    demand (schema == a.last.schema.number) (refusals.WrongSchema a.last.schema.number) (
    given (carry_schema a.last.schema steps) refusals.Steps (λ carried.
    unless (over (moved_at a steps carried stamp) (Versions ∷ [])) (
    unless (overflow a steps) (
    unless (over (moved_at a steps carried stamp) (Weight ∷ JournalBytes ∷ [])) (
    Ok (moved_at a steps carried stamp))))))

-- what was refused before the citations were looked at is the plan's refusal
module _ (p : Present) (history : List Entry) (a : Archive) (schema : ℕ) (steps : List Step) (now : ℕ) where
  refuses_first : (refusal : Refused) → new_migration a schema steps now ≡ Err refusal → MigrateStep a schema steps now (refuses a refusal)
  refuses_first refusal e = subst (λ (r : Result Archive Refused). AreVerified a steps now r (refuses a refusal)) (sym e) refl

  pub plans_begun : (s : Snapshot) (refusal : Refused) → BeginsMove s a schema steps now (Err refusal) → Plans (MigrateStep a schema steps now) history a (Err refusal)
  plans_begun s refusals.NoMemory e = tt
  plans_begun s (refusals.NumberUsed version) e = refuses_first (refusals.NumberUsed version) e
  plans_begun s (refusals.WrongSchema current) e = refuses_first (refusals.WrongSchema current) e
  plans_begun s (refusals.Body fault) e = refuses_first (refusals.Body fault) e
  plans_begun s (refusals.Lines fault) e = refuses_first (refusals.Lines fault) e
  plans_begun s (refusals.Query fault) e = refuses_first (refusals.Query fault) e
  plans_begun s (refusals.BadMeta part) e = refuses_first (refusals.BadMeta part) e
  plans_begun s (refusals.Steps fault) e = refuses_first (refusals.Steps fault) e
  plans_begun s (refusals.ResultTooLarge bytes) e = refuses_first (refusals.ResultTooLarge bytes) e
  plans_begun s (refusals.EntryTooLarge bytes) e = refuses_first (refusals.EntryTooLarge bytes) e
  plans_begun s (refusals.Overflow version key) e = refuses_first (refusals.Overflow version key) e
  plans_begun s (refusals.Full limit) e = refuses_first (refusals.Full limit) e
  plans_begun s (refusals.CitedSubset number) e = refuses_first (refusals.CitedSubset number) e
  plans_begun s (refusals.ClockRange moment) e = refuses_first (refusals.ClockRange moment) e
  plans_begun s refusals.DiskFailed e = refuses_first refusals.DiskFailed e

  module _ (st : StandsFor p history a) (moving : Moving) (m : IsMoving (arc_value p.snapshot) a schema steps now moving) where
    -- the archive but for its citations
    abbrev next : Archive
    next = with_migration a moving.schema steps now

    -- the citations decide
    verified : (o : Outcome Moved) → AreVerified a steps now (Ok next) o → MigrateStep a schema steps now o
    verified o h = subst (λ (r : Result Archive Refused). AreVerified a steps now r o) (sym m.makes) h

    -- the first citation that is harmed is told
    pub plans_harmed : (refusal : Refused) → TellsForms a steps (Err refusal) → Plans (MigrateStep a schema steps now) history a (Err refusal)
    plans_harmed (refusals.CitedSubset number) (place, is, first) =
        verified (refuses a (refusals.CitedSubset number)) (inl (record { place = place; first = first; outcome = ap (λ n. refuses a (refusals.CitedSubset n)) is }))
    plans_harmed refusals.NoMemory h = tt
    plans_harmed (refusals.NumberUsed version) h = absurd h
    plans_harmed (refusals.WrongSchema current) h = absurd h
    plans_harmed (refusals.Body fault) h = absurd h
    plans_harmed (refusals.Lines fault) h = absurd h
    plans_harmed (refusals.Query fault) h = absurd h
    plans_harmed (refusals.BadMeta part) h = absurd h
    plans_harmed (refusals.Steps fault) h = absurd h
    plans_harmed (refusals.ResultTooLarge bytes) h = absurd h
    plans_harmed (refusals.EntryTooLarge bytes) h = absurd h
    plans_harmed (refusals.Overflow version key) h = absurd h
    plans_harmed (refusals.Full limit) h = absurd h
    plans_harmed (refusals.ClockRange moment) h = absurd h
    plans_harmed refusals.DiskFailed h = absurd h

    module _ (forms : List Normal) (told : TellsForms a steps (Ok forms)) where
      abbrev minted : List Minted
      minted = carried_to a.minted forms

      carried : AreCarried a steps a.minted minted
      carried = are_carried a steps a.minted forms told.0 told.1

      abbrev reply : Moved
      reply = record { schema = next.last.schema.number; version = version_count next }

      -- the moment is out of the range
      pub plans_late : clock_end ≤ now → Plans (MigrateStep a schema steps now) history a (Err (refusals.ClockRange now))
      plans_late h =
          verified (refuses a (refusals.ClockRange now)) (inr (record {
            minted = minted;
            carried = carried;
            outcome = ap (λ b. makes a (migrate_entry a steps now) reply (demand b (refusals.ClockRange now) (Ok (record next { minted = minted })))) (sym (is_within now clock_end h));
          }))

      -- or within it
      module _ (moment : now < clock_end) where
        abbrev after : Archive
        after = record next { minted = minted }

        abbrev outcome : Outcome Moved
        outcome = makes a (migrate_entry a steps now) reply (Ok after)

        step : MigrateStep a schema steps now outcome
        step = verified outcome (inr (record {
          minted = minted;
          carried = carried;
          outcome = ap (λ b. makes a (migrate_entry a steps now) reply (demand b (refusals.ClockRange now) (Ok after))) (sym (is_over now clock_end moment));
        }))

        abbrev later : ℕ
        later = stamped a now

        -- the entry at its own stamp is the same
        same_stamp : stamped a later ≡ later
        same_stamp = max_twice now a.stamp

        abbrev outcome_at : ℕ → Outcome Moved
        outcome_at stamp =
            makes a (entries.Migrate (record { stamp = stamp; schema = a.last.schema.number; steps = steps })) reply (Ok (record (moved_at a steps moving.schema stamp) { minted = minted }))

        made_again : new_migration a schema steps later ≡ Ok (with_migration a moving.schema steps later)
        made_again = ap (new_at a schema steps) same_stamp ∙ m.makes ∙ ap (λ s. Ok (moved_at a steps moving.schema s)) (sym same_stamp)

        step_again : MigrateStep a schema steps later (outcome_at (stamped a later))
        step_again =
            let clock = (counts_keep_their_limits history a st.leads).clock in
            subst (λ (r : Result Archive Refused). AreVerified a steps later r (outcome_at (stamped a later))) (sym made_again) (inr (record {
              minted = minted;
              carried = carried;
              outcome = ap (λ b. makes a (migrate_entry a steps later) reply (demand b (refusals.ClockRange later) (Ok (record (with_migration a moving.schema steps later) { minted = minted }))))
                  (sym (is_over later clock_end (max_below now a.stamp clock_end moment clock)));
            }))

        makes_entry : schema ≡ a.last.schema.number → Makes a (migrate_entry a steps now) after
        makes_entry same = (
          outcome_at (stamped a later),
          subst (λ n. MigrateStep a n steps later (outcome_at (stamped a later))) same step_again,
          record {
            entry_is = ap (λ s. Some (entries.Migrate (record { stamp = s; schema = a.last.schema.number; steps = steps }))) same_stamp;
            after_is = ap (λ s. record (moved_at a steps moving.schema s) { minted = minted }) same_stamp;
          },
        )

        next_rows : IsNextByRule (carry_row (columns_of a) steps) (arc_value p.snapshot).rows moving.rows
        next_rows = subst (λ (h : Heading). IsNextByRule (carry_row h.columns steps) (arc_value p.snapshot).rows moving.rows) st.agrees.shows.schema_is m.rows_are

        -- readers see what the next archive says
        shows_after : Shows (record (arc_value p.snapshot) { schema = moving.schema; rows = moving.rows; store = with_forms (arc_value p.snapshot).store forms; updated = moving.stamp }) after
        shows_after = record {
          dataset_is = st.agrees.shows.dataset_is;
          schema_is = refl;
          parts = record {
            tables = steps_keep a moving.schema steps now minted (arc_value p.snapshot).rows moving.rows st.agrees.shows.parts.tables next_rows;
            same = ap (λ (l : List Citation). with_forms l forms) st.agrees.shows.parts.same ∙ kept_with a.minted forms;
          };
          founded_is = st.agrees.shows.founded_is;
          updated_is = m.stamp_is;
        }

        rows_last : moving.rows.last ≡ version_count next
        rows_last = (steps_keep a moving.schema steps now minted (arc_value p.snapshot).rows moving.rows st.agrees.shows.parts.tables next_rows).last

        pub plans_moved : (made : Made Moved) → schema ≡ a.last.schema.number → IsMovedTo p moving forms made → Plans (MigrateStep a schema steps now) history a (Ok (New made))
        plans_moved made same is = record {
          outcome = outcome;
          is = step;
          entry = migrate_entry a steps now;
          entry_is = refl;
          reply_is = ap Ok (sym (is.reply_is ∙ ap (λ n. record { schema = moving.schema.number; version = n }) rows_last));
          payload_is = is.payload_is ∙ ap payload m.entry_is;
          fits = subst (λ (e : Entry). FitsEntry e) m.entry_is m.fits;
          stands = record {
            leads = grow history a after (migrate_entry a steps now) st.leads (makes_entry same);
            agrees = record {
              shows = subst (λ (s : Snapshot). Shows s after) (sym is.seen_is) shows_after;
              numbers = λ curator number. ap (λ u. use_of curator number u) is.used_is ∙ st.agrees.numbers curator number;
              stamp_is = is.stamp_is ∙ m.stamp_is;
              entries_are = is.entries_are ∙ ap (λ n. n + 1) st.agrees.entries_are ∙ sym (length-append history (migrate_entry a steps now ∷ []));
              journal_is = is.journal_is ∙ m.journal_is;
            };
          };
        }
