-- The plan of a migration, by what it has at hand.
use Rattle.std.proofs.Common.{◌≡◌, ℕ, ◌<◌, ◌≤◌, true, List, length, sym, ap, ◌∙◌, subst, arith}
use Rattle.std.specs.Prelude.{Ok, Err, ◌==◌}
use Rattle.std.specs.Arc.{arc_value}
use Rattle.std.proofs.lemmas.List.{length-map}
use Rattle.std.proofs.lemmas.Bool.Decides.{nat_tests}
use Rattle.cite_schema.specs.declared.step.Step.{Step}
use Rattle.cite_schema.proofs.Results.{demanded}
use Rattle.subset_query.specs.declared.form.Normal.{Normal}
use Rattle.migration.specs.Columns.{carry_schema, step_places}
use Rattle.migration.specs.Rows.{carry_row}
use Rattle.versioned_rows.specs.Nexts.{IsNextByRule}
use Rattle.query_store.specs.declared.citation.Citation.{Citation}
use Rattle.entry_codec.specs.declared.entry.Entry.{Entry}
use Rattle.entry_codec.specs.Spellable.{IsPrintable}
use Rattle.archive_model.specs.declared.answers.Moved.{Moved}
use Rattle.archive_model.specs.declared.answers.Refused.{Refused}
use Rattle.archive_model.specs.declared.answers.Refused.TheVariants as refusals
use Rattle.archive_model.specs.Archives.{Archive}
use Rattle.archive_model.specs.Limits.{clock_end}
use Rattle.archive_model.specs.Outcomes.{stamped}
use Rattle.archive_model.specs.Histories.{LeadsTo}
use Rattle.archive_model.specs.Migrating.{new_migration, MigrateStep}
use Rattle.archive_state.specs.declared.snapshot.Snapshot.{Snapshot}
use Rattle.archive_state.specs.declared.present.Present.{Present}
use Rattle.archive_state.specs.declared.migrating.Moving.{Moving}
use Rattle.archive_state.specs.declared.plan.Made.{Made}
use Rattle.archive_state.specs.declared.plan.Planned.TheVariants.{New}
use Rattle.archive_state.specs.Standing.{IsSeen, Shows, Stands, StandsFor, kept_of}
use Rattle.archive_state.specs.Planning.{Plans}
use Rattle.archive_state.specs.Migrations.{IsMoving, TellsForms, IsMovedTo}
use Rattle.archive_state.proofs.BatchRoom.{stands_seen}
use Rattle.archive_state.proofs.MoveReady.{begun_printable}
use Rattle.archive_state.proofs.MovePlans.{plans_harmed, plans_late, plans_moved}

equal_numbers : (n m : ℕ) → (n == m) ≡ true → n ≡ m
equal_numbers n m h = grind (arith, nat_tests)

-- the migration is for the present schema
this_schema : (a next : Archive) (schema : ℕ) (steps : List Step) (now : ℕ) → new_migration a schema steps now ≡ Ok next → schema ≡ a.last.schema.number
this_schema a next schema steps now e = equal_numbers schema a.last.schema.number (demanded (schema == a.last.schema.number) _ _ next e).0

-- what the verifying of citations asks for, of what is read
pub record CanVerify (s : Snapshot) (steps : List Step) (m : Moving) : Type 0 where
  pub seen : IsSeen s
  pub steps_are : carry_schema s.schema steps ≡ Ok m.schema
  pub places_are : m.places ≡ step_places s.schema.columns steps
  pub rows_are : IsNextByRule (carry_row s.schema.columns steps) s.rows m.rows

module _ (p : Present) (stands : Stands p) (schema : ℕ) (steps : List Step) (now : ℕ) (moving : Moving) (begun : (history : List Entry) (a : Archive) → StandsFor p history a → IsMoving (arc_value p.snapshot) a schema steps now moving) where
  here : IsMoving (arc_value p.snapshot) stands.archive schema steps now moving
  here = begun stands.history stands.archive stands.stands

  pub can_verify : (s : Snapshot) → s ≡ arc_value p.snapshot → CanVerify s steps moving
  can_verify s same = subst (λ (s : Snapshot). CanVerify s steps moving) (sym same) (record { seen = stands_seen p stands; steps_are = here.schema_is; places_are = here.places_are; rows_are = here.rows_are })

  -- the entry can be printed
  pub entry_printable : IsPrintable moving.entry
  entry_printable = subst IsPrintable (sym here.entry_is) (begun_printable p stands.archive.last.schema.number steps moving.schema (arc_value p.snapshot) (stamped stands.archive now) stands (λ i. arc_value p.snapshot) here.schema_is)

  module _ (s : Snapshot) (same : s ≡ arc_value p.snapshot) where
    shows_there : (history : List Entry) (a : Archive) → StandsFor p history a → Shows s a
    shows_there history a st = subst (λ (s : Snapshot). Shows s a) (sym same) st.agrees.shows

    -- the first citation that is harmed
    pub harmed_told : (refusal : Refused) → ((history : List Entry) (a : Archive) → LeadsTo history a → Shows s a → TellsForms a steps (Err refusal)) → (history : List Entry) (a : Archive) → StandsFor p history a
        → Plans (MigrateStep a schema steps now) history a (Err refusal)
    harmed_told refusal told history a st = plans_harmed p history a schema steps now st moving (begun history a st) refusal (told history a st.leads (shows_there history a st))

    module _ (forms : List Normal) (told : (history : List Entry) (a : Archive) → LeadsTo history a → Shows s a → TellsForms a steps (Ok forms)) where
      -- there is a form for each citation
      pub as_many : length forms ≡ length (arc_value p.snapshot).store
      as_many =
          (told stands.history stands.archive stands.stands.leads (shows_there stands.history stands.archive stands.stands)).1
          ∙ sym (ap (λ (l : List Citation). length l) stands.stands.agrees.shows.parts.same ∙ length-map stands.archive.minted kept_of)

      pub late_told : clock_end ≤ now → (history : List Entry) (a : Archive) → StandsFor p history a → Plans (MigrateStep a schema steps now) history a (Err (refusals.ClockRange now))
      late_told h history a st = plans_late p history a schema steps now st moving (begun history a st) forms (told history a st.leads (shows_there history a st)) h

      pub moved_told : now < clock_end → (made : Made Moved) → IsMovedTo p moving forms made → (history : List Entry) (a : Archive) → StandsFor p history a → Plans (MigrateStep a schema steps now) history a (Ok (New made))
      moved_told moment made is history a st =
          plans_moved p history a schema steps now st moving (begun history a st) forms (told history a st.leads (shows_there history a st)) moment made (this_schema a _ schema steps now (begun history a st).makes) is
