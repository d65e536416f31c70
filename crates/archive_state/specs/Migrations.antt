-- What is planned for a migration, part by part.
use Rattle.std.specs.Prelude.{◌≡◌, ℕ, ◌+◌, List, [], ◌∷◌, Option, Some, None, Result, Ok, Err, length, ⊤}
use Rattle.cite_schema.specs.Headings.{Heading}
use Rattle.cite_schema.specs.declared.schema.Column.{Column}
use Rattle.cite_schema.specs.declared.step.Step.{Step}
use Rattle.migration.specs.Columns.{carry_schema, step_places}
use Rattle.migration.specs.Rows.{carry_row}
use Rattle.subset_query.specs.declared.form.Normal.{Normal}
use Rattle.versioned_rows.specs.Histories.{RowHistory, as_of, first_version, lost_key}
use Rattle.versioned_rows.specs.Nexts.{IsNextByRule}
use Rattle.query_store.specs.Citations.{with_forms}
use Rattle.entry_codec.specs.Payloads.{payload, record_length}
use Rattle.entry_codec.specs.Spellable.{FitsEntry}
use Rattle.archive_model.specs.declared.answers.Moved.{Moved}
use Rattle.archive_model.specs.declared.answers.Refused.{Refused}
use Rattle.archive_model.specs.declared.answers.Refused.TheVariants as refusals
use Rattle.archive_model.specs.Archives.{Archive, Minted}
use Rattle.archive_model.specs.Outcomes.{stamped}
use Rattle.archive_model.specs.Citing.{IsFirst}
use Rattle.archive_model.specs.Migrating.{migrate_entry, with_migration, new_migration, IsCarried, Stays, IsHarmed}
use Rattle.std.specs.Arc.{arc_value}
use Rattle.archive_state.specs.declared.snapshot.Snapshot.{Snapshot}
use Rattle.archive_state.specs.declared.present.Present.{Present}
use Rattle.archive_state.specs.declared.migrating.Moving.{Moving}
use Rattle.archive_state.specs.declared.plan.Made.{Made}
use Rattle.archive_state.specs.Executing.{minted_as}

-- the schema after the steps, or their first fault; or memory was wanting
abbrev pub TellsSchema : Heading → List Step → Result Heading Refused → Type 0
TellsSchema schema steps (Ok carried) = carry_schema schema steps ≡ Ok carried
TellsSchema schema steps (Err (refusals.Steps fault)) = carry_schema schema steps ≡ Err fault
TellsSchema schema steps (Err refusals.NoMemory) = ⊤
TellsSchema schema steps (Err refusal) = ⊥

-- each kept row is carried; or the lowest version with a row that is not, and the lowest key of one; or memory was wanting
abbrev pub MovesRows : List Column → List Step → RowHistory → Result RowHistory Refused → Type 0
MovesRows columns steps old (Ok new) = IsNextByRule (carry_row columns steps) old new
MovesRows columns steps old (Err (refusals.Overflow version key)) = first_version old.last (λ v. lost_key (carry_row columns steps) (as_of old v)) ≡ Some (version, key)
MovesRows columns steps old (Err refusals.NoMemory) = ⊤
MovesRows columns steps old (Err refusal) = ⊥

-- what is planned of a migration before the citations are looked at: the archive may make it, but for them
pub record IsMoving (s : Snapshot) (a : Archive) (schema : ℕ) (steps : List Step) (now : ℕ) (m : Moving) : Type 0 where
  pub makes : new_migration a schema steps now ≡ Ok (with_migration a m.schema steps now)
  pub schema_is : carry_schema s.schema steps ≡ Ok m.schema
  pub places_are : m.places ≡ step_places s.schema.columns steps
  pub rows_are : IsNextByRule (carry_row s.schema.columns steps) s.rows m.rows
  pub entry_is : m.entry ≡ migrate_entry a steps now
  pub fits : FitsEntry m.entry
  pub stamp_is : m.stamp ≡ stamped a now
  pub journal_is : m.journal ≡ a.journal + record_length (migrate_entry a steps now)

-- that, or the first rule that the migration breaks; or memory was wanting
abbrev pub BeginsMove : Snapshot → Archive → ℕ → List Step → ℕ → Result Moving Refused → Type 0
BeginsMove s a schema steps now (Ok moving) = IsMoving s a schema steps now moving
BeginsMove s a schema steps now (Err refusals.NoMemory) = ⊤
BeginsMove s a schema steps now (Err refusal) = new_migration a schema steps now ≡ Err refusal

-- the form to which a citation is carried that stays; none where it is harmed
abbrev pub IsFormAfter : Archive → List Step → Minted → Option Normal → Type 0
IsFormAfter a steps m (Some form) = IsCarried a steps m form
IsFormAfter a steps m None = IsHarmed a steps m

-- so it is of the citation with a number, if there is one
abbrev pub TellsFormAfter : Archive → List Step → ℕ → Option Normal → Type 0
TellsFormAfter a steps number form = (m : Minted) → minted_as a number ≡ Some m → IsFormAfter a steps m form

-- the forms are those to which the first citations are carried, in their order
abbrev pub AreFormsAfter : Archive → List Step → List Minted → List Normal → Type 0
AreFormsAfter a steps ms [] = ⊤
AreFormsAfter a steps [] (f ∷ fs) = ⊥
AreFormsAfter a steps (m ∷ ms) (f ∷ fs) = IsCarried a steps m f × AreFormsAfter a steps ms fs

-- the forms to which all citations are carried, or the number of the first that is harmed; or memory was wanting
abbrev pub TellsForms : Archive → List Step → Result (List Normal) Refused → Type 0
TellsForms a steps (Ok forms) = AreFormsAfter a steps a.minted forms × (length forms ≡ length a.minted)
TellsForms a steps (Err (refusals.CitedSubset number)) = (place : ℕ) × (number ≡ place + 1) × IsFirst (Stays a steps) (IsHarmed a steps) a.minted place
TellsForms a steps (Err refusals.NoMemory) = ⊤
TellsForms a steps (Err refusal) = ⊥

-- what is kept after a migration, the payload of its entry, and the reply
pub record IsMovedTo (p : Present) (moving : Moving) (forms : List Normal) (m : Made Moved) : Type 0 where
  pub reply_is : m.reply ≡ record { schema = moving.schema.number; version = moving.rows.last }
  pub payload_is : m.payload ≡ payload moving.entry
  pub seen_is : arc_value m.next.snapshot ≡ record (arc_value p.snapshot) { schema = moving.schema; rows = moving.rows; store = with_forms (arc_value p.snapshot).store forms; updated = moving.stamp }
  pub used_is : m.next.used ≡ p.used
  pub stamp_is : m.next.stamp ≡ moving.stamp
  pub entries_are : m.next.entries ≡ p.entries + 1
  pub journal_is : m.next.journal ≡ moving.journal
