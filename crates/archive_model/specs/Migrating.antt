-- What a migration does to an archive.
use Rattle.std.specs.Prelude.{◌≡◌, ◌⊎◌, ⊤, ℕ, ◌+◌, ◌==◌, List, [], ◌∷◌, Option, Some, option_map, Result, Ok, Err, nat_lt, unwrap_or}
use Rattle.std.specs.Option.{option_and_then}
use Rattle.cite_schema.specs.Headings.{Heading}
use Rattle.cite_schema.specs.Answers.{Gives}
use Rattle.cite_schema.specs.Tests.{demand, unless, given}
use Rattle.cite_schema.specs.declared.value.Value.{Value}
use Rattle.cite_schema.specs.declared.step.Step.{Step}
use Rattle.subset_query.specs.declared.form.Normal.{Normal}
use Rattle.subset_query.specs.Forms.{formed}
use Rattle.migration.specs.Columns.{carry_schema}
use Rattle.migration.specs.Rows.{carry_row, carry_rows}
use Rattle.migration.specs.Forms.{Carries}
use Rattle.versioned_rows.specs.Histories.{first_version, lost_key}
use Rattle.entry_codec.specs.declared.entry.Entry.{Entry}
use Rattle.entry_codec.specs.declared.entry.Entry.TheVariants as entries
use Rattle.archive_model.specs.declared.answers.Moved.{Moved}
use Rattle.archive_model.specs.declared.answers.Refused.{Refused}
use Rattle.archive_model.specs.declared.answers.Refused.TheVariants.{WrongSchema, Steps, Overflow, CitedSubset, ClockRange}
use Rattle.archive_model.specs.Archives.{Archive, Minted, ByMigration, columns_of, version_count, now_table}
use Rattle.archive_model.specs.Limits.{Versions, Weight, JournalBytes, clock_end}
use Rattle.archive_model.specs.Outcomes.{Outcome, refuses, makes, stamped, grown, over}
use Rattle.archive_model.specs.Citing.{IsFirst}

-- the entry of a migration
abbrev pub migrate_entry : Archive → List Step → ℕ → Entry
migrate_entry a steps now = entries.Migrate (record { stamp = stamped a now; schema = a.last.schema.number; steps = steps })

-- the archive with the last table carried to a schema; the citations are still as they were
abbrev pub with_migration : Archive → Heading → List Step → ℕ → Archive
with_migration a schema steps now =
    grown a (record { schema = schema; table = unwrap_or (carry_rows (columns_of a) steps a.last.table) []; stamp = stamped a now; maker = ByMigration steps }) (migrate_entry a steps now)

-- the refusal that names the lowest version with a row that is not carried, and the lowest key of such a row in it
abbrev pub overflow : Archive → List Step → Option Refused
overflow a steps =
    option_map (λ u. Overflow u.0 u.1) (first_version (version_count a) (λ n. option_and_then (lost_key (carry_row (columns_of a) steps)) (now_table a n)))

-- the archive after a migration, but for its citations, or the first rule that it breaks before they are looked at
abbrev pub new_migration : Archive → ℕ → List Step → ℕ → Result Archive Refused
new_migration a schema steps now =
    demand (schema == a.last.schema.number) (WrongSchema a.last.schema.number) (
    given (carry_schema a.last.schema steps) Steps (λ carried.
    unless (over (with_migration a carried steps now) (Versions ∷ [])) (
    unless (overflow a steps) (
    unless (over (with_migration a carried steps now) (Weight ∷ JournalBytes ∷ [])) (
    Ok (with_migration a carried steps now))))))

-- the citation's form is carried to a form that gives the citation's bytes on the carried table of its version
pub record IsCarried (a : Archive) (steps : List Step) (m : Minted) (form : Normal) : Type 0 where
  pub carries : Carries (columns_of a) steps m.form form
  pub old : List (List Value)
  pub old_is : now_table a m.issue.version ≡ Some old
  pub table : List (List Value)
  pub table_is : carry_rows (columns_of a) steps old ≡ Some table
  pub gives : Gives (formed form) table m.bytes

-- there is such a form
abbrev pub Stays : Archive → List Step → Minted → Type 0
Stays a steps m = (form : Normal) × IsCarried a steps m form

-- there is none
abbrev pub IsHarmed : Archive → List Step → Minted → Type 0
IsHarmed a steps m = Stays a steps m → ⊥

-- each citation with its carried form; all else of it stays
abbrev pub AreCarried : Archive → List Step → List Minted → List Minted → Type 0
AreCarried a steps [] [] = ⊤
AreCarried a steps (m ∷ ms) (k ∷ ks) = IsCarried a steps m k.form × (k ≡ record m { form = k.form }) × AreCarried a steps ms ks
AreCarried a steps [] (k ∷ ks) = ⊥
AreCarried a steps (m ∷ ms) [] = ⊥

-- the first harmed citation is named
pub record NamesHarmed (a : Archive) (steps : List Step) (o : Outcome Moved) : Type 0 where
  pub place : ℕ
  pub first : IsFirst (Stays a steps) (IsHarmed a steps) a.minted place
  pub outcome : o ≡ refuses a (CitedSubset (place + 1))

-- no citation is harmed, and the migration is made, or refused for its moment
pub record IsMigrated (a : Archive) (steps : List Step) (now : ℕ) (next : Archive) (o : Outcome Moved) : Type 0 where
  pub minted : List Minted
  pub carried : AreCarried a steps a.minted minted
  pub outcome : o ≡ makes a (migrate_entry a steps now) (record { schema = next.last.schema.number; version = version_count next })
      (demand (nat_lt now clock_end) (ClockRange now) (Ok (record next { minted = minted })))

-- what is refused before the citations are looked at, is refused; else they decide
abbrev pub AreVerified : Archive → List Step → ℕ → Result Archive Refused → Outcome Moved → Type 0
AreVerified a steps now (Err refusal) o = o ≡ refuses a refusal
AreVerified a steps now (Ok next) o = NamesHarmed a steps o ⊎ IsMigrated a steps now next o

-- an outcome of a migration at a moment
abbrev pub MigrateStep : Archive → ℕ → List Step → ℕ → Outcome Moved → Type 0
MigrateStep a schema steps now o = AreVerified a steps now (new_migration a schema steps now) o
