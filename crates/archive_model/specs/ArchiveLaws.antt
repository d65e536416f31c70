-- The laws of archives.
use Rattle.std.specs.Prelude.{◌≡◌, ◌≤◌, ◌<◌, ℕ, ◌+◌, ⊤, IsTrue, List, [], ◌∷◌, ◌++◌, Option, Some, Ok, length, slice_get}
use Rattle.std.specs.List.{AllByRecursion}
use Rattle.cite_schema.specs.Headings.{is_heading}
use Rattle.cite_schema.specs.Tables.{is_table}
use Rattle.cite_schema.specs.Answers.{Gives, Alike}
use Rattle.cite_schema.specs.declared.value.Value.{Value}
use Rattle.cite_schema.specs.declared.step.Step.{Step}
use Rattle.cite_schema.specs.declared.query.CiteAsk.{CiteAsk}
use Rattle.subset_query.specs.Forms.{formed, IsSettled}
use Rattle.cite_schema.specs.declared.schema.Column.{Column}
use Rattle.entry_codec.specs.declared.entry.Entry.{Entry}
use Rattle.entry_codec.specs.declared.entry.Entry.TheVariants.{Found, Batch, Cite, Migrate}
use Rattle.archive_model.specs.declared.answers.Cited.{Cited}
use Rattle.archive_model.specs.declared.answers.Moved.{Moved}
use Rattle.archive_model.specs.Archives.{Archive, Version, Minted, Maker, ByFounding, ByBatch, ByMigration, columns_of, version_count, table_in}
use Rattle.archive_model.specs.Limits.{Counted, limit, quantity, result_limit, clock_end}
use Rattle.archive_model.specs.Outcomes.{Outcome}
use Rattle.archive_model.specs.Citing.{CiteStep}
use Rattle.migration.specs.Harmless.{printed_of, all_harmless}
use Rattle.archive_model.specs.Migrating.{new_migration, Stays, MigrateStep}
use Rattle.archive_model.specs.Histories.{Makes, LeadsTo, journal_length}

-- a citation has one outcome at most
abbrev pub CitesOnce : Type 0
CitesOnce = (a : Archive) (ask : CiteAsk) (now : ℕ) (o p : Outcome Cited) → CiteStep a ask now o → CiteStep a ask now p → o ≡ p

-- a migration has one outcome at most
abbrev pub MigratesOnce : Type 0
MigratesOnce = (a : Archive) (schema : ℕ) (steps : List Step) (now : ℕ) (o p : Outcome Moved) → MigrateStep a schema steps now o → MigrateStep a schema steps now p → o ≡ p

-- both
abbrev pub StepsHaveOneOutcome : Type 0
StepsHaveOneOutcome = CitesOnce × MigratesOnce

-- a history leads to one archive at most
abbrev pub HistoriesLeadToOneArchive : Type 0
HistoriesLeadToOneArchive = (history : List Entry) (a b : Archive) → LeadsTo history a → LeadsTo history b → a ≡ b

-- version n has a table of the present schema
pub record HasTable (v : Version) (older : List Version) (n : ℕ) : Type 0 where
  pub table : List (List Value)
  pub is : table_in v older n ≡ Some table
  pub fits : IsTrue (is_table v.schema.columns table)

-- the citation's form is settled for the present schema, and gives its bytes on the present table of its version
pub record Resolves (v : Version) (older : List Version) (m : Minted) : Type 0 where
  pub settled : IsSettled v.schema.columns m.form
  pub from : 1 ≤ m.issue.version
  pub to : m.issue.version ≤ length older + 1
  pub table : List (List Value)
  pub is : table_in v older m.issue.version ≡ Some table
  pub gives : Gives (formed m.form) table m.bytes

-- the columns make a schema, each version has a table, and each citation resolves to its bytes
pub record IsSound (v : Version) (older : List Version) (minted : List Minted) : Type 0 where
  pub heading : IsTrue (is_heading v.schema.columns)
  pub tables : (n : ℕ) → 1 ≤ n → n ≤ length older + 1 → HasTable v older n
  pub citations : AllByRecursion (Resolves v older) minted

-- so it is in every archive to which a history leads
abbrev pub CitationsResolve : Type 0
CitationsResolve = (history : List Entry) (a : Archive) → LeadsTo history a → IsSound a.last a.older a.minted

-- citations are numbered from k on
abbrev pub AreNumbered : ℕ → List Minted → Type 0
AreNumbered k [] = ⊤
AreNumbered k (m ∷ ms) = (m.issue.number ≡ k) × AreNumbered (k + 1) ms

-- the stamps of the versions never fall
abbrev pub NeverFall : Version → List Version → Type 0
NeverFall v [] = ⊤
NeverFall v (w ∷ ws) = (w.stamp ≤ v.stamp) × NeverFall w ws

-- 1 for a migration
abbrev pub migrations_by : Maker → ℕ
migrations_by (ByMigration steps) = 1
migrations_by ByFounding = 0
migrations_by (ByBatch curator number digest lines) = 0

-- how many of the versions came by a migration
abbrev pub migrations_in : Version → List Version → ℕ
migrations_in v [] = migrations_by v.maker
migrations_in v (w ∷ ws) = migrations_by v.maker + migrations_in w ws

-- what is counted in an archive is in order
pub record IsCounted (history : List Entry) (a : Archive) : Type 0 where
  pub numbers : AreNumbered 1 a.minted
  pub stamps : NeverFall a.last a.older
  pub last_stamp : a.last.stamp ≤ a.stamp
  pub clock : a.stamp < clock_end
  pub schema : a.last.schema.number ≡ 1 + migrations_in a.last a.older
  pub limits : (c : Counted) → quantity a c ≤ limit c
  pub sizes : AllByRecursion (λ (m : Minted). length m.bytes ≤ result_limit) a.minted
  pub journal : a.journal ≡ journal_length history

-- so it is in every archive to which a history leads
abbrev pub CountsKeepTheirLimits : Type 0
CountsKeepTheirLimits = (history : List Entry) (a : Archive) → LeadsTo history a → IsCounted history a

-- the two did not give the same bytes, or on some table of the columns their forms give different bytes
abbrev pub Differ : List Column → Minted → Minted → Type 0
Differ columns m k = (m.bytes ≡ k.bytes) × Alike columns (formed m.form) (formed k.form) → ⊥

-- each two of the citations differ
abbrev pub AllDiffer : List Column → List Minted → Type 0
AllDiffer columns [] = ⊤
AllDiffer columns (m ∷ ms) = AllByRecursion (Differ columns m) ms × AllDiffer columns ms

-- the entry is no migration
abbrev pub IsNoMigration : Entry → Type 0
IsNoMigration (Migrate e) = ⊥
IsNoMigration (Found e) = ⊤
IsNoMigration (Batch e) = ⊤
IsNoMigration (Cite e) = ⊤

-- before any migration each two citations differ; a migration may carry two of them to one form
abbrev pub CitationsDifferBeforeMigrations : Type 0
CitationsDifferBeforeMigrations = (history : List Entry) (a : Archive) → AllByRecursion IsNoMigration history → LeadsTo history a → AllDiffer a.last.schema.columns a.minted

-- where a migration is not refused before the citations are looked at, it harms none whose form its steps are harmless for
abbrev pub HarmlessMigrationsHarmNone : Type 0
HarmlessMigrationsHarmNone = (history : List Entry) (a next : Archive) (schema : ℕ) (steps : List Step) (now place : ℕ) (m : Minted) → LeadsTo history a → new_migration a schema steps now ≡ Ok next
    → slice_get a.minted place ≡ Some m → IsTrue (all_harmless (columns_of a) steps (printed_of m.form)) → Stays a steps m

-- an entry that the archive makes can stand behind the history
abbrev pub HistoriesGrow : Type 0
HistoriesGrow = (history : List Entry) (a b : Archive) (e : Entry) → LeadsTo history a → Makes a e b → LeadsTo (history ++ e ∷ []) b

-- each entry is a version or a citation
abbrev pub EntriesAreCounted : Type 0
EntriesAreCounted = (history : List Entry) (a : Archive) → LeadsTo history a → length history ≡ version_count a + length a.minted

-- both
abbrev pub HistoriesGrowByEntries : Type 0
HistoriesGrowByEntries = HistoriesGrow × EntriesAreCounted
