-- What `init PREFIX PUBLISHER CREATOR TITLE COLUMN..` does.
use Rattle.std.specs.Prelude.{◌≡◌, ◌<◌, ℕ, List, [], ◌∷◌, ◌++◌, Option, Some, None, map, length, codes, unwrap_or}
use Rattle.cite_ports.specs.Ports.{Shows}
use Rattle.cite_disk.specs.Device.{RoseBy}
use Rattle.cite_schema.specs.TableTexts.{column_in}
use Rattle.cite_schema.specs.declared.value.Kind.TheVariants as kinds
use Rattle.cite_schema.specs.declared.schema.Column.{Column}
use Rattle.cite_schema.specs.declared.schema.SchemaFault.{SchemaFault}
use Rattle.cite_schema.specs.declared.schema.SchemaFault.TheVariants as schemas
use Rattle.cite_schema.specs.declared.dataset.Dataset.{Dataset}
use Rattle.identifiers.specs.Names.{name_of}
use Rattle.identifiers.specs.declared.named.Named.TheVariants as named
use Rattle.entry_codec.specs.declared.entry.FoundEntry.{FoundEntry}
use Rattle.entry_codec.specs.declared.entry.Entry.TheVariants as entries
use Rattle.archive_model.specs.declared.answers.FoundFault.{FoundFault}
use Rattle.archive_model.specs.declared.answers.FoundFault.TheVariants as faults
use Rattle.archive_model.specs.Histories.{found_fault}
use Rattle.cite_cli.specs.declared.ending.Ending.{Ending}
use Rattle.cite_cli.specs.declared.ending.Ending.TheVariants as endings
use Rattle.cite_cli.specs.declared.refusal.Refusal.{Refusal}
use Rattle.cite_cli.specs.declared.refusal.Refusal.TheVariants as refusals
use Rattle.cite_cli.specs.Refusals.{refusal_line}
use Rattle.cite_cli.specs.Seen.{Seen, OnDisk, IsUntaken, HoldsHistory, Ends}

-- the column that a word spells; a word of another form counts as a column with a bad name in its place
abbrev pub said_column : List ℕ → Column
said_column word = unwrap_or (column_in word) (record { name = []; kind = kinds.Int })

-- the words are `init`, what is told of the data set, and its columns, one at least
pub record IsInit (words : List (List ℕ)) (dataset : Dataset) (columns : List Column) : Type 0 where
  pub first : List ℕ
  pub more : List (List ℕ)
  pub words_are : words ≡ codes "init" ∷ dataset.prefix ∷ dataset.publisher ∷ dataset.creator ∷ dataset.title ∷ first ∷ more
  pub columns_are : columns ≡ map said_column (first ∷ more)

-- the rule of a schema, as it is told
abbrev pub schema_rule : SchemaFault → Refusal
schema_rule schemas.NoColumns = refusals.NoColumns
schema_rule schemas.TooManyColumns = refusals.TooManyColumns
schema_rule (schemas.BadName place) = refusals.BadName place
schema_rule (schemas.NameTwice place) = refusals.NameTwice place

-- the rule of a founding, as it is told; the other faults are none
abbrev pub founding_rule : FoundFault → Option Refusal
founding_rule faults.BadPrefix = Some refusals.BadPrefix
founding_rule (faults.BadMeta part) = Some (refusals.BadMeta part)
founding_rule (faults.Schema fault) = Some (schema_rule fault)
founding_rule (faults.ClockRange moment) = Some (refusals.ClockRange moment)
founding_rule faults.NoMemory = None
founding_rule faults.DiskFailed = None
founding_rule faults.Occupied = None

-- the founding breaks no rule
abbrev pub IsUnbroken : FoundEntry → Type 0
IsUnbroken f = found_fault f.dataset f.columns f.stamp ≡ None

-- the archive is founded on the disk, which was empty
pub record IsFounded (f : FoundEntry) (disk : OnDisk) : Type 0 where
  pub unbroken : IsUnbroken f
  pub empty : disk.honest → length disk.before ≡ 0
  pub holds : HoldsHistory disk (entries.Found f ∷ [])

-- the founding breaks a rule, whose line this is, and the disk is untouched
pub record IsRefused (f : FoundEntry) (disk : OnDisk) (line : List ℕ) : Type 0 where
  pub fault : FoundFault
  pub refusal : Refusal
  pub broken : found_fault f.dataset f.columns f.stamp ≡ Some fault
  pub rule : founding_rule fault ≡ Some refusal
  pub line_is : line ≡ refusal_line refusal
  pub untouched : disk.untouched

-- the disk holds something, and was only read
pub record IsOccupied (f : FoundEntry) (disk : OnDisk) : Type 0 where
  pub unbroken : IsUnbroken f
  pub full : disk.honest → 0 < length disk.before
  pub quiet : disk.honest → disk.quiet

-- the line of a name
abbrev pub name_line : Dataset → List ℕ
name_line dataset = name_of dataset.prefix named.Superset ++ codes "\n"

-- what there is to write, by the ending
abbrev pub InitWrites : FoundEntry → OnDisk → Ending → List ℕ → Type 0
InitWrites f disk endings.Done bytes = IsFounded f disk × (bytes ≡ name_line f.dataset)
InitWrites f disk endings.Refused bytes = IsRefused f disk bytes
InitWrites f disk endings.Occupied bytes = IsOccupied f disk × (bytes ≡ codes "Occupied\n")
InitWrites f disk ending bytes = ⊥

-- the disk failed, and no rule is broken
abbrev pub InitBreaks : FoundEntry → OnDisk → Type 0
InitBreaks f disk = IsUnbroken f × RoseBy disk.faults_before 1 disk.faults_after

-- memory was wanting, and the disk was only read
abbrev pub InitLacks : OnDisk → Type 0
InitLacks disk = disk.honest → disk.quiet

-- what `init` did: it took one moment of the clock, with which it founds, and nothing of the source
pub record Inits (dataset : Dataset) (columns : List Column) (seen : Seen) (disk : OnDisk) (ending : Ending) : Type 0 where
  pub moment : ℕ
  pub asked : Shows moment seen.given_before seen.given_after
  pub untaken : IsUntaken seen
  pub ends : Ends (InitWrites (record { stamp = moment; dataset = dataset; columns = columns }) disk) (InitBreaks (record { stamp = moment; dataset = dataset; columns = columns }) disk) (InitLacks disk) seen ending
