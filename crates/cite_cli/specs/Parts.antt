-- What the parts of the commands hand on to each other. Clauses of private functions alone cite it.
use Rattle.std.specs.Prelude.{◌≡◌, ◌≢◌, ◌⊎◌, ℕ, Bool, List, [], ◌∷◌, ◌++◌, Option, Some, None, map, filter, AllPairs, string_bytes, ⊤}
use Rattle.cite_ports.specs.Ports.{Holds, Rose}
use Rattle.cite_schema.specs.declared.dataset.Dataset.{Dataset}
use Rattle.entry_codec.specs.declared.entry.FoundEntry.{FoundEntry}
use Rattle.archive_model.specs.Archives.{Archive, Minted}
use Rattle.archive_state.specs.Executing.{minted_as}
use Rattle.cite_cli.specs.declared.ending.Ending.{Ending}
use Rattle.cite_cli.specs.declared.ending.Ending.TheVariants as endings
use Rattle.cite_cli.specs.declared.output.Due.{Due}
use Rattle.cite_cli.specs.declared.output.Due.TheVariants as dues
use Rattle.cite_cli.specs.declared.words.InitWords.{InitWords}
use Rattle.cite_conversation.specs.Streams.{PutsFront}
use Rattle.cite_cli.specs.Seen.{OnDisk}
use Rattle.cite_cli.specs.Init.{said_column, InitWrites, InitBreaks, InitLacks}
use Rattle.cite_cli.specs.Verify.{citation_line, VerifyWrites, VerifyBreaks, VerifyLacks}
use Rattle.std.specs.declared.cmp.Ordering.TheVariants.{Equal}
use Rattle.cite_schema.specs.Tables.{key_cmp}
use Rattle.cite_schema.specs.TableTexts.{header_of, all_some, row_of}
use Rattle.cite_schema.specs.declared.value.Value.{Value}
use Rattle.cite_schema.specs.declared.schema.Column.{Column}
use Rattle.csv_records.specs.Keys.{IsFirstAgain}
use Rattle.cite_cli.specs.declared.bounds.Bounds.{Bounds}
use Rattle.cite_cli.specs.declared.refusal.Refusal.{Refusal}
use Rattle.cite_cli.specs.declared.refusal.Refusal.TheVariants.{BadHeader, KeyTwice}
use Rattle.cite_cli.specs.declared.refusal.Fault.{Fault}
use Rattle.cite_cli.specs.declared.refusal.Fault.TheVariants as faults
use Rattle.cite_cli.specs.declared.select.Output.{Output}
use Rattle.cite_cli.specs.declared.select.Output.TheVariants.{Done, Refused}
use Rattle.cite_cli.specs.Refusals.{lines_fault}
use Rattle.cite_cli.specs.Select.{IsFullResult, IsRefusal}

-- no columns were spelled
abbrev pub spelling_fault : Option (List Column) → Option Refusal
spelling_fault None = Some BadHeader
spelling_fault (Some columns) = None

-- the first of the records is no header
abbrev pub header_fault : List (List (List ℕ)) → Option Refusal
header_fault [] = Some BadHeader
header_fault (head ∷ lines) = spelling_fault (header_of head)

-- the first of the records is the header of these columns, and the others are the lines
pub record IsHeader (columns : List Column) (records lines : List (List (List ℕ))) : Type 0 where
  pub head : List (List ℕ)
  pub records_are : records ≡ head ∷ lines
  pub spelled : header_of head ≡ Some columns

-- what a fault tells: a rule that is broken, or want of memory
abbrev pub TellsOf : (Refusal → Type 0) → Fault → Type 0
TellsOf Broken (faults.Refused refusal) = Broken refusal
TellsOf Broken faults.NoMemory = ⊤

-- the rule is the first that is broken
abbrev pub Tells : Option Refusal → Fault → Type 0
Tells first fault = TellsOf (λ refusal. first ≡ Some refusal) fault

-- each line spells a row, no two rows have one key, and these are the rows that pass the test
pub record ArePicked (columns : List Column) (keeps : List Value → Bool) (lines : List (List (List ℕ))) (picked : List (List Value)) : Type 0 where
  pub rows : List (List Value)
  pub read : all_some (map (row_of columns) lines) ≡ Some rows
  pub apart : AllPairs (λ r t. key_cmp r t ≢ Equal) rows
  pub unbroken : lines_fault columns [] lines ≡ None
  pub picked_are : picked ≡ filter keeps rows

-- the output of `select` for an input: its result, or the line of a refusal
abbrev pub Explains : List ℕ → Bounds → List ℕ → Output → Type 0
Explains column bounds text (Done bytes) = IsFullResult column bounds text bytes
Explains column bounds text (Refused line) = IsRefusal column bounds text line

-- the fault is that of the first line whose key an earlier line has
abbrev pub TellsAgain : List Value → Fault → Type 0
TellsAgain keys fault = (n : ℕ) × (fault ≡ faults.Refused (KeyTwice n)) × IsFirstAgain keys n

-- what the words of an `init` tell of the data set
abbrev pub told_by : InitWords → Dataset
told_by w = record { prefix = w.prefix.now; publisher = w.publisher.now; creator = w.creator.now; title = w.title.now }

-- the columns that they spell
abbrev pub columns_by : InitWords → List Column
columns_by w = map (λ word. said_column (string_bytes word)) w.columns.now

-- what is due may be written with its ending, or the disk broke off, or memory was wanting
abbrev pub MayBeDue : (Ending → List ℕ → Type 0) → (Breaks Lacks : Type 0) → Due → Type 0
MayBeDue Writes Breaks Lacks (dues.Writes ending bytes) = Writes ending bytes
MayBeDue Writes Breaks Lacks dues.DiskFault = Breaks
MayBeDue Writes Breaks Lacks dues.NoMemory = Lacks

-- what is due behind an `init`
abbrev pub InitDue : FoundEntry → OnDisk → Due → Type 0
InitDue f disk due = MayBeDue (InitWrites f disk) (InitBreaks f disk) (InitLacks disk) due

-- what is due behind a `verify`
abbrev pub VerifyDue : OnDisk → Due → Type 0
VerifyDue disk due = MayBeDue (VerifyWrites disk) (VerifyBreaks disk) (VerifyLacks disk) due

-- how what is due was delivered: all of it, or a front where the sink failed; or nothing
abbrev pub Delivers : Due → (before after : Option (List ℕ)) (faults_before faults_after : ℕ) → Ending → Type 0
Delivers (dues.Writes due bytes) before after faults_before faults_after ending =
    ((ending ≡ due) × Holds bytes before after) ⊎ ((ending ≡ endings.WriteFault) × Rose faults_before faults_after × PutsFront bytes before after)
Delivers dues.DiskFault before after faults_before faults_after ending = (ending ≡ endings.DiskFault) × (after ≡ before)
Delivers dues.NoMemory before after faults_before faults_after ending = (ending ≡ endings.NoMemory) × (after ≡ before)

-- the line of the citation with a number stands behind the text
pub record AddsCitation (a : Archive) (number : ℕ) (old new : List ℕ) : Type 0 where
  pub minted : Minted
  pub is : minted_as a number ≡ Some minted
  pub added : new ≡ old ++ citation_line number minted
