-- What is planned for a founding.
use Rattle.std.specs.Prelude.{◌≡◌, List, [], ◌∷◌, Option, Some, None, Result, Ok, Err, not, if◌then◌else◌, ⊤}
use Rattle.cite_schema.specs.Headings.{heading_fault}
use Rattle.cite_schema.specs.declared.dataset.Dataset.{Dataset}
use Rattle.cite_schema.specs.declared.schema.Column.{Column}
use Rattle.entry_codec.specs.declared.entry.FoundEntry.{FoundEntry}
use Rattle.entry_codec.specs.declared.entry.Entry.TheVariants as entries
use Rattle.entry_codec.specs.Payloads.{payload}
use Rattle.archive_model.specs.declared.answers.FoundFault.{FoundFault}
use Rattle.archive_model.specs.declared.answers.FoundFault.TheVariants as faults
use Rattle.identifiers.specs.Prefixes.{is_prefix}
use Rattle.archive_model.specs.Histories.{found_fault, founded, is_told}
use Rattle.archive_state.specs.declared.plan.Made.{Made}
use Rattle.archive_state.specs.Standing.{StandsFor}

-- the first rule that what is told of a data set breaks
abbrev pub dataset_fault : Dataset → Option FoundFault
dataset_fault dataset =
    if not (is_prefix dataset.prefix) then Some faults.BadPrefix
    else (if not (is_told dataset.publisher) then Some (faults.BadMeta 4)
    else (if not (is_told dataset.creator) then Some (faults.BadMeta 1)
    else (if not (is_told dataset.title) then Some (faults.BadMeta 2) else None)))

-- it breaks none, or this is the first
abbrev pub TellsDataset : Dataset → Result ⊤ FoundFault → Type 0
TellsDataset dataset (Ok _) = dataset_fault dataset ≡ None
TellsDataset dataset (Err fault) = dataset_fault dataset ≡ Some fault

-- the first rule that columns break; or memory was wanting
abbrev pub TellsHeading : List Column → FoundFault → Type 0
TellsHeading columns (faults.Schema fault) = heading_fault columns ≡ Some fault
TellsHeading columns faults.NoMemory = ⊤
TellsHeading columns fault = ⊥

-- the founding breaks no rule, and what is kept stands for the history of it alone
pub record PlansFounding (f : FoundEntry) (m : Made ⊤) : Type 0 where
  pub legal : found_fault f.dataset f.columns f.stamp ≡ None
  pub payload_is : m.payload ≡ payload (entries.Found f)
  pub stands : StandsFor m.next (entries.Found f ∷ []) (founded f)

-- the plan of a founding, or the first rule that it breaks; or memory was wanting
abbrev pub PlansFound : FoundEntry → Result (Made ⊤) FoundFault → Type 0
PlansFound f (Ok made) = PlansFounding f made
PlansFound f (Err faults.NoMemory) = ⊤
PlansFound f (Err fault) = found_fault f.dataset f.columns f.stamp ≡ Some fault
