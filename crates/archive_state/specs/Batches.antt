-- What is planned for a batch, part by part.
use Rattle.std.specs.Prelude.{◌≡◌, ℕ, ◌+◌, true, false, List, [], ◌∷◌, ◌++◌, Result, Ok, Err, if◌then◌else◌, ⊤}
use Rattle.cite_schema.specs.declared.line.Line.{Line}
use Rattle.cite_schema.specs.declared.schema.Column.{Column}
use Rattle.cite_schema.specs.declared.batch_ask.BatchAsk.{BatchAsk}
use Rattle.batches.specs.Bodies.{is_word, lines_of}
use Rattle.versioned_rows.specs.declared.fault.ApplyFault.{ApplyFault}
use Rattle.versioned_rows.specs.Changes.{after_lines}
use Rattle.versioned_rows.specs.Histories.{RowHistory, last_table}
use Rattle.versioned_rows.specs.Nexts.{IsNextByLines}
use Rattle.entry_codec.specs.declared.entry.Entry.{Entry}
use Rattle.entry_codec.specs.Payloads.{payload}
use Rattle.entry_codec.specs.Spellable.{FitsEntry}
use Rattle.archive_model.specs.declared.answers.Stored.{Stored}
use Rattle.archive_model.specs.declared.answers.Refused.{Refused}
use Rattle.archive_model.specs.declared.answers.Refused.TheVariants as refusals
use Rattle.archive_model.specs.Archives.{Archive, version_count}
use Rattle.archive_model.specs.Batching.{new_batch, batch_entry}
use Rattle.archive_state.specs.declared.used.UsedNumber.{UsedNumber}
use Rattle.archive_state.specs.declared.plan.Made.{Made}
use Rattle.archive_state.specs.declared.plan.Planned.{Planned}
use Rattle.archive_state.specs.declared.plan.Planned.TheVariants.{Repeat}
use Rattle.archive_state.specs.Standing.{StandsFor}

-- what a used number says of a body with a digest: it is a repeat, or the number stands for another body
abbrev pub told_by : UsedNumber → List ℕ → Result (Planned Stored) Refused
told_by used digest = if is_word used.digest digest then Ok (Repeat (record { version = used.version; new = false })) else Err (refusals.NumberUsed used.version)

-- rows that the lines of a body make of others
pub record IsNextByBody (columns : List Column) (body : List ℕ) (old new : RowHistory) : Type 0 where
  pub lines : List Line
  pub spelled : lines_of columns body ≡ Ok lines
  pub next : IsNextByLines lines old new

-- the lines of a body do not go with the last table
pub record TellsMisfit (columns : List Column) (body : List ℕ) (old : RowHistory) (fault : ApplyFault) : Type 0 where
  pub lines : List Line
  pub spelled : lines_of columns body ≡ Ok lines
  pub misfit : after_lines 1 lines (last_table old) ≡ Err fault

-- rows that a body makes of others, or why it makes none; or memory was wanting
abbrev pub MakesRows : List Column → List ℕ → RowHistory → Result RowHistory Refused → Type 0
MakesRows columns body old (Ok new) = IsNextByBody columns body old new
MakesRows columns body old (Err (refusals.Body fault)) = lines_of columns body ≡ Err fault
MakesRows columns body old (Err (refusals.Lines fault)) = TellsMisfit columns body old fault
MakesRows columns body old (Err refusals.NoMemory) = ⊤
MakesRows columns body old (Err refusal) = ⊥

-- the archive after a batch, and what is kept of it, its payload and the reply
pub record PlansVersion (a : Archive) (ask : BatchAsk) (now : ℕ) (history : List Entry) (m : Made Stored) : Type 0 where
  pub next : Archive
  pub makes : new_batch a ask now ≡ Ok next
  pub reply_is : m.reply ≡ record { version = version_count a + 1; new = true }
  pub payload_is : m.payload ≡ payload (batch_entry a ask now)
  pub fits : FitsEntry (batch_entry a ask now)
  pub stands : StandsFor m.next (history ++ batch_entry a ask now ∷ []) next

-- the plan of a batch that was not there before, or the first rule that it breaks; or memory was wanting
abbrev pub PlansBatch : Archive → BatchAsk → ℕ → List Entry → Result (Made Stored) Refused → Type 0
PlansBatch a ask now history (Ok made) = PlansVersion a ask now history made
PlansBatch a ask now history (Err refusals.NoMemory) = ⊤
PlansBatch a ask now history (Err refusal) = new_batch a ask now ≡ Err refusal
