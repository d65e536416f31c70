-- What a plan may be.
use Rattle.std.specs.Prelude.{◌≡◌, List, [], ◌∷◌, ◌++◌, Some, Result, Ok, Err, ⊤}
use Rattle.entry_codec.specs.declared.entry.Entry.{Entry}
use Rattle.entry_codec.specs.Payloads.{payload}
use Rattle.entry_codec.specs.Spellable.{FitsEntry}
use Rattle.archive_model.specs.declared.answers.Refused.{Refused}
use Rattle.archive_model.specs.declared.answers.Refused.TheVariants as refusals
use Rattle.archive_model.specs.Archives.{Archive}
use Rattle.archive_model.specs.Outcomes.{Outcome, refuses, repeats}
use Rattle.archive_state.specs.declared.plan.Made.{Made}
use Rattle.archive_state.specs.declared.plan.Planned.{Planned}
use Rattle.archive_state.specs.declared.plan.Planned.TheVariants.{Repeat, New}
use Rattle.archive_state.specs.Standing.{StandsFor}

-- the plan has the reply of an outcome and the payload of its entry, and what it keeps stands for the history with that entry
pub record PlansEntry {R : Type 0} (step : Outcome R → Type 0) (history : List Entry) (m : Made R) : Type 0 where
  pub outcome : Outcome R
  pub is : step outcome
  pub entry : Entry
  pub entry_is : outcome.entry ≡ Some entry
  pub reply_is : outcome.reply ≡ Ok m.reply
  pub payload_is : m.payload ≡ payload entry
  pub fits : FitsEntry entry
  pub stands : StandsFor m.next (history ++ entry ∷ []) outcome.after

-- what is planned is an outcome of the step; or memory was wanting
abbrev pub Plans : {R : Type 0} → (Outcome R → Type 0) → List Entry → Archive → Result (Planned R) Refused → Type 0
Plans step history a (Ok (Repeat reply)) = step (repeats a reply)
Plans step history a (Ok (New made)) = PlansEntry step history made
Plans step history a (Err refusals.NoMemory) = ⊤
Plans step history a (Err refusal) = step (refuses a refusal)
