-- What a call may answer, and for what the desk and its disk stand afterwards.
use Rattle.std.specs.Prelude.{◌≡◌, ◌⊎◌, ◌+◌, ◌≤◌, List, [], ◌∷◌, ◌++◌, Some, None, Result, Ok, Err, ⊤, length}
use Rattle.std.specs.Arc.{arc_value}
use Rattle.archive_journal.specs.declared.journal.Stage.TheVariants.{Settled}
use Rattle.entry_codec.specs.declared.entry.FoundEntry.{FoundEntry}
use Rattle.entry_codec.specs.declared.entry.Entry.{Entry}
use Rattle.entry_codec.specs.declared.entry.Entry.TheVariants as entries
use Rattle.entry_codec.specs.Payloads.{payload}
use Rattle.archive_model.specs.declared.answers.FoundFault.{FoundFault}
use Rattle.archive_model.specs.declared.answers.FoundFault.TheVariants as faults
use Rattle.archive_model.specs.declared.answers.Refused.{Refused}
use Rattle.archive_model.specs.declared.answers.Refused.TheVariants as refusals
use Rattle.archive_model.specs.Outcomes.{Outcome}
use Rattle.archive_model.specs.Histories.{found_fault, founded}
use Rattle.archive_state.specs.declared.plan.Made.{Made}
use Rattle.archive_state.specs.declared.plan.Planned.{Planned}
use Rattle.archive_state.specs.declared.plan.Planned.TheVariants.{Repeat, New}
use Rattle.archive_state.specs.Standing.{Stands, StandsFor}
use Rattle.archive_core.specs.Keeping.{Held}

-- the entry is one that the step makes
abbrev pub MadeBy : {R : Type 0} → (Outcome R → Type 0) → Entry → Type 0
MadeBy {R} step e = (o : Outcome R) × step o × (o.entry ≡ Some e)

-- what is kept stays, and so do the snapshot that waits and the entry made last
abbrev pub SameArchive : (old new : Held) → Type 0
SameArchive old new = (new.present ≡ old.present) × (new.ready ≡ old.ready) × (new.made ≡ old.made)

-- the reply is that of an outcome of the step. Without an entry the desk and the disk stay untouched; with one, the entry is on the disk, the desk stands for what it leaves, its snapshot is ready, and the entry is the one made last. Or the disk failed, and the entry may be under way; or memory was wanting. `before` and `after` say with which entry under way the disk keeps a history, before the call and after it.
pub data Answers {R : Type 0} (step : Outcome R → Type 0) (history : List Entry) (before : Entry → Type 0) (after : List Entry → Entry → Type 0) (untouched : Type 0) (old new : Held) (reply : Result R Refused) : Type 0 where
  Stays : (o : Outcome R) → step o → o.entry ≡ None → reply ≡ o.reply → new ≡ old → untouched → Answers step history before after untouched old new reply
  Grows : (o : Outcome R) (e : Entry) → step o → o.entry ≡ Some e → reply ≡ o.reply
      → StandsFor new.present (history ++ e ∷ []) o.after → new.ready ≡ Some (arc_value new.present.snapshot) → new.made ≡ Some (payload e) → new.journal.stage ≡ Settled
      → ((d : Entry) → before d → after (history ++ e ∷ []) d) → Answers step history before after untouched old new reply
  Fails : (o : Outcome R) (e : Entry) → step o → o.entry ≡ Some e → reply ≡ Err refusals.DiskFailed → SameArchive old new
      → ((d : Entry) → before d → after history d ⊎ after history e) → Answers step history before after untouched old new reply
  Wants : reply ≡ Err refusals.NoMemory → SameArchive old new → ((d : Entry) → before d → after history d) → Answers step history before after untouched old new reply

-- a founding's desk stands for the history of it alone, its snapshot is ready, and it is the entry made last; or the first rule that it breaks; or no rule, where the disk failed or isn't empty; or memory was wanting
abbrev pub Founds : FoundEntry → Result Held FoundFault → Type 0
Founds f (Ok desk) = (found_fault f.dataset f.columns f.stamp ≡ None) × StandsFor desk.present (entries.Found f ∷ []) (founded f) × (desk.ready ≡ Some (arc_value desk.present.snapshot)) × (desk.made ≡ Some (payload (entries.Found f))) × (desk.journal.stage ≡ Settled)
Founds f (Err faults.NoMemory) = ⊤
Founds f (Err faults.DiskFailed) = found_fault f.dataset f.columns f.stamp ≡ None
Founds f (Err faults.Occupied) = found_fault f.dataset f.columns f.stamp ≡ None
Founds f (Err fault) = found_fault f.dataset f.columns f.stamp ≡ Some fault

-- the fault is a rule that the founding breaks
abbrev pub IsBroken : FoundEntry → Type 0
IsBroken f = (fault : FoundFault) × (found_fault f.dataset f.columns f.stamp ≡ Some fault)

-- a new entry that a desk can add: what is kept after it stands for some history, and its record is within the limits
pub record CanBeAdded {R : Type 0} (old : Held) (made : Made R) : Type 0 where
  pub stands : Stands made.next
  pub small : length made.payload ≤ 16777216
  pub counted : made.next.journal ≡ old.present.journal + length made.payload + 37
  pub within : made.next.journal ≤ 1073741824

-- what is planned can be written, where it is a new entry
abbrev pub CanBeWritten : {R : Type 0} → Held → Result (Planned R) Refused → Type 0
CanBeWritten old (Ok (New made)) = CanBeAdded old made
CanBeWritten old (Ok (Repeat reply)) = ⊤
CanBeWritten old (Err refusal) = ⊤

-- what is kept is what was planned, its snapshot is ready, and its payload is the one made last; or the disk failed or memory was wanting, and it is as before
abbrev pub Adds : {R : Type 0} → Made R → (old new : Held) → Result R Refused → Type 0
Adds made old new (Ok reply) = (reply ≡ made.reply) × (new.present ≡ made.next) × (new.ready ≡ Some (arc_value made.next.snapshot)) × (new.made ≡ Some made.payload) × (new.journal.stage ≡ Settled)
Adds made old new (Err refusal) = SameArchive old new × ((refusal ≡ refusals.DiskFailed) ⊎ (refusal ≡ refusals.NoMemory))
