-- What writing a planned entry does to the disk.
use Rattle.std.specs.Prelude.{◌≡◌, ◌⊎◌, ℕ, List, [], ◌∷◌, ◌++◌, Result, Ok, Err, OnOk, IsErrOf}
use Rattle.archive_journal.specs.declared.journal.Journal.{Journal}
use Rattle.archive_journal.specs.declared.journal.Stage.TheVariants.{Settled}
use Rattle.archive_journal.specs.Stands.{DiskStands, Image}
use Rattle.archive_model.specs.declared.answers.Refused.{Refused}
use Rattle.archive_model.specs.declared.answers.Refused.TheVariants as refusals
use Rattle.archive_state.specs.declared.plan.Planned.{Planned}
use Rattle.archive_state.specs.declared.plan.Planned.TheVariants.{Repeat, New}
use Rattle.archive_core.specs.Keeping.{Held, MayLeave}
use Rattle.archive_core.specs.Answering.{Adds}

-- a payload is on the disk behind the others; or the disk failed, and the old one or this one is under way; or memory was wanting, and the journal is settled or as before
pub record LeavesDisk {R : Type 0} (honest : Type 0) (images_old images_new : List ℕ → Type 0) (old new : Journal) (payload : List ℕ) (reply : Result R Refused) : Type 0 where
  pub wrote : OnOk reply (honest → (ps : List (List ℕ)) (p : List ℕ) → DiskStands images_old old ps p → DiskStands images_new new (ps ++ payload ∷ []) p)
  pub failed : IsErrOf reply refusals.DiskFailed → honest → (ps : List (List ℕ)) (p : List ℕ) → DiskStands images_old old ps p
      → (DiskStands images_new new ps p × (new.stage ≡ old.stage)) ⊎ DiskStands images_new new ps payload
  pub stage : IsErrOf reply refusals.NoMemory → (new.stage ≡ old.stage) ⊎ (new.stage ≡ Settled)
  pub settled : IsErrOf reply refusals.NoMemory → honest → (ps : List (List ℕ)) (p : List ℕ) → DiskStands images_old old ps p → DiskStands images_new new ps p

-- a refusal and a repeat are answered, and touch neither desk nor disk; a new entry is added
abbrev pub Writes : {R : Type 0} (honest untouched : Type 0) (images_old images_new : List ℕ → Type 0) (old new : Held) → Result (Planned R) Refused → Result R Refused → Type 0
Writes honest untouched images_old images_new old new (Err refusal) reply = (reply ≡ Err refusal) × (new ≡ old) × untouched
Writes honest untouched images_old images_new old new (Ok (Repeat told)) reply = (reply ≡ Ok told) × (new ≡ old) × untouched
Writes honest untouched images_old images_new old new (Ok (New made)) reply =
    Adds made old new reply × LeavesDisk honest images_old images_new old.journal new.journal made.payload reply

-- what a crash may leave while what is planned is written
abbrev pub MayLeaveBy : {R : Type 0} → Result (Planned R) Refused → Journal → List (List ℕ) → (p : List ℕ) → List ℕ → Type 0
MayLeaveBy (Err refusal) journal ps p b = Image journal.stage ps p b
MayLeaveBy (Ok (Repeat told)) journal ps p b = Image journal.stage ps p b
MayLeaveBy (Ok (New made)) journal ps p b = MayLeave journal ps p made.payload b
