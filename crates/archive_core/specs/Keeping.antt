-- What a desk holds, and when a disk keeps its history.
use Rattle.std.specs.Prelude.{◌≡◌, ◌≢◌, ◌⊎◌, ℕ, List, [], ◌∷◌, ◌++◌, map, Option, IfSome}
use Rattle.std.specs.Arc.{arc_value}
use Rattle.std.specs.List.{AllByRecursion}
use Rattle.std.specs.declared.snapshot.Snapshot.{Snapshot as Remembered}
use Rattle.archive_journal.specs.declared.journal.Journal.{Journal}
use Rattle.archive_journal.specs.declared.journal.Stage.TheVariants.{Settled}
use Rattle.archive_journal.specs.Records.{Shut, Gated}
use Rattle.archive_journal.specs.Stands.{DiskStands}
use Rattle.entry_codec.specs.declared.entry.Entry.{Entry}
use Rattle.entry_codec.specs.Payloads.{payload}
use Rattle.entry_codec.specs.Spellable.{FitsEntry}
use Rattle.archive_model.specs.Archives.{Archive}
use Rattle.archive_model.specs.Histories.{LeadsTo}
use Rattle.archive_state.specs.declared.snapshot.Snapshot.{Snapshot}
use Rattle.archive_state.specs.declared.present.Present.{Present}
use Rattle.archive_state.specs.Standing.{Stands, StandsFor}

-- the value that is remembered
abbrev pub remembered : {A : Type 0} → Remembered A → A
remembered s = s.value

-- what a desk holds: what is kept, the journal, the snapshot that nobody has taken yet, and the payload of the last entry that was made since the archive was founded or opened
pub record Held : Type 0 where
  pub present : Present
  pub journal : Journal
  pub ready : Option Snapshot
  pub made : Option (List ℕ)

-- what is kept stands for some history, the journal is as long as that history's, and the snapshot that nobody has taken yet is that of what is kept
pub record IsDesk (held : Held) : Type 0 where
  pub stands : Stands held.present
  pub counted : held.journal.end ≡ held.present.journal
  pub waits : IfSome held.ready (λ s. s ≡ arc_value held.present.snapshot)

-- the payloads of a history
abbrev pub payloads_of : List Entry → List (List ℕ)
payloads_of history = map payload history

-- each entry has a spelling
abbrev pub AreSpelled : List Entry → Type 0
AreSpelled history = AllByRecursion FitsEntry history

-- the entry can stand behind the history
abbrev pub MayFollow : List Entry → Entry → Type 0
MayFollow history e = (b : Archive) × LeadsTo (history ++ e ∷ []) b

-- the disk stands for the history; where the journal is unsettled, for it or for it and the entry under way
pub record Keeps (images : List ℕ → Type 0) (journal : Journal) (history : List Entry) (under_way : Entry) : Type 0 where
  pub stands : DiskStands images journal (payloads_of history) (payload under_way)
  pub legal : journal.stage ≢ Settled → MayFollow history under_way

-- the disk keeps the history of the desk
pub record IsKept (images : List ℕ → Type 0) (held : Held) : Type 0 where
  pub history : List Entry
  pub archive : Archive
  pub under_way : Entry
  pub stands : StandsFor held.present history archive
  pub keeps : Keeps images held.journal history under_way

-- the bytes that a crash may leave: the history alone, or with the entry under way or a new one, which can stand behind it
pub data IsLeft (Made : Entry → Type 0) (history : List Entry) (under_way : Entry) (b : List ℕ) : Type 0 where
  Closed : Shut (payloads_of history) b → IsLeft Made history under_way b
  Before : MayFollow history under_way → Gated (payloads_of history) (payload under_way) b → IsLeft Made history under_way b
  Making : (e : Entry) → Made e → MayFollow history e → Gated (payloads_of history) (payload e) b → IsLeft Made history under_way b

-- the same of payloads: q is the new one, and p is under way in an unsettled journal
abbrev pub MayLeave : Journal → List (List ℕ) → (p q : List ℕ) → List ℕ → Type 0
MayLeave journal ps p q b = Shut ps b ⊎ (((journal.stage ≢ Settled) × Gated ps p b) ⊎ Gated ps q b)
