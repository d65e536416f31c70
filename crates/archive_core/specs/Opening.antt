-- What opening finds on a disk.
use Rattle.std.specs.Prelude.{◌≡◌, ℕ, ◌+◌, List, [], ◌∷◌, Option}
use Rattle.archive_journal.specs.declared.walk.Walk.{Walk}
use Rattle.archive_journal.specs.Records.{Stands}
use Rattle.archive_journal.specs.Walks.{IsAt, IsNoArchive, IsWhole}
use Rattle.entry_codec.specs.declared.entry.Entry.{Entry}
use Rattle.entry_codec.specs.Payloads.{payload}
use Rattle.entry_codec.specs.Spellable.{FitsEntry}
use Rattle.archive_model.specs.Archives.{Archive}
use Rattle.archive_model.specs.Histories.{LeadsTo, journal_length}
use Rattle.archive_state.specs.declared.present.Present.{Present}
use Rattle.archive_state.specs.Standing.{StandsFor}
use Rattle.archive_state.specs.Following.{Follows, NeverBehind}
use Rattle.archive_core.specs.Keeping.{Held, Keeps, AreSpelled, payloads_of}

-- the bytes stand for a legal history of entries with a spelling, the desk stands for it too, and the disk keeps it from now on
pub record Opens (b : List ℕ) (images : List ℕ → Type 0) (desk : Held) : Type 0 where
  pub history : List Entry
  pub archive : Archive
  pub spelled : AreSpelled history
  pub is : Stands b (payloads_of history)
  pub stands : StandsFor desk.present history archive
  pub keeps : (d : Entry) → Keeps images desk.journal history d

-- the desk stands for a legal history of entries with a spelling; of an honest disk, the bytes stand for it too, and the disk keeps it from now on
pub record Resumes (honest : Type 0) (b : List ℕ) (images : List ℕ → Type 0) (desk : Held) : Type 0 where
  pub history : List Entry
  pub archive : Archive
  pub spelled : AreSpelled history
  pub stands : StandsFor desk.present history archive
  pub is : honest → Stands b (payloads_of history)
  pub keeps : honest → (d : Entry) → Keeps images desk.journal history d

-- the entries are none, or a legal history
abbrev pub IsBegun : List Entry → Type 0
IsBegun [] = ◌≡◌ {A = List Entry} [] []
IsBegun (e ∷ es) = (a : Archive) × LeadsTo (e ∷ es) a

-- the bytes begin as the journal of some entries with a spelling, of none or of a legal history, and the record behind them is open, and no whole one of an entry that can stand there
pub record IsSpoilt (b : List ℕ) (at : ℕ) : Type 0 where
  pub history : List Entry
  pub begun : IsBegun history
  pub spelled : AreSpelled history
  pub here : IsAt b (payloads_of history) at 1
  pub broken : (e : Entry) → FitsEntry e → IsWhole b at (payload e) → NeverBehind history e

-- the same bytes don't stand for two legal histories of entries with a spelling
abbrev pub OneHistory : Type 0
OneHistory = (b : List ℕ) (g h : List Entry) (c a : Archive) → LeadsTo g c → LeadsTo h a → AreSpelled g → AreSpelled h
    → Stands b (payloads_of g) → Stands b (payloads_of h) → g ≡ h

-- spoilt bytes stand for no legal history of entries with a spelling
abbrev pub SpoiltStandsForNone : Type 0
SpoiltStandsForNone = (b : List ℕ) (at : ℕ) (history : List Entry) (a : Archive) → IsSpoilt b at → LeadsTo history a → AreSpelled history → Stands b (payloads_of history) → ⊥

-- bytes that don't begin as an archive's journal stand for no legal history
abbrev pub NoArchiveStandsForNone : Type 0
NoArchiveStandsForNone = (b : List ℕ) (history : List Entry) (a : Archive) → IsNoArchive b → LeadsTo history a → Stands b (payloads_of history) → ⊥

-- a walk over the bytes has read just the history that is followed
pub record Walked (honest : Type 0) (b : List ℕ) (walk : Walk) (kept : Option Present) : Type 0 where
  pub history : List Entry
  pub follows : Follows kept history
  pub spelled : AreSpelled history
  pub place : walk.at + 1 ≡ journal_length history
  pub first : history ≡ [] → walk.gate ≡ 1
  pub here : honest → IsAt b (payloads_of history) walk.at walk.gate
