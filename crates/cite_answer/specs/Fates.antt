-- What becomes of a desk, of its disk and of the clock while a message is answered.
use Rattle.std.specs.Prelude.{◌≡◌, ◌⊎◌, ℕ, Bool, true, false, List, [], ◌∷◌, ◌++◌, Option, Some, None}
use Rattle.std.specs.Arc.{arc_value}
use Rattle.cite_ports.specs.Ports.{Shows}
use Rattle.archive_journal.specs.declared.journal.Stage.TheVariants.{Settled}
use Rattle.entry_codec.specs.declared.entry.Entry.{Entry}
use Rattle.archive_model.specs.Archives.{Archive}
use Rattle.archive_state.specs.Standing.{StandsFor}
use Rattle.cite_disk.specs.Device.{RoseBy}
use Rattle.archive_core.specs.Keeping.{Held, Keeps}
use Rattle.archive_core.specs.Answering.{SameArchive}
use Rattle.cite_http.specs.declared.ask.Ask.{Ask}
use Rattle.cite_http.specs.declared.message.Message.{Message}
use Rattle.cite_http.specs.declared.reply.Reply.{Reply}
use Rattle.cite_answer.specs.Replies.{failed_reply, wanting_reply}
use Rattle.cite_answer.specs.Messages.{Answered, One, asks_when}

-- a desk before and after an answer; with which entry under way its disk kept a history before, and keeps one after; that
-- the disk was not touched; that a fault of it was counted; and the moments that the clock gave before and after
pub record Deed : Type 1 where
  pub old : Held
  pub new : Held
  pub before : List Entry → Entry → Type 0
  pub after : List Entry → Entry → Type 0
  pub untouched : Type 0
  pub rose : Type 0
  pub given_before : Option (List ℕ)
  pub given_after : Option (List ℕ)

-- those of a disk of a type that tells this of each disk
abbrev pub deed_of : {D : Type 0} (honest : Type 0) (images : D → List ℕ → Type 0) (fault_count : D → ℕ) (disk_old disk_new : D) (old new : Held) (given_before given_after : Option (List ℕ)) → Deed
deed_of honest images fault_count disk_old disk_new old new given_before given_after = record {
  old = old;
  new = new;
  before = λ history d. honest × Keeps (images disk_old) old.journal history d;
  after = λ history d. Keeps (images disk_new) new.journal history d;
  untouched = disk_new ≡ disk_old;
  rose = RoseBy (fault_count disk_old) 1 (fault_count disk_new);
  given_before = given_before;
  given_after = given_after;
}

-- the moment is the next one of the clock, where one is asked for; and no other was taken
abbrev pub TakesIf : Bool → (now : ℕ) → Deed → Type 0
TakesIf true now deed = Shows now deed.given_before deed.given_after
TakesIf false now deed = deed.given_after ≡ deed.given_before

abbrev pub Takes : Ask → (now : ℕ) → Deed → Type 0
Takes ask now deed = TakesIf (asks_when ask) now deed

-- none was taken, or the one that is asked for
abbrev pub MayTake : Ask → Deed → Type 0
MayTake ask deed = (deed.given_after ≡ deed.given_before) ⊎ ((now : ℕ) × (asks_when ask ≡ true) × Shows now deed.given_before deed.given_after)

-- what is answered to a message, and what becomes of the desk, which stood for the history and the archive: without an
-- entry all stays as it was; with one it is on the disk, and the desk stands for what it leaves; or the disk failed under
-- the entry, which may be under way; or memory was wanting
pub data Fares (a : Archive) (message : Message) (history : List Entry) (deed : Deed) (reply : Reply) : Type 0 where
  Stays : (now : ℕ) (one : Answered) → Takes message.ask now deed → One a message now one → one.entry ≡ None → reply ≡ one.reply
      → deed.new ≡ deed.old → deed.untouched → Fares a message history deed reply
  Grows : (now : ℕ) (one : Answered) (e : Entry) → Takes message.ask now deed → One a message now one → one.entry ≡ Some e → reply ≡ one.reply
      → StandsFor deed.new.present (history ++ e ∷ []) one.after → deed.new.ready ≡ Some (arc_value deed.new.present.snapshot)
      → deed.new.journal.stage ≡ Settled → ((d : Entry) → deed.before history d → deed.after (history ++ e ∷ []) d) → Fares a message history deed reply
  Fails : (now : ℕ) (one : Answered) (e : Entry) → Takes message.ask now deed → One a message now one → one.entry ≡ Some e → reply ≡ failed_reply message.closing
      → SameArchive deed.old deed.new → ((d : Entry) → deed.before history d → deed.after history d ⊎ deed.after history e) → deed.rose → Fares a message history deed reply
  Wants : MayTake message.ask deed → reply ≡ wanting_reply message.closing → SameArchive deed.old deed.new
      → ((d : Entry) → deed.before history d → deed.after history d) → Fares a message history deed reply
