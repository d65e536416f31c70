-- What `session` does.
use Rattle.std.specs.Prelude.{◌≡◌, ◌≤◌, ℕ, List, [], ◌∷◌, codes}
use Rattle.entry_codec.specs.declared.entry.Entry.{Entry}
use Rattle.archive_model.specs.Archives.{Archive}
use Rattle.archive_model.specs.Histories.{LeadsTo}
use Rattle.cite_conversation.specs.Conversations.{Around, IsEnded}
use Rattle.cite_conversation.specs.declared.end.LinkEnd.{LinkEnd}
use Rattle.cite_conversation.specs.declared.end.LinkEnd.TheVariants as ends
use Rattle.cite_cli.specs.declared.ending.Ending.{Ending}
use Rattle.cite_cli.specs.declared.ending.Ending.TheVariants as endings
use Rattle.cite_cli.specs.Seen.{Seen, OnDisk, IsUntaken, IsTimeless, Ends}
use Rattle.cite_cli.specs.Verify.{Carries, UnopenedWrites, VerifyBreaks, IsQuiet}

-- the words are `session`
abbrev pub IsSession : List (List ℕ) → Type 0
IsSession words = words ≡ codes "session" ∷ []

-- how a run ends whose conversation ends so
abbrev pub ending_of : LinkEnd → Ending
ending_of ends.Done = endings.Done
ending_of ends.Broken = endings.Broken
ending_of ends.Cut = endings.Cut
ending_of ends.TooLong = endings.TooLong
ending_of ends.ReadFault = endings.ReadFault
ending_of ends.WriteFault = endings.WriteFault
ending_of ends.NoMemory = endings.NoMemory

-- what is seen of a conversation, for which the disk was opened when it had counted so many faults
abbrev pub around : Seen → OnDisk → (faults : ℕ) → Around
around seen disk faults = record {
  left_before = seen.left_before;
  left_after = seen.left_after;
  reads_before = seen.reads_before;
  reads_after = seen.reads_after;
  written_before = seen.written_before;
  written_after = seen.written_after;
  writes_before = seen.writes_before;
  writes_after = seen.writes_after;
  given_before = seen.given_before;
  given_after = seen.given_after;
  honest = disk.honest;
  images = disk.images;
  faults_before = faults;
  faults_after = disk.faults_after;
}

-- the archive of a legal history was opened, and a conversation went on from it; of an honest disk, the history for which its bytes stood
pub record Converses (seen : Seen) (disk : OnDisk) (end : LinkEnd) : Type 0 where
  pub history : List Entry
  pub archive : Archive
  pub leads : LeadsTo history archive
  pub carried : disk.honest → Carries disk.before history
  pub faults : ℕ
  pub later : disk.faults_before ≤ faults
  pub ended : IsEnded archive history (around seen disk faults) end

-- the disk can't be opened, and nothing was taken or asked for; the line tells why, or the disk failed, or memory was wanting
pub record IsShut (seen : Seen) (disk : OnDisk) (ending : Ending) : Type 0 where
  pub untaken : IsUntaken seen
  pub timeless : IsTimeless seen
  pub ends : Ends (UnopenedWrites disk) (VerifyBreaks disk) (IsQuiet disk) seen ending

-- what `session` did
pub data Sessions (seen : Seen) (disk : OnDisk) (ending : Ending) : Type 0 where
  Unopened : IsShut seen disk ending → Sessions seen disk ending
  Opened : (end : LinkEnd) → ending ≡ ending_of end → Converses seen disk end → Sessions seen disk ending
