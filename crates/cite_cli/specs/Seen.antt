-- What a run had before it and has after it, and how a command ends that has something to write.
use Rattle.std.specs.Prelude.{◌≡◌, ℕ, List, Option}
use Rattle.cite_ports.specs.Ports.{Holds, Rose}
use Rattle.cite_disk.specs.Device.{LeavesOnly, Quiet}
use Rattle.archive_journal.specs.Records.{Shut}
use Rattle.entry_codec.specs.declared.entry.Entry.{Entry}
use Rattle.archive_core.specs.Keeping.{payloads_of}
use Rattle.cite_conversation.specs.Streams.{PutsFront}
use Rattle.cite_cli.specs.declared.ending.Ending.{Ending}
use Rattle.cite_cli.specs.declared.ending.Ending.TheVariants as endings

-- the source, the sink and the clock before a run and after it: their content where they tell it, and the counts of faults
pub record Seen : Type 0 where
  pub left_before : Option (List ℕ)
  pub left_after : Option (List ℕ)
  pub reads_before : ℕ
  pub reads_after : ℕ
  pub written_before : Option (List ℕ)
  pub written_after : Option (List ℕ)
  pub writes_before : ℕ
  pub writes_after : ℕ
  pub given_before : Option (List ℕ)
  pub given_after : Option (List ℕ)

-- the disk: whether it tells what it does, what a read gives before a run and after it, what a crash may leave before it and after it, the
-- counts of faults, that it is as it was, that it was only read, and that a crash at each moment of the run leaves only files of a kind
pub record OnDisk : Type 1 where
  pub honest : Type 0
  pub before : List ℕ
  pub after : List ℕ
  pub images_before : List ℕ → Type 0
  pub images : List ℕ → Type 0
  pub faults_before : ℕ
  pub faults_after : ℕ
  pub untouched : Type 0
  pub quiet : Type 0
  pub leaves_only : (List ℕ → Type 0) → Type 0

-- a disk of a type that tells this of each disk, before a run and after it
abbrev pub on_disk : {D : Type 0} (honest : Type 0) (seen : D → List ℕ) (images : D → List ℕ → Type 0) (moment : D → ℕ) (left_since : D → ℕ → List ℕ → Type 0) (fault_count : D → ℕ) (old new : D) → OnDisk
on_disk told seen images moment left_since fault_count old new = record {
  honest = told;
  before = seen old;
  after = seen new;
  images_before = images old;
  images = images new;
  faults_before = fault_count old;
  faults_after = fault_count new;
  untouched = new ≡ old;
  quiet = Quiet seen images moment left_since old new;
  leaves_only = LeavesOnly moment left_since old new;
}

-- nothing was taken
pub record IsUntaken (seen : Seen) : Type 0 where
  pub left : seen.left_after ≡ seen.left_before
  pub reads : seen.reads_after ≡ seen.reads_before

-- nothing was written
abbrev pub IsSilent : Seen → Type 0
IsSilent seen = seen.written_after ≡ seen.written_before

-- no moment was asked for
abbrev pub IsTimeless : Seen → Type 0
IsTimeless seen = seen.given_after ≡ seen.given_before

-- what the disk holds now, and each file that a crash now may leave, is the journal of the history
abbrev pub HoldsHistory : OnDisk → List Entry → Type 0
HoldsHistory disk history = disk.honest → Shut (payloads_of history) disk.after × ((b : List ℕ) → disk.images b → Shut (payloads_of history) b)

-- how a command ends that has something to write: all of it is written; or the sink failed, and a front of it is; or the disk failed, or memory was wanting, and nothing is
pub data Ends (Writes : Ending → List ℕ → Type 0) (Breaks Lacks : Type 0) (seen : Seen) (ending : Ending) : Type 0 where
  Whole : (bytes : List ℕ) → Writes ending bytes → Holds bytes seen.written_before seen.written_after → Ends Writes Breaks Lacks seen ending
  Cut : (due : Ending) (bytes : List ℕ) → Writes due bytes → ending ≡ endings.WriteFault
      → Rose seen.writes_before seen.writes_after → PutsFront bytes seen.written_before seen.written_after → Ends Writes Breaks Lacks seen ending
  Fails : ending ≡ endings.DiskFault → Breaks → IsSilent seen → Ends Writes Breaks Lacks seen ending
  Wants : ending ≡ endings.NoMemory → Lacks → IsSilent seen → Ends Writes Breaks Lacks seen ending
