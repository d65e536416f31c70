-- What a run did, by its status.
use Rattle.std.specs.Prelude.{◌≡◌, ◌≤◌, ◌⊎◌, List, ℕ, length}
use Rattle.cite_ports.specs.Ports.{Holds, Rose}
use Rattle.cite_schema.specs.declared.schema.Column.{Column}
use Rattle.cite_schema.specs.declared.dataset.Dataset.{Dataset}
use Rattle.cite_conversation.specs.Streams.{Taken, AllTaken, PutsFront}
use Rattle.cite_cli.specs.Seen.{Seen, OnDisk, IsUntaken, IsSilent, IsTimeless}
use Rattle.cite_cli.specs.Select.{IsSelect, IsFullResult, IsRefusal, IsDue}
use Rattle.cite_cli.specs.Init.{IsInit, Inits}
use Rattle.cite_cli.specs.Verify.{IsVerify, Verifies}
use Rattle.cite_cli.specs.Session.{IsSession, Sessions}
use Rattle.cite_cli.specs.declared.bounds.Bounds.{Bounds}
use Rattle.cite_cli.specs.declared.ending.Ending.{Ending}
use Rattle.cite_cli.specs.declared.ending.Ending.TheVariants.{Done, Usage, ReadFault, WriteFault, DiskFault, NotArchive, Occupied, NoMemory, TooLong, Refused, Cut, Broken}

-- the whole input was taken, and it is short enough
abbrev pub TookAll : List ℕ → Seen → Type 0
TookAll text seen = AllTaken text seen.left_before seen.left_after × (length text ≤ 67108864)

-- what `select` did, by its ending
abbrev pub Selects : List ℕ → Bounds → Seen → Ending → Type 0
Selects column bounds seen Done = (text : List ℕ) × (bytes : List ℕ) × TookAll text seen × IsFullResult column bounds text bytes × Holds bytes seen.written_before seen.written_after
Selects column bounds seen Refused = (text : List ℕ) × (line : List ℕ) × TookAll text seen × IsRefusal column bounds text line × Holds line seen.written_before seen.written_after
Selects column bounds seen ReadFault = (text : List ℕ) × Taken text seen.left_before seen.left_after × (length text ≤ 67108864) × Rose seen.reads_before seen.reads_after × IsSilent seen
Selects column bounds seen WriteFault = (text : List ℕ) × (bytes : List ℕ) × TookAll text seen × IsDue column bounds text bytes
    × Rose seen.writes_before seen.writes_after × PutsFront bytes seen.written_before seen.written_after
Selects column bounds seen TooLong = (text : List ℕ) × Taken text seen.left_before seen.left_after × (length text ≡ 67108865) × IsSilent seen
Selects column bounds seen NoMemory = IsSilent seen
Selects column bounds seen Usage = ⊥
Selects column bounds seen DiskFault = ⊥
Selects column bounds seen NotArchive = ⊥
Selects column bounds seen Occupied = ⊥
Selects column bounds seen Cut = ⊥
Selects column bounds seen Broken = ⊥

-- the status that tells an ending
abbrev pub status_of : Ending → ℕ
status_of Done = 0
status_of Usage = 2
status_of ReadFault = 3
status_of WriteFault = 4
status_of DiskFault = 5
status_of NotArchive = 6
status_of Occupied = 7
status_of NoMemory = 8
status_of TooLong = 9
status_of Refused = 10
status_of Cut = 11
status_of Broken = 12

-- neither the disk nor the clock was asked
pub record IsApart (seen : Seen) (disk : OnDisk) : Type 0 where
  pub timeless : IsTimeless seen
  pub untouched : disk.untouched

-- the words have no form
pub record HaveNoForm (words : List (List ℕ)) : Type 0 where
  pub no_select : (column : List ℕ) (bounds : Bounds) → IsSelect words column bounds → ⊥
  pub no_init : (dataset : Dataset) (columns : List Column) → IsInit words dataset columns → ⊥
  pub no_verify : IsVerify words → ⊥
  pub no_session : IsSession words → ⊥

-- and nothing was taken, written or asked for
pub record IsUsage (words : List (List ℕ)) (seen : Seen) (disk : OnDisk) : Type 0 where
  pub none : HaveNoForm words
  pub untaken : IsUntaken seen
  pub silent : IsSilent seen
  pub apart : IsApart seen disk

-- the words have a form, and the run ended so
pub data IsRun (words : List (List ℕ)) (seen : Seen) (disk : OnDisk) (ending : Ending) : Type 0 where
  BySelect : (column : List ℕ) (bounds : Bounds) → IsSelect words column bounds → IsApart seen disk → Selects column bounds seen ending → IsRun words seen disk ending
  ByInit : (dataset : Dataset) (columns : List Column) → IsInit words dataset columns → Inits dataset columns seen disk ending → IsRun words seen disk ending
  ByVerify : IsVerify words → Verifies seen disk ending → IsRun words seen disk ending
  BySession : IsSession words → Sessions seen disk ending → IsRun words seen disk ending

-- status 2 exactly where the words have no form, and else as the ending says
abbrev pub Answers : List (List ℕ) → Seen → OnDisk → ℕ → Type 0
Answers words seen disk status = ((status ≡ 2) × IsUsage words seen disk) ⊎ ((ending : Ending) × (status ≡ status_of ending) × IsRun words seen disk ending)
