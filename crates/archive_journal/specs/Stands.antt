-- When a disk stands for the payloads of a journal.
use Rattle.std.specs.Prelude.{◌≡◌, ◌≢◌, ◌+◌, ℕ, List, length}
use Rattle.archive_journal.specs.declared.journal.Journal.{Journal}
use Rattle.archive_journal.specs.declared.journal.Stage.{Stage}
use Rattle.archive_journal.specs.declared.journal.Stage.TheVariants.{Settled, Staged, Opened}
use Rattle.archive_journal.specs.Records.{front, record_of, Shut, Gated}

-- what a crash may leave in each stage: only where the gate was touched, it may be open
abbrev pub Image : Stage → List (List ℕ) → List ℕ → List ℕ → Type 0
Image Settled ps p b = Shut ps b
Image Staged ps p b = Shut ps b
Image Opened ps p b = Gated ps p b

-- p is the payload of the record under way
abbrev pub IsUnderWay : Journal → List ℕ → Type 0
IsUnderWay j p = j.pending.items ≡ record_of p

-- the images stand for these payloads; where the journal is unsettled, for these or these and the one under way
pub record DiskStands (images : List ℕ → Type 0) (j : Journal) (ps : List (List ℕ)) (p : List ℕ) : Type 0 where
  pub end : j.end ≡ length (front ps) + 1
  pub under_way : j.stage ≢ Settled → IsUnderWay j p
  pub each : (b : List ℕ) → images b → Image j.stage ps p b
