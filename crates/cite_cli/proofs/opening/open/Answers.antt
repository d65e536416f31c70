use Rattle.std.proofs.Common.{◌≡◌, ap}
use Rattle.std.specs.Prelude.{Err}
use Rattle.archive_core.specs.declared.opening.ResumeFault.{ResumeFault}
use Rattle.archive_core.specs.declared.opening.ResumeFault.TheVariants as faults
use Rattle.cite_cli.specs.declared.ending.Ending.TheVariants as endings
use Rattle.cite_cli.specs.Verify.{UnopenedWrites, VerifyBreaks, IsQuiet}
use Rattle.cite_cli.proofs.Delivering.{due_so}
use Rattle.cite_cli.proofs.Keeping.{disk_of, no_archive_so, spoilt_so}
use Rattle.cite_cli.proofs.opening.open.Goals as goal

no_archive_apart : (e : ResumeFault) → e ≡ faults.NotArchive → e ≡ faults.DiskFailed → ⊥
no_archive_apart e is other = absurd (cc)

damaged_apart : (e : ResumeFault) (at : _) → e ≡ faults.Damaged at → e ≡ faults.DiskFailed → ⊥
damaged_apart e at is other = absurd (cc)

memory_apart : (e : ResumeFault) → e ≡ faults.NoMemory → e ≡ faults.DiskFailed → ⊥
memory_apart e is other = absurd (cc)

pub returns-in-NotArchive-clause-unopened : goal.returns-in-NotArchive-clause-unopened
returns-in-NotArchive-clause-unopened g c =
    let disk = disk_of g.D.Disk c.args.disk.now c.resume.new.disk in
    let quiet = c.in-Err.ensures.quiet (no_archive_apart c.in-Err.fault c.in-NotArchive.is) in
    due_so (UnopenedWrites disk) (VerifyBreaks disk) (IsQuiet disk) endings.NotArchive _ c.no_archive_line.result c.of.result c.of.ensures c.no_archive_line.ensures
    (λ line is. no_archive_so disk line (c.in-Err.ensures.not_archive (ap Err c.in-NotArchive.is)) quiet is)
    quiet

pub returns-in-Damaged-clause-unopened : goal.returns-in-Damaged-clause-unopened
returns-in-Damaged-clause-unopened g c =
    let disk = disk_of g.D.Disk c.args.disk.now c.resume.new.disk in
    let at = c.in-Damaged.at in
    let quiet = c.in-Err.ensures.quiet (damaged_apart c.in-Err.fault at c.in-Damaged.is) in
    due_so (UnopenedWrites disk) (VerifyBreaks disk) (IsQuiet disk) endings.NotArchive _ c.damaged_line.result c.of-in-Damaged.result c.of-in-Damaged.ensures c.damaged_line.ensures
    (λ line is. spoilt_so disk at line (c.in-Err.ensures.damaged at c.in-Damaged.is) quiet is)
    quiet

pub returns-in-NoMemory-clause-unopened : goal.returns-in-NoMemory-clause-unopened
returns-in-NoMemory-clause-unopened g c = c.in-Err.ensures.quiet (memory_apart c.in-Err.fault c.in-NoMemory.is)

pub returns-in-Ok-clause-safe : goal.returns-in-Ok-clause-safe
returns-in-Ok-clause-safe g c = λ honest. record { alone = c.in-Ok.ensures.idle honest; with_one = λ history a e. c.in-Ok.ensures.moments honest history a e }

pub returns-in-NotArchive-clause-safe : goal.returns-in-NotArchive-clause-safe
returns-in-NotArchive-clause-safe g c = λ honest. record { alone = c.in-Err.ensures.idle honest; with_one = λ history a e. c.in-Err.ensures.moments honest history a e }

pub returns-in-Damaged-clause-safe : goal.returns-in-Damaged-clause-safe
returns-in-Damaged-clause-safe g c = λ honest. record { alone = c.in-Err.ensures.idle honest; with_one = λ history a e. c.in-Err.ensures.moments honest history a e }

pub returns-in-DiskFailed-clause-safe : goal.returns-in-DiskFailed-clause-safe
returns-in-DiskFailed-clause-safe g c = λ honest. record { alone = c.in-Err.ensures.idle honest; with_one = λ history a e. c.in-Err.ensures.moments honest history a e }

pub returns-in-NoMemory-clause-safe : goal.returns-in-NoMemory-clause-safe
returns-in-NoMemory-clause-safe g c = λ honest. record { alone = c.in-Err.ensures.idle honest; with_one = λ history a e. c.in-Err.ensures.moments honest history a e }
