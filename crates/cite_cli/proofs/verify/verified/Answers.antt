use Rattle.std.proofs.Common.{◌∙◌, ◌≡◌, sym, subst, inr}
use Rattle.archive_core.proofs.Opened.{opens}
use Rattle.archive_state.specs.Standing.{IsSeen}
use Rattle.cite_cli.specs.declared.ending.Ending.TheVariants as endings
use Rattle.cite_cli.specs.Verify.{VerifyWrites, VerifyBreaks, VerifyLacks}
use Rattle.cite_cli.proofs.Delivering.{due_so, unopened_due}
use Rattle.cite_cli.proofs.Keeping.{disk_of, resumed_so, verified_so}
use Rattle.cite_cli.proofs.verify.verified.Goals as goal

pub returns-in-Ok-clause-due : goal.returns-in-Ok-clause-due
returns-in-Ok-clause-due g c =
    let disk = disk_of g.D.Disk c.args.disk.now c.open.new.disk in
    let reads : disk.honest → disk.images disk.after = λ honest. g.met.D.Disk.reads honest c.open.new.disk in
    due_so (VerifyWrites disk) (VerifyBreaks disk) (VerifyLacks disk) endings.Done _ c.text_of.result c.of.result c.of.ensures c.text_of.ensures
    (λ text told. verified_so disk c.in-Ok.desk c.in-Ok.ensures.settled reads c.deref.result.now text (c.deref.ensures ∙ c.snapshot.ensures.value) told (subst IsSeen (sym c.deref.ensures) c.snapshot.ensures.seen)
    (λ honest. opens disk.honest disk.before disk.images c.in-Ok.desk honest c.in-Ok.ensures.resumes))
    (λ honest. inr (resumed_so disk c.in-Ok.desk c.in-Ok.ensures.settled reads (opens disk.honest disk.before disk.images c.in-Ok.desk honest c.in-Ok.ensures.resumes)))

pub returns-in-Err-clause-due : goal.returns-in-Err-clause-due
returns-in-Err-clause-due g c = unopened_due (disk_of g.D.Disk c.args.disk.now c.open.new.disk) c.in-Err.due c.in-Err.ensures.unopened
