use Rattle.std.proofs.Common.{Ok, sym, ap, ◌∙◌, subst}
use Rattle.std.specs.Prelude.{Result}
use Rattle.cite_disk.specs.Device.{LeavesOnly}
use Rattle.archive_model.specs.declared.answers.Refused.{Refused}
use Rattle.archive_state.specs.declared.plan.Planned.{Planned}
use Rattle.archive_core.specs.Writing.{MayLeaveBy}
use Rattle.archive_core.proofs.desk.Desk.write.Goals as goal

pub returns-in-Ok-New-clause-moments : goal.returns-in-Ok-New-clause-moments
returns-in-Ok-New-clause-moments g c = λ honest ps p stands.
    let d = g.D.Disk in
    subst (λ (r : Result (Planned g.row.R.Denot) Refused). LeavesOnly d.moment d.left_since c.args.disk.now c.add.new.disk (MayLeaveBy r c.args.self.now.journal ps p))
    (sym (c.in-Ok-New.is ∙ ap (λ (x : Planned g.row.R.Denot). Ok x) c.in-Ok-New.field-0-is)) (c.add.ensures.moments honest ps p stands)
