use Rattle.std.proofs.Common.{List, ℕ, subst, sym}
use Rattle.archive_journal.specs.Walks.{IsAt, IsWhole}
use Rattle.archive_journal.proofs.tests.log.walk_all.Goals as goal

pub returns-in-Err-clause-damaged : goal.returns-in-Err-clause-damaged
returns-in-Err-clause-damaged g c = λ at e honest first.
    let told = c.in-Err.ensures.damaged at e in
    let same = (c.records.invariant.quiet honest).same in
    let is : IsAt (g.D.Disk.seen c.args.disk.now) c.records.payloads.items c.records.walk.at c.records.walk.gate =
    subst (λ (l : List ℕ). IsAt l c.records.payloads.items c.records.walk.at c.records.walk.gate) same (c.records.invariant.at honest first) in (
      (c.records.payloads.items, subst (λ (k : ℕ). IsAt (g.D.Disk.seen c.args.disk.now) c.records.payloads.items k 1) (sym told.0) (subst (λ (k : ℕ). IsAt (g.D.Disk.seen c.args.disk.now) c.records.payloads.items c.records.walk.at k) told.1 is)),
      λ p w. told.2 honest p (subst (λ (l : List ℕ). IsWhole l at p) (sym same) w),
    )
