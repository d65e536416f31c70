use Rattle.std.proofs.Common.{List, ℕ, subst, ◌≡◌, sym, ◌∙◌, ap, Err}
use Rattle.archive_journal.specs.Walks.{IsAt, IsWhole}
use Rattle.cite_disk.specs.Device.{Only}
use Rattle.cite_disk.proofs.Moments.{quiet_then}
use Rattle.archive_journal.specs.declared.journal.JournalFault.{JournalFault}
use Rattle.archive_journal.specs.declared.journal.JournalFault.TheVariants.{NotArchive}
use Rattle.archive_journal.proofs.Opening.{opened}
use Rattle.archive_journal.proofs.tests.log.Log.open.Goals as goal

pub returns-in-Err-clause-not_archive : goal.returns-in-Err-clause-not_archive
returns-in-Err-clause-not_archive g c = λ e.
    let same : c.in-Err.fault ≡ NotArchive = cc in
    c.in-Err.ensures.not_archive (ap (λ (x : JournalFault). Err x) same)

pub returns-in-Ok-finish-clause-stands : goal.returns-in-Ok-finish-clause-stands
returns-in-Ok-finish-clause-stands g c = λ honest p.
    let d = g.D.Disk in
    let quiet = c.in-Ok-walk_all.ensures.quiet honest in
    let only : Only (d.seen c.walk_all.new.disk) (d.images c.walk_all.new.disk) = λ b i. c.in-Ok.ensures.durable honest b (quiet.within b i) ∙ sym quiet.same in
    c.in-Ok-finish.ensures.stands honest c.in-Ok-walk_all.payloads.items p only (c.in-Ok-walk_all.ensures.at honest (c.in-Ok.ensures.ok honest))

pub returns-in-Ok-finish-clause-moments : goal.returns-in-Ok-finish-clause-moments
returns-in-Ok-finish-clause-moments g c = λ honest ps p small small_p each.
    let d = g.D.Disk in
    let old = c.args.disk.now in
    let begun = c.begin.new.disk in
    let mid = c.walk_all.new.disk in
    let quiet = c.in-Ok-walk_all.ensures.quiet honest in
    let only : Only (d.seen mid) (d.images mid) = λ b i. c.in-Ok.ensures.durable honest b (quiet.within b i) ∙ sym quiet.same in
    let is = c.in-Ok-walk_all.ensures.at honest (c.in-Ok.ensures.ok honest) in
    opened d.seen d.images d.moment d.left_since old mid c.finish.new.disk ps c.in-Ok-walk_all.payloads.items p c.walk_all.new.walk.at c.walk_all.new.walk.gate
    (quiet_then d.seen d.images d.moment d.left_since old begun mid (c.in-Ok.ensures.quiet honest) quiet) (g.met.D.Disk.reads honest mid) each small small_p c.in-Ok-walk_all.ensures.small is
    c.in-Ok-walk_all.ensures.end (λ zero. (c.in-Ok-finish.ensures.untouched zero).1) (λ gated. c.in-Ok-finish.ensures.moments honest c.in-Ok-walk_all.payloads.items p only is gated)

pub returns-in-Err-finish-clause-moments : goal.returns-in-Err-finish-clause-moments
returns-in-Err-finish-clause-moments g c = λ honest ps p small small_p each.
    let d = g.D.Disk in
    let old = c.args.disk.now in
    let begun = c.begin.new.disk in
    let mid = c.walk_all.new.disk in
    let quiet = c.in-Ok-walk_all.ensures.quiet honest in
    let only : Only (d.seen mid) (d.images mid) = λ b i. c.in-Ok.ensures.durable honest b (quiet.within b i) ∙ sym quiet.same in
    let is = c.in-Ok-walk_all.ensures.at honest (c.in-Ok.ensures.ok honest) in
    opened d.seen d.images d.moment d.left_since old mid c.finish.new.disk ps c.in-Ok-walk_all.payloads.items p c.walk_all.new.walk.at c.walk_all.new.walk.gate
    (quiet_then d.seen d.images d.moment d.left_since old begun mid (c.in-Ok.ensures.quiet honest) quiet) (g.met.D.Disk.reads honest mid) each small small_p c.in-Ok-walk_all.ensures.small is
    c.in-Ok-walk_all.ensures.end (λ zero. (c.in-Err-finish.ensures.untouched zero).1) (λ gated. c.in-Err-finish.ensures.moments honest c.in-Ok-walk_all.payloads.items p only is gated)

pub returns-in-Err-walk_all-clause-damaged : goal.returns-in-Err-walk_all-clause-damaged
returns-in-Err-walk_all-clause-damaged g c = λ at e honest.
    let told = c.in-Err-walk_all.ensures.damaged at e honest (c.in-Ok.ensures.ok honest) in
    let same = (c.in-Ok.ensures.quiet honest).same in
    ((told.0.0, subst (λ (l : List ℕ). IsAt l told.0.0 at 1) same told.0.1), λ p w. told.1 p (subst (λ (l : List ℕ). IsWhole l at p) (sym same) w))
