use Rattle.std.proofs.Common.{◌≡◌, ⊎_elim, Err, refl, sym, ap, ◌∙◌}
use Rattle.cite_disk.specs.Device.{Only}
use Rattle.cite_disk.proofs.Moments.{quiet_then}
use Rattle.archive_journal.specs.declared.journal.JournalFault.{JournalFault}
use Rattle.archive_journal.specs.declared.journal.JournalFault.TheVariants as faults
use Rattle.archive_journal.specs.Records.{Between, Shut}
use Rattle.entry_codec.specs.Payloads.{payload}
use Rattle.archive_core.specs.Keeping.{payloads_of}
use Rattle.archive_core.proofs.Opened.{opened_kept, opening_idle, opening_leaves, opens, resumes, only_then, quiet_leaves, walked_length, walked_stands}
use Rattle.archive_core.proofs.desk.Desk.resume.Goals as goal

pub returns-in-NotArchive-clause-not_archive : goal.returns-in-NotArchive-clause-not_archive
returns-in-NotArchive-clause-not_archive g c = λ e honest. c.in-Err.ensures.not_archive (ap (λ (x : JournalFault). Err x) c.in-NotArchive.is) honest

pub returns-in-NotArchive-clause-moments : goal.returns-in-NotArchive-clause-moments
returns-in-NotArchive-clause-moments g c = λ honest history a d leads may each.
    let k = g.D.Disk in
    quiet_leaves k.seen k.images k.moment k.left_since k.honest honest c.args.disk.now c.begin.new.disk (Between (payloads_of history) (payload d)) (c.in-Err.ensures.quiet honest) each

pub returns-in_default : goal.returns-in_default
returns-in_default g c =
    let k = g.D.Disk in
    let is : c.in-Err.fault ≡ faults.DiskFailed =
    ⊎_elim (λ failed. let one : c.in-Err.fault ≡ faults.DiskFailed = cc in one)
    (λ none. let one : c.in-Err.fault ≡ faults.NotArchive = cc in absurd (c.in_default.not-NotArchive one)) c.in-Err.ensures.fault in
    record {
      opens = tt;
      kept = tt;
      resumes = tt;
      ready = tt;
      not_archive = λ e. absurd (cc);
      damaged = λ at e. absurd (cc);
      quiet = λ other. absurd (other refl);
      moments = λ honest history a d leads may each.
          quiet_leaves k.seen k.images k.moment k.left_since k.honest honest c.args.disk.now c.begin.new.disk (Between (payloads_of history) (payload d)) (c.in-Err.ensures.quiet honest) each;
      idle = λ honest history a leads each.
          quiet_leaves k.seen k.images k.moment k.left_since k.honest honest c.args.disk.now c.begin.new.disk (Shut (payloads_of history)) (c.in-Err.ensures.quiet honest) each;
      later = c.in-Err.ensures.later;
      cause = λ e. c.in-Err.ensures.cause (ap (λ (x : JournalFault). Err x) is);
    }

pub returns-in-Err-follow-clause-quiet : goal.returns-in-Err-follow-clause-quiet
returns-in-Err-follow-clause-quiet g c = λ other honest.
    let k = g.D.Disk in
    quiet_then k.seen k.images k.moment k.left_since c.args.disk.now c.begin.new.disk c.follow.new.disk (c.in-Ok.ensures.quiet honest) (c.in-Err-follow.ensures.quiet honest)

pub returns-in-Err-follow-clause-moments : goal.returns-in-Err-follow-clause-moments
returns-in-Err-follow-clause-moments g c = λ honest history a d leads may each.
    let k = g.D.Disk in
    quiet_leaves k.seen k.images k.moment k.left_since k.honest honest c.args.disk.now c.follow.new.disk (Between (payloads_of history) (payload d))
    (quiet_then k.seen k.images k.moment k.left_since c.args.disk.now c.begin.new.disk c.follow.new.disk (c.in-Ok.ensures.quiet honest) (c.in-Err-follow.ensures.quiet honest)) each

pub returns-in-Err-follow-clause-idle : goal.returns-in-Err-follow-clause-idle
returns-in-Err-follow-clause-idle g c = λ honest history a leads each.
    let k = g.D.Disk in
    quiet_leaves k.seen k.images k.moment k.left_since k.honest honest c.args.disk.now c.follow.new.disk (Shut (payloads_of history))
    (quiet_then k.seen k.images k.moment k.left_since c.args.disk.now c.begin.new.disk c.follow.new.disk (c.in-Ok.ensures.quiet honest) (c.in-Err-follow.ensures.quiet honest)) each

pub returns-in_default-try_clone-clause-quiet : goal.returns-in_default-try_clone-clause-quiet
returns-in_default-try_clone-clause-quiet g c = λ other honest.
    let k = g.D.Disk in
    quiet_then k.seen k.images k.moment k.left_since c.args.disk.now c.begin.new.disk c.follow.new.disk (c.in-Ok.ensures.quiet honest) (c.in-Ok-follow.ensures.quiet honest)

pub returns-in_default-try_clone-clause-moments : goal.returns-in_default-try_clone-clause-moments
returns-in_default-try_clone-clause-moments g c = λ honest history a d leads may each.
    let k = g.D.Disk in
    quiet_leaves k.seen k.images k.moment k.left_since k.honest honest c.args.disk.now c.follow.new.disk (Between (payloads_of history) (payload d))
    (quiet_then k.seen k.images k.moment k.left_since c.args.disk.now c.begin.new.disk c.follow.new.disk (c.in-Ok.ensures.quiet honest) (c.in-Ok-follow.ensures.quiet honest)) each

pub returns-in_default-try_clone-clause-idle : goal.returns-in_default-try_clone-clause-idle
returns-in_default-try_clone-clause-idle g c = λ honest history a leads each.
    let k = g.D.Disk in
    quiet_leaves k.seen k.images k.moment k.left_since k.honest honest c.args.disk.now c.follow.new.disk (Shut (payloads_of history))
    (quiet_then k.seen k.images k.moment k.left_since c.args.disk.now c.begin.new.disk c.follow.new.disk (c.in-Ok.ensures.quiet honest) (c.in-Ok-follow.ensures.quiet honest)) each

pub invariant_of-result : goal.invariant_of-result
invariant_of-result g c =
    let k = g.D.Disk in
    let some = sym c.into_present.ensures ∙ c.in-Some.is in
    let found = walked_stands k.honest (k.seen c.follow.new.disk) c.follow.new.walk c.in-Ok-follow.follower c.in-Some.present c.in-Ok-follow.ensures.walked some in
    record {
      stands = record { history = found.0; archive = found.1; stands = found.2 };
      counted = c.in-Ok-finish.ensures.settled.1 ∙ walked_length k.honest (k.seen c.follow.new.disk) c.follow.new.walk c.in-Ok-follow.follower c.in-Some.present c.in-Ok-follow.ensures.walked some;
      waits = c.in-Ok-try_clone.ensures ∙ c.snapshot.ensures;
    }

pub returns-in-Ok-finish-clause-resumes : goal.returns-in-Ok-finish-clause-resumes
returns-in-Ok-finish-clause-resumes g c =
    let k = g.D.Disk in
    let mid = c.follow.new.disk in
    let only : k.honest → Only (k.seen mid) (k.images mid) = λ honest. only_then k.seen k.images k.moment k.left_since k.honest honest c.begin.new.disk mid (c.in-Ok.ensures.durable honest) (c.in-Ok-follow.ensures.quiet honest) in
    resumes k.honest (k.seen c.args.disk.now) (k.seen mid) (k.images c.finish.new.disk) c.follow.new.walk c.in-Ok-follow.follower _ (λ honest. (c.in-Ok-follow.ensures.quiet honest).same ∙ (c.in-Ok.ensures.quiet honest).same) c.in-Ok-follow.ensures.walked
    (sym c.into_present.ensures ∙ c.in-Some.is) c.in-Ok-follow.ensures.end c.in-Ok-finish.ensures.settled.0
    (λ honest ps p is. c.in-Ok-finish.ensures.stands honest ps p (only honest) is)

pub returns-in-Ok-finish-clause-opens : goal.returns-in-Ok-finish-clause-opens
returns-in-Ok-finish-clause-opens g c = λ honest.
    let k = g.D.Disk in
    opens k.honest (k.seen c.args.disk.now) (k.images c.finish.new.disk) _ honest (returns-in-Ok-finish-clause-resumes g c)

pub returns-in-Ok-finish-clause-kept : goal.returns-in-Ok-finish-clause-kept
returns-in-Ok-finish-clause-kept g c = λ honest.
    let k = g.D.Disk in
    opened_kept (k.seen c.args.disk.now) (k.images c.finish.new.disk) _ (returns-in-Ok-finish-clause-opens g c honest)

pub returns-in-Ok-finish-clause-moments : goal.returns-in-Ok-finish-clause-moments
returns-in-Ok-finish-clause-moments g c = λ honest history a d leads may each.
    let k = g.D.Disk in
    let mid = c.follow.new.disk in
    let first = c.in-Ok.ensures.quiet honest in
    let second = c.in-Ok-follow.ensures.quiet honest in
    let walked = c.in-Ok-follow.ensures.walked in
    let only : Only (k.seen mid) (k.images mid) = only_then k.seen k.images k.moment k.left_since k.honest honest c.begin.new.disk mid (c.in-Ok.ensures.durable honest) second in
    opening_leaves k.seen k.images k.moment k.left_since k.honest honest c.args.disk.now c.begin.new.disk mid c.finish.new.disk c.follow.new.walk c.in-Ok-follow.follower c.in-Some.present walked
    (sym c.into_present.ensures ∙ c.in-Some.is) c.in-Ok-follow.ensures.end first second (g.met.D.Disk.reads honest mid) (λ zero. (c.finish.ensures.untouched zero).1) history a leads d may each
    (λ gated. c.finish.ensures.moments honest (payloads_of walked.history) (payload d) only (walked.here honest) gated)

pub returns-in-Ok-finish-clause-idle : goal.returns-in-Ok-finish-clause-idle
returns-in-Ok-finish-clause-idle g c = λ honest history a leads each.
    let k = g.D.Disk in
    let mid = c.follow.new.disk in
    opening_idle k.seen k.images k.moment k.left_since k.honest honest c.args.disk.now c.begin.new.disk mid c.finish.new.disk c.follow.new.walk c.in-Ok-follow.follower c.in-Some.present c.in-Ok-follow.ensures.walked
    (sym c.into_present.ensures ∙ c.in-Some.is) c.in-Ok-follow.ensures.end (c.in-Ok.ensures.quiet honest) (c.in-Ok-follow.ensures.quiet honest) (g.met.D.Disk.reads honest mid)
    (λ zero. (c.finish.ensures.untouched zero).1) history a leads each

pub returns-in-Err-finish-clause-moments : goal.returns-in-Err-finish-clause-moments
returns-in-Err-finish-clause-moments g c = λ honest history a d leads may each.
    let k = g.D.Disk in
    let mid = c.follow.new.disk in
    let first = c.in-Ok.ensures.quiet honest in
    let second = c.in-Ok-follow.ensures.quiet honest in
    let walked = c.in-Ok-follow.ensures.walked in
    let only : Only (k.seen mid) (k.images mid) = only_then k.seen k.images k.moment k.left_since k.honest honest c.begin.new.disk mid (c.in-Ok.ensures.durable honest) second in
    opening_leaves k.seen k.images k.moment k.left_since k.honest honest c.args.disk.now c.begin.new.disk mid c.finish.new.disk c.follow.new.walk c.in-Ok-follow.follower c.in-Some.present walked
    (sym c.into_present.ensures ∙ c.in-Some.is) c.in-Ok-follow.ensures.end first second (g.met.D.Disk.reads honest mid) (λ zero. (c.finish.ensures.untouched zero).1) history a leads d may each
    (λ gated. c.finish.ensures.moments honest (payloads_of walked.history) (payload d) only (walked.here honest) gated)

pub returns-in-Err-finish-clause-idle : goal.returns-in-Err-finish-clause-idle
returns-in-Err-finish-clause-idle g c = λ honest history a leads each.
    let k = g.D.Disk in
    let mid = c.follow.new.disk in
    opening_idle k.seen k.images k.moment k.left_since k.honest honest c.args.disk.now c.begin.new.disk mid c.finish.new.disk c.follow.new.walk c.in-Ok-follow.follower c.in-Some.present c.in-Ok-follow.ensures.walked
    (sym c.into_present.ensures ∙ c.in-Some.is) c.in-Ok-follow.ensures.end (c.in-Ok.ensures.quiet honest) (c.in-Ok-follow.ensures.quiet honest) (g.met.D.Disk.reads honest mid)
    (λ zero. (c.finish.ensures.untouched zero).1) history a leads each
