use Rattle.std.proofs.Common.{◌≡◌, ⊎_elim, inl, inr, refl, ap, ◌∙◌, arith, Err}
use Rattle.cite_disk.proofs.Moments.{rose_later}
use Rattle.archive_journal.specs.declared.journal.JournalFault.{JournalFault}
use Rattle.archive_journal.specs.declared.journal.JournalFault.TheVariants as faults
use Rattle.archive_core.proofs.Appending.{settles_and_adds}
use Rattle.archive_core.proofs.writing.append.Goals as goal

pub returns-in-Ok-commit-clause-disk : goal.returns-in-Ok-commit-clause-disk
returns-in-Ok-commit-clause-disk g c = record {
  wrote = λ honest ps p s. c.in-Ok-commit.ensures.stands honest ps p (c.in-Ok.ensures.stands honest ps p s);
  failed = λ e. absurd (cc);
  stage = λ e. absurd (cc);
  settled = λ e. absurd (cc);
}

pub returns-in_default-fault : goal.returns-in_default-fault
returns-in_default-fault g c =
    let d = g.D.Disk in
    let is : c.in-Err.fault ≡ faults.DiskFailed =
    ⊎_elim (λ failed. let one : c.in-Err.fault ≡ faults.DiskFailed = cc in one)
    (λ wanting. let one : c.in-Err.fault ≡ faults.NoMemory = cc in absurd (c.in_default-fault.not-NoMemory one)) c.in-Err.ensures.fault in
    record {
      done = tt;
      end = tt;
      same_end = (c.in-Err.ensures.unsettled (ap (λ (x : JournalFault). Err x) is)).1 ∙ c.in-Ok.ensures.end;
      disk = record {
        wrote = tt;
        failed = λ e honest ps p s. inr (c.in-Err.ensures.failed honest ps p (c.in-Ok.ensures.stands honest ps p s));
        stage = λ e. absurd (cc);
        settled = λ e. absurd (cc);
      };
      moments = λ honest ps p s.
          settles_and_adds d.images d.moment d.left_since (g.met.D.Disk.only_now honest) ps p c.args.payload.now c.args.disk.now c.settle.new.disk c.commit.new.disk c.args.journal.now s
          (λ settled. (c.settle.ensures.idle settled).2) (c.settle.ensures.moments honest ps p s) (c.in-Err.ensures.moments honest ps p (c.in-Ok.ensures.stands honest ps p s));
      fault = inl refl;
      later = omega (arith, c.in-Ok.ensures.later, c.in-Err.ensures.later);
      cause = λ _. rose_later (d.fault_count c.args.disk.now) (d.fault_count c.settle.new.disk) 1 (d.fault_count c.commit.new.disk) c.in-Ok.ensures.later (c.in-Err.ensures.cause (ap (λ (x : JournalFault). Err x) is));
    }
