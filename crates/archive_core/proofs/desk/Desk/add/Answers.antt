use Rattle.std.proofs.Common.{◌≡◌, ◌++◌, ◌∷◌, [], ℕ, List, sym, ap, subst}
use Rattle.cite_disk.proofs.Moments.{started}
use Rattle.archive_journal.specs.declared.journal.Journal.{Journal}
use Rattle.archive_journal.specs.Stands.{DiskStands}
use Rattle.archive_core.specs.Keeping.{Held, MayLeave}
use Rattle.archive_core.proofs.Appending.{image_may}
use Rattle.archive_core.proofs.desk.Desk.add.Goals as goal

pub returns-in_default-clause-moments : goal.returns-in_default-clause-moments
returns-in_default-clause-moments g c = λ honest ps p stands.
    let d = g.D.Disk in
    let journal = c.args.self.now.journal in
    started d.moment d.left_since c.args.disk.now (MayLeave journal ps p c.args.made.payload)
    (λ b left. image_may journal ps p c.args.made.payload b (stands.each b (g.met.D.Disk.only_now honest c.args.disk.now b left)))

pub returns-in-Ok-append-clause-disk : goal.returns-in-Ok-append-clause-disk
returns-in-Ok-append-clause-disk g c =
    let d = g.D.Disk in
    let same : c.self.inside.journal ≡ c.args.self.now.journal = ap (λ (h : Held). h.journal) c.self.view_is in
    record {
      wrote = λ honest ps p stands.
          subst (λ (q : List ℕ). DiskStands (d.images c.append.new.disk) c.append.new.journal (ps ++ q ∷ []) p) c.as_slice.ensures
          (c.in-Ok-append.ensures.disk.wrote honest ps p (subst (λ (j : Journal). DiskStands (d.images c.args.disk.now) j ps p) (sym same) stands));
      failed = λ e. absurd (cc);
      stage = λ e. absurd (cc);
      settled = λ e. absurd (cc);
    }
