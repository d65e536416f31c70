use Rattle.std.proofs.Common.{◌≡◌, inr, ◌∷◌, [], ℕ, List, sym, ◌∙◌, subst, ◌≤◌, length}
use Rattle.cite_disk.proofs.Moments.{quiet_none}
use Rattle.archive_journal.specs.Stands.{DiskStands}
use Rattle.entry_codec.specs.declared.entry.FoundEntry.{FoundEntry}
use Rattle.entry_codec.specs.declared.entry.Entry.TheVariants as entries
use Rattle.entry_codec.specs.Payloads.{payload}
use Rattle.archive_model.specs.declared.answers.FoundFault.TheVariants as faults
use Rattle.archive_model.specs.Histories.{founded}
use Rattle.archive_core.proofs.EntrySizes.{founding_is_small}
use Rattle.archive_core.proofs.Founded.{plan_not_disk, refused_founding}
use Rattle.archive_core.proofs.desk.Desk.found.Goals as goal

pub returns-in-Err-clause-founds : goal.returns-in-Err-clause-founds
returns-in-Err-clause-founds g c = refused_founding (record { stamp = c.args.now; dataset = c.args.dataset.now; columns = c.args.columns }) c.in-Err.fault c.in-Err.ensures

pub returns-in-Err-clause-occupied : goal.returns-in-Err-clause-occupied
returns-in-Err-clause-occupied g c = λ told.
    let is : c.in-Err.fault ≡ faults.Occupied = cc in
    absurd (plan_not_disk (record { stamp = c.args.now; dataset = c.args.dataset.now; columns = c.args.columns }) c.in-Err.fault c.in-Err.ensures (inr is))

pub returns-in-Err-clause-memory : goal.returns-in-Err-clause-memory
returns-in-Err-clause-memory g c = λ told honest.
    let k = g.D.Disk in
    quiet_none k.seen k.images k.moment k.left_since c.args.disk.now (g.met.D.Disk.only_now honest c.args.disk.now)

pub create-requires : goal.create-requires
create-requires g c =
    let f : FoundEntry = record { stamp = c.args.now; dataset = c.args.dataset.now; columns = c.args.columns } in
    record { small = subst (λ (p : List ℕ). length p ≤ 16777216) (sym (c.as_slice.ensures ∙ c.in-Ok.ensures.payload_is)) (founding_is_small f c.in-Ok.ensures.legal) }

pub returns-in-Ok-create-clause-keeps : goal.returns-in-Ok-create-clause-keeps
returns-in-Ok-create-clause-keeps g c = λ honest e.
    let f : FoundEntry = record { stamp = c.args.now; dataset = c.args.dataset.now; columns = c.args.columns } in
    record {
      stands = subst (λ (p : List ℕ). DiskStands (g.D.Disk.images c.create.new.disk) c.in-Ok-create.journal (p ∷ []) (payload e)) (c.as_slice.ensures ∙ c.in-Ok.ensures.payload_is)
          (c.in-Ok-create.ensures.stands honest (payload e));
      legal = λ unsettled. absurd (unsettled c.in-Ok-create.ensures.done.0);
    }

pub returns-in-Ok-create-clause-kept : goal.returns-in-Ok-create-clause-kept
returns-in-Ok-create-clause-kept g c = λ honest.
    let f : FoundEntry = record { stamp = c.args.now; dataset = c.args.dataset.now; columns = c.args.columns } in
    let e = entries.Found f in
    record {
      history = e ∷ [];
      archive = founded f;
      under_way = e;
      stands = c.in-Ok.ensures.stands;
      keeps = returns-in-Ok-create-clause-keeps g c honest e;
    }
