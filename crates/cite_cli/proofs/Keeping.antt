-- What a disk keeps behind a founding and behind an opening.
use Rattle.std.proofs.Common.{◌≡◌, ◌∙◌, ℕ, List, [], ◌∷◌, ◌++◌, Some, None, length, ap, sym, subst}
use Rattle.std.specs.Prelude.{Ok, Err, codes}
use Rattle.std.specs.Fmt.{decimal}
use Rattle.std.specs.Arc.{arc_value}
use Rattle.cite_disk.specs.declared.disk.Disk.{Ghosts}
use Rattle.cite_disk.specs.Device.{Quiet}
use Rattle.cite_disk.proofs.Moments.{quiet_none}
use Rattle.archive_journal.specs.declared.journal.Journal.{Journal}
use Rattle.archive_journal.specs.declared.journal.Stage.{Stage}
use Rattle.archive_journal.specs.declared.journal.Stage.TheVariants.{Settled}
use Rattle.archive_journal.specs.Records.{Shut}
use Rattle.archive_journal.specs.Walks.{IsNoArchive}
use Rattle.archive_journal.specs.Stands.{Image}
use Rattle.entry_codec.specs.declared.entry.FoundEntry.{FoundEntry}
use Rattle.entry_codec.specs.declared.entry.Entry.{Entry}
use Rattle.entry_codec.specs.declared.entry.Entry.TheVariants as entries
use Rattle.entry_codec.specs.Payloads.{payload}
use Rattle.archive_model.specs.declared.answers.FoundFault.{FoundFault}
use Rattle.archive_model.specs.declared.answers.FoundFault.TheVariants as faults
use Rattle.archive_model.specs.Archives.{Archive}
use Rattle.archive_model.specs.Histories.{LeadsTo, found_fault}
use Rattle.archive_model.proofs.OneArchive.{leads_once}
use Rattle.archive_state.specs.declared.snapshot.Snapshot.{Snapshot}
use Rattle.archive_state.specs.Standing.{IsSeen, Shows}
use Rattle.archive_core.specs.Keeping.{Held, Keeps, payloads_of}
use Rattle.archive_core.specs.Answering.{Founds}
use Rattle.archive_core.specs.Opening.{Opens, IsSpoilt}
use Rattle.archive_core.proofs.OneHistory.{one_history}
use Rattle.archive_core.proofs.Spoilt.{no_archive_stands_for_none, spoilt_stands_for_none}
use Rattle.cite_cli.specs.declared.refusal.Refusal.{Refusal}
use Rattle.cite_cli.specs.Seen.{OnDisk, on_disk, HoldsHistory}
use Rattle.cite_cli.specs.Init.{IsFounded, founding_rule}
use Rattle.cite_cli.specs.Verify.{IsUnopened, IsResumed, IsOpened, IsVerified, verify_text}
use Rattle.cite_cli.specs.Verify.IsBad.{NoArchive, Spoilt}

-- a disk of a type before a run and after it
abbrev pub disk_of : {D : Type 0} (d : Ghosts D) (old new : D) → OnDisk
disk_of d old new = on_disk d.honest d.seen d.images d.moment d.left_since d.fault_count old new

-- a disk that is as it was was only read
pub quiet_so : {D : Type 0} (d : Ghosts D) (old new : D) → ((b : List ℕ) → d.left_since old (d.moment old) b → d.images old b) → new ≡ old → Quiet d.seen d.images d.moment d.left_since old new
quiet_so {D} d old new only same = subst (λ (x : D). Quiet d.seen d.images d.moment d.left_since old x) (sym same) (quiet_none d.seen d.images d.moment d.left_since old only)

-- an image of a settled journal is that of its history
shut_now : (images : List ℕ → Type 0) (journal : Journal) (history : List Entry) (d : Entry) (b : List ℕ) → Keeps images journal history d → journal.stage ≡ Settled → images b → Shut (payloads_of history) b
shut_now images journal history d b keeps settled here = subst (λ (s : Stage). Image s (payloads_of history) (payload d) b) settled (keeps.stands.each b here)

-- so a disk that keeps a history under a settled journal holds it
holds_so : (disk : OnDisk) (journal : Journal) (history : List Entry) (d : Entry) → (disk.honest → Keeps disk.images journal history d) → journal.stage ≡ Settled → (disk.honest → disk.images disk.after) → HoldsHistory disk history
holds_so disk journal history d keeps settled reads honest =
    (shut_now disk.images journal history d disk.after (keeps honest) settled (reads honest), λ b here. shut_now disk.images journal history d b (keeps honest) settled here)

pub founded_so : (disk : OnDisk) (f : FoundEntry) (desk : Held) → Founds f (Ok desk) → (disk.honest → (d : Entry) → Keeps disk.images desk.journal (entries.Found f ∷ []) d)
    → (disk.honest → length disk.before ≡ 0) → (disk.honest → disk.images disk.after) → IsFounded f disk
founded_so disk f desk founds keeps empty reads = record {
  unbroken = founds.0;
  empty = empty;
  holds = holds_so disk desk.journal (entries.Found f ∷ []) (entries.Found f) (λ honest. keeps honest (entries.Found f)) founds.4 reads;
}

-- a fault that is told as a rule is the first one broken
pub broken_so : (f : FoundEntry) (fault : FoundFault) (refusal : Refusal) → Founds f (Err fault) → founding_rule fault ≡ Some refusal → found_fault f.dataset f.columns f.stamp ≡ Some fault
broken_so f faults.BadPrefix refusal founds rule = founds
broken_so f (faults.BadMeta part) refusal founds rule = founds
broken_so f (faults.Schema fault) refusal founds rule = founds
broken_so f (faults.ClockRange moment) refusal founds rule = founds
broken_so f faults.NoMemory refusal founds rule = absurd (cc)
broken_so f faults.DiskFailed refusal founds rule = absurd (cc)
broken_so f faults.Occupied refusal founds rule = absurd (cc)

-- an entry, where any will do
any_entry : Entry
any_entry = entries.Found (record { stamp = 0; dataset = record { prefix = []; publisher = []; creator = []; title = [] }; columns = [] })

module _ (disk : OnDisk) (desk : Held) (settled : desk.journal.stage ≡ Settled) (reads : disk.honest → disk.images disk.after) where
  pub resumed_so : Opens disk.before disk.images desk → IsResumed disk
  resumed_so o = record {
    history = o.history;
    archive = o.archive;
    leads = o.stands.leads;
    carried = (o.spelled, o.is);
    holds = holds_so disk desk.journal o.history any_entry (λ honest. o.keeps any_entry) settled reads;
  }

  module _ (seen : Snapshot) (text : List ℕ) (same : seen ≡ arc_value desk.present.snapshot) (told : (history : List Entry) (a : Archive) → LeadsTo history a → Shows seen a → text ≡ verify_text a) where
    opened_so : Opens disk.before disk.images desk → IsOpened disk text
    opened_so o =
        let here : text ≡ verify_text o.archive = told o.history o.archive o.stands.leads (subst (λ (s : Snapshot). Shows s o.archive) (sym same) o.stands.agrees.shows) in
        record {
          resumed = resumed_so o;
          every = λ other a leads carried.
              let one : o.history ≡ other = one_history disk.before o.history other o.archive a o.stands.leads leads o.spelled carried.0 o.is carried.1 in
              let led : LeadsTo other o.archive = subst (λ (h : List Entry). LeadsTo h o.archive) one o.stands.leads in
              here ∙ ap verify_text (leads_once other o.archive a led leads);
        }

    pub verified_so : IsSeen seen → (disk.honest → Opens disk.before disk.images desk) → IsVerified disk text
    verified_so is_seen opens = record {
      history = is_seen.history;
      archive = is_seen.archive;
      leads = is_seen.leads;
      text_is = told is_seen.history is_seen.archive is_seen.leads is_seen.shows;
      opened = λ honest. opened_so (opens honest);
    }

-- a disk that doesn't begin as a journal
pub no_archive_so : (disk : OnDisk) (line : List ℕ) → (disk.honest → IsNoArchive disk.before) → (disk.honest → disk.quiet) → line ≡ codes "NotArchive\n" → IsUnopened disk line
no_archive_so disk line because quiet is = record {
  bad = NoArchive because is;
  none = λ honest history a leads carried. no_archive_stands_for_none disk.before history a (because honest) leads carried.1;
  quiet = quiet;
}

-- a disk with a bad record
pub spoilt_so : (disk : OnDisk) (at : ℕ) (line : List ℕ) → (disk.honest → IsSpoilt disk.before at) → (disk.honest → disk.quiet) → line ≡ codes "Damaged " ++ decimal at ++ codes "\n" → IsUnopened disk line
spoilt_so disk at line because quiet is = record {
  bad = Spoilt at because is;
  none = λ honest history a leads carried. spoilt_stands_for_none disk.before at history a (because honest) leads carried.0 carried.1;
  quiet = quiet;
}
