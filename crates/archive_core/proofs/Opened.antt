-- What opening finds, and what a crash may leave meanwhile.
use Rattle.std.proofs.Common.{◌≡◌, ◌≢◌, ℕ, ◌+◌, List, [], ◌∷◌, Option, Some, None, sym, ◌∙◌, subst}
use Rattle.cite_disk.specs.Device.{Quiet, LeavesOnly, Only}
use Rattle.cite_disk.proofs.Moments.{weaken, quiet_then}
use Rattle.archive_journal.specs.declared.journal.Stage.TheVariants.{Settled}
use Rattle.archive_journal.specs.declared.walk.Walk.{Walk}
use Rattle.archive_journal.specs.Laws.{AreSmall}
use Rattle.archive_journal.specs.Records.{Between, Gated, Shut, Stands}
use Rattle.archive_journal.specs.Stands.{DiskStands}
use Rattle.archive_journal.specs.Walks.{IsAt}
use Rattle.archive_journal.proofs.Opening.{opened}
use Rattle.archive_journal.proofs.Places.{at_end, shut_gate}
use Rattle.archive_journal.proofs.Unique.{one_list, shut_stands}
use Rattle.entry_codec.specs.declared.entry.Entry.{Entry}
use Rattle.entry_codec.specs.Payloads.{payload}
use Rattle.archive_model.specs.Archives.{Archive}
use Rattle.archive_model.specs.Histories.{LeadsTo}
use Rattle.archive_state.specs.declared.present.Present.{Present}
use Rattle.archive_state.specs.Following.{Follows}
use Rattle.archive_state.specs.Standing.{StandsFor}
use Rattle.archive_core.specs.Keeping.{Held, IsKept, MayFollow, payloads_of}
use Rattle.archive_core.specs.Opening.{Opens, Resumes, Walked}
use Rattle.archive_core.proofs.EntrySizes.{payloads_are_small, follower_is_small}
use Rattle.archive_core.proofs.Planned.{counted_end}

-- a legal history has an entry
first_entry : (history : List Entry) (a : Archive) → LeadsTo history a → Entry
first_entry [] a leads = absurd leads
first_entry (e ∷ es) a leads = e

module _ (honest : Type 0) (b : List ℕ) (walk : Walk) (kept : Option Present) (p : Present) (w : Walked honest b walk kept) (some : kept ≡ Some p) where
  follows : (a : Archive) × StandsFor p w.history a
  follows = subst (λ (k : Option Present). Follows k w.history) some w.follows

  pub walked_small : AreSmall (payloads_of w.history)
  walked_small = payloads_are_small w.history follows.0 follows.1.leads

  -- what is kept counts the bytes of the journal that was walked
  pub walked_length : walk.at + 1 ≡ p.journal
  walked_length = w.place ∙ sym (counted_end p w.history follows.0 follows.1)

  pub walked_stands : (history : List Entry) × (archive : Archive) × StandsFor p history archive
  walked_stands = (w.history, follows.0, follows.1)

-- behind a walk that was not at its first gate something is kept
pub never_empty : (honest : Type 0) (b : List ℕ) (walk : Walk) (kept : Option Present) → Walked honest b walk kept → walk.gate ≢ 1 → kept ≢ None
never_empty honest b walk kept w shut none = shut (w.first (subst (λ (k : Option Present). Follows k w.history) none w.follows))

-- what was walked is resumed
pub resumes : (honest : Type 0) (old b : List ℕ) (images : List ℕ → Type 0) (walk : Walk) (kept : Option Present) (desk : Held) → (honest → b ≡ old) → Walked honest b walk kept → kept ≡ Some desk.present
    → walk.gate ≢ 1 → desk.journal.stage ≡ Settled → (honest → (ps : List (List ℕ)) (p : List ℕ) → IsAt b ps walk.at walk.gate → DiskStands images desk.journal ps p) → Resumes honest old images desk
resumes honest old b images walk kept desk same w some shut settled stands =
    let found = follows honest b walk kept desk.present w some in
    record {
      history = w.history;
      archive = found.0;
      spelled = w.spelled;
      stands = found.1;
      is = λ holds. subst (λ (l : List ℕ). Stands l (payloads_of w.history)) (same holds) (at_end b (payloads_of w.history) walk.at walk.gate (w.here holds) shut);
      keeps = λ holds d. record { stands = stands holds (payloads_of w.history) (payload d) (w.here holds); legal = λ unsettled. absurd (unsettled settled) };
    }

-- what was resumed is opened, on an honest disk
pub opens : (honest : Type 0) (b : List ℕ) (images : List ℕ → Type 0) (desk : Held) → honest → Resumes honest b images desk → Opens b images desk
opens honest b images desk holds r = record { history = r.history; archive = r.archive; spelled = r.spelled; is = r.is holds; stands = r.stands; keeps = r.keeps holds }

-- and the disk keeps it
pub opened_kept : (b : List ℕ) (images : List ℕ → Type 0) (desk : Held) → Opens b images desk → IsKept images desk
opened_kept b images desk o =
    let e : Entry = first_entry o.history o.archive o.stands.leads in
    record { history = o.history; archive = o.archive; under_way = e; stands = o.stands; keeps = o.keeps e }

module _ {D : Type 0} (seen : D → List ℕ) (images : D → List ℕ → Type 0) (moment : D → ℕ) (left_since : D → ℕ → List ℕ → Type 0) (honest : Type 0) (holds : honest) where
  -- what a quiet walk sees is the only image
  pub only_then : (begun mid : D) → Only (seen begun) (images begun) → Quiet seen images moment left_since begun mid → Only (seen mid) (images mid)
  only_then begun mid durable quiet b image = durable b (quiet.within b image) ∙ sym quiet.same

  -- a quiet walk leaves what a crash might have left before
  pub quiet_leaves : (old new : D) (P : List ℕ → Type 0) → Quiet seen images moment left_since old new → ((b : List ℕ) → images old b → P b) → LeavesOnly moment left_since old new P
  quiet_leaves old new P quiet each = weaken moment left_since old new (images old) P quiet.moments each

  module _ (old begun mid new : D) (walk : Walk) (kept : Option Present) (p : Present) (w : Walked honest (seen mid) walk kept) (some : kept ≡ Some p) (shut : walk.gate ≢ 1)
      (first : Quiet seen images moment left_since old begun) (second : Quiet seen images moment left_since begun mid) (here : images mid (seen mid)) (untouched : walk.gate ≡ 0 → new ≡ mid)
      (history : List Entry) (a : Archive) (leads : LeadsTo history a) where
    small : AreSmall (payloads_of w.history)
    small = walked_small honest (seen mid) walk kept p w some

    walk_quiet : Quiet seen images moment left_since old mid
    walk_quiet = quiet_then seen images moment left_since old begun mid first second

    -- the whole run leaves the history, or it and the entry under way
    pub opening_leaves : (d : Entry) → MayFollow history d → ((b : List ℕ) → images old b → Between (payloads_of history) (payload d) b)
        → (Gated (payloads_of w.history) (payload d) (seen mid) → LeavesOnly moment left_since mid new (Gated (payloads_of w.history) (payload d)))
        → LeavesOnly moment left_since old new (Between (payloads_of history) (payload d))
    opening_leaves d (b, after) each run =
        opened seen images moment left_since old mid new (payloads_of history) (payloads_of w.history) (payload d) walk.at walk.gate walk_quiet here each
        (payloads_are_small history a leads) (follower_is_small history d b after) small (w.here holds) shut untouched run

    -- where no entry was under way, it touches nothing
    pub opening_idle : ((b : List ℕ) → images old b → Shut (payloads_of history) b) → LeavesOnly moment left_since old new (Shut (payloads_of history))
    opening_idle each =
        let closed : Shut (payloads_of history) (seen mid) = each (seen mid) (walk_quiet.within (seen mid) here) in
        let same : payloads_of w.history ≡ payloads_of history = one_list (seen mid) (payloads_of w.history) (payloads_of history) small (payloads_are_small history a leads)
        (at_end (seen mid) (payloads_of w.history) walk.at walk.gate (w.here holds) shut) (shut_stands (seen mid) (payloads_of history) closed) in
        let zero : walk.gate ≡ 0 = shut_gate (seen mid) (payloads_of w.history) walk.at walk.gate (w.here holds) (subst (λ (ps : List (List ℕ)). Shut ps (seen mid)) (sym same) closed) in
        subst (λ (d : D). LeavesOnly moment left_since old d (Shut (payloads_of history))) (sym (untouched zero)) (quiet_leaves old mid (Shut (payloads_of history)) walk_quiet each)
