-- What a call answers, from what was planned and what was written.
use Rattle.std.proofs.Common.{◌≡◌, inl, inr, ⊎_elim, ℕ, List, [], ◌∷◌, ◌++◌, Some, refl, sym, ap, ◌∙◌, subst}
use Rattle.std.specs.Prelude.{Result, Ok, Err}
use Rattle.std.specs.Arc.{arc_value}
use Rattle.archive_journal.specs.declared.journal.Journal.{Journal}
use Rattle.archive_journal.specs.declared.journal.Stage.{Stage}
use Rattle.archive_journal.specs.declared.journal.Stage.TheVariants.{Settled, Staged, Opened}
use Rattle.archive_journal.specs.Records.{Gated}
use Rattle.archive_journal.specs.Stands.{DiskStands, Image}
use Rattle.entry_codec.specs.declared.entry.Entry.{Entry}
use Rattle.entry_codec.specs.Payloads.{payload}
use Rattle.archive_model.specs.declared.answers.Refused.{Refused}
use Rattle.archive_model.specs.declared.answers.Refused.TheVariants as refusals
use Rattle.archive_model.specs.Archives.{Archive}
use Rattle.archive_model.specs.Outcomes.{Outcome, refuses, repeats}
use Rattle.archive_state.specs.declared.plan.Planned.{Planned}
use Rattle.archive_state.specs.declared.plan.Planned.TheVariants.{Repeat, New}
use Rattle.archive_state.specs.declared.present.Present.{Present}
use Rattle.archive_state.specs.Planning.{Plans}
use Rattle.archive_state.specs.Standing.{StandsFor}
use Rattle.archive_core.specs.Keeping.{Held, Keeps, IsKept, IsLeft, Closed, Before, Making, payloads_of}
use Rattle.archive_core.specs.Answering.{Answers, Stays, Grows, Fails, Wants, MadeBy, SameArchive}
use Rattle.archive_core.specs.Writing.{Writes, MayLeaveBy}
use Rattle.archive_core.proofs.Lengths.{payloads_grow}

-- fewer images keep the same history
pub keeps_within : (io is : List ℕ → Type 0) (journal : Journal) (history : List Entry) (d : Entry) → ((b : List ℕ) → is b → io b) → Keeps io journal history d → Keeps is journal history d
keeps_within io is journal history d within keeps = record {
  stands = record { end = keeps.stands.end; under_way = keeps.stands.under_way; each = λ b image. keeps.stands.each b (within b image) };
  legal = keeps.legal;
}

module _ (Made : Entry → Type 0) (io : List ℕ → Type 0) (journal : Journal) (history : List Entry) (d : Entry) (keeps : Keeps io journal history d) where
  image_left_at : (s : Stage) (b : List ℕ) → journal.stage ≡ s → Image s (payloads_of history) (payload d) b → IsLeft Made history d b
  image_left_at Settled b same i = Closed i
  image_left_at Staged b same i = Closed i
  image_left_at Opened b same i = Before (keeps.legal (λ settled. (cc))) i

  -- what a crash may leave before the call
  pub image_left : (b : List ℕ) → Image journal.stage (payloads_of history) (payload d) b → IsLeft Made history d b
  image_left b i = image_left_at journal.stage b refl i

module _ {R : Type 0} (step : Outcome R → Type 0) (history : List Entry) (a : Archive) (honest untouched : Type 0) (io is : List ℕ → Type 0) (old new : Held) where
  abbrev pub Answer : Result R Refused → Type 0
  Answer reply = Answers step history (λ d. honest × Keeps io old.journal history d) (λ h d. Keeps is new.journal h d) untouched old new reply

  module _ (within : untouched → (b : List ℕ) → is b → io b) where
    same_archive : new ≡ old → SameArchive old new
    same_archive same = (ap (λ (h : Held). h.present) same, ap (λ (h : Held). h.ready) same, ap (λ (h : Held). h.made) same)

    -- a call that touches nothing keeps what was kept
    keeps_still : new ≡ old → untouched → (d : Entry) → Keeps io old.journal history d → Keeps is new.journal history d
    keeps_still same quiet d keeps = subst (λ (h : Held). Keeps is h.journal history d) (sym same) (keeps_within io is old.journal history d (within quiet) keeps)

    refused : (refusal : Refused) (told : Result R Refused) → Plans step history a (Err refusal) → (told ≡ Err refusal) × (new ≡ old) × untouched → Answer told
    refused (refusals.NumberUsed version) told holds w = Stays (refuses a (refusals.NumberUsed version)) holds refl w.0 w.1 w.2
    refused (refusals.WrongSchema current) told holds w = Stays (refuses a (refusals.WrongSchema current)) holds refl w.0 w.1 w.2
    refused (refusals.Body fault) told holds w = Stays (refuses a (refusals.Body fault)) holds refl w.0 w.1 w.2
    refused (refusals.Lines fault) told holds w = Stays (refuses a (refusals.Lines fault)) holds refl w.0 w.1 w.2
    refused (refusals.Query fault) told holds w = Stays (refuses a (refusals.Query fault)) holds refl w.0 w.1 w.2
    refused (refusals.BadMeta part) told holds w = Stays (refuses a (refusals.BadMeta part)) holds refl w.0 w.1 w.2
    refused (refusals.Steps fault) told holds w = Stays (refuses a (refusals.Steps fault)) holds refl w.0 w.1 w.2
    refused (refusals.ResultTooLarge bytes) told holds w = Stays (refuses a (refusals.ResultTooLarge bytes)) holds refl w.0 w.1 w.2
    refused (refusals.EntryTooLarge bytes) told holds w = Stays (refuses a (refusals.EntryTooLarge bytes)) holds refl w.0 w.1 w.2
    refused (refusals.Overflow version key) told holds w = Stays (refuses a (refusals.Overflow version key)) holds refl w.0 w.1 w.2
    refused (refusals.Full limit) told holds w = Stays (refuses a (refusals.Full limit)) holds refl w.0 w.1 w.2
    refused (refusals.CitedSubset number) told holds w = Stays (refuses a (refusals.CitedSubset number)) holds refl w.0 w.1 w.2
    refused (refusals.ClockRange moment) told holds w = Stays (refuses a (refusals.ClockRange moment)) holds refl w.0 w.1 w.2
    refused refusals.NoMemory told holds w = Wants w.0 (same_archive w.1) (λ d before. keeps_still w.1 w.2 d before.1)
    refused refusals.DiskFailed told holds w = Stays (refuses a refusals.DiskFailed) holds refl w.0 w.1 w.2

    -- an answer, from what was planned and what was written
    pub answered : (planned : Result (Planned R) Refused) (reply : Result R Refused) → Plans step history a planned → Writes honest untouched io is old new planned reply → Answer reply
    answered (Err refusal) reply plans w = refused refusal reply plans w
    answered (Ok (Repeat told)) reply plans w = Stays (repeats a told) plans refl w.0 w.1 w.2
    answered (Ok (New made)) (Ok told) plans (adds, disk) =
        let kept : StandsFor new.present (history ++ plans.entry ∷ []) plans.outcome.after = subst (λ (p : Present). StandsFor p (history ++ plans.entry ∷ []) plans.outcome.after) (sym adds.1) plans.stands in
        let grown : payloads_of history ++ made.payload ∷ [] ≡ payloads_of (history ++ plans.entry ∷ []) = ap (λ (p : List ℕ). payloads_of history ++ p ∷ []) plans.payload_is ∙ sym (payloads_grow history plans.entry) in
        Grows plans.outcome plans.entry plans.is plans.entry_is (ap (λ (r : R). Ok r) adds.0 ∙ sym plans.reply_is) kept (adds.2 ∙ ap (λ (p : Present). Some (arc_value p.snapshot)) (sym adds.1)) (adds.3 ∙ ap (λ (p : List ℕ). Some p) plans.payload_is) adds.4
        (λ d before. record {
          stands = subst (λ (ps : List (List ℕ)). DiskStands is new.journal ps (payload d)) grown (disk.wrote before.0 (payloads_of history) (payload d) before.1.stands);
          legal = λ unsettled. absurd (unsettled adds.4);
        })
    answered (Ok (New made)) (Err refusal) plans (adds, disk) =
        ⊎_elim
        (λ failed.
        let told : ◌≡◌ {A = Result R Refused} (Err refusal) (Err refusals.DiskFailed) = ap (λ (r : Refused). Err r) failed in
        Fails plans.outcome plans.entry plans.is plans.entry_is told adds.0
        (λ d before.
        ⊎_elim
        (λ same. inl (record { stands = same.0; legal = λ unsettled. before.1.legal (λ settled. unsettled (same.1 ∙ settled)) }))
        (λ stands. inr (record {
          stands = subst (λ (p : List ℕ). DiskStands is new.journal (payloads_of history) p) plans.payload_is stands;
          legal = λ unsettled. (plans.outcome.after, plans.stands.leads);
        }))
        (disk.failed told before.0 (payloads_of history) (payload d) before.1.stands)))
        (λ wanting.
        let told : ◌≡◌ {A = Result R Refused} (Err refusal) (Err refusals.NoMemory) = ap (λ (r : Refused). Err r) wanting in
        Wants told adds.0
        (λ d before. record {
          stands = disk.settled told before.0 (payloads_of history) (payload d) before.1.stands;
          legal = λ unsettled. ⊎_elim (λ same. before.1.legal (λ settled. unsettled (same ∙ settled))) (λ settled. absurd (unsettled settled)) (disk.stage told);
        }))
        adds.1

  -- what a crash may leave, from what was planned
  pub left_by_plan : (planned : Result (Planned R) Refused) (d : Entry) → Plans step history a planned → Keeps io old.journal history d
      → (b : List ℕ) → MayLeaveBy planned old.journal (payloads_of history) (payload d) b → IsLeft (MadeBy step) history d b
  left_by_plan (Err refusal) d plans keeps b i = image_left (MadeBy step) io old.journal history d keeps b i
  left_by_plan (Ok (Repeat told)) d plans keeps b i = image_left (MadeBy step) io old.journal history d keeps b i
  left_by_plan (Ok (New made)) d plans keeps b (inl shut) = Closed shut
  left_by_plan (Ok (New made)) d plans keeps b (inr (inl gated)) = Before (keeps.legal gated.0) gated.1
  left_by_plan (Ok (New made)) d plans keeps b (inr (inr gated)) =
      Making plans.entry (plans.outcome, plans.is, plans.entry_is) (plans.outcome.after, plans.stands.leads) (subst (λ (p : List ℕ). Gated (payloads_of history) p b) plans.payload_is gated)

  -- the disk keeps what the desk stands for afterwards
  pub kept_after : (within : untouched → (b : List ℕ) → is b → io b) (reply : Result R Refused) (d : Entry) → honest → StandsFor old.present history a → Keeps io old.journal history d → Answer reply → IsKept is new
  kept_after within reply d holds stands keeps (Stays o step_is none says same quiet) =
      subst (λ (h : Held). IsKept is h) (sym same)
      (record { history = history; archive = a; under_way = d; stands = stands; keeps = keeps_within io is old.journal history d (within quiet) keeps })
  kept_after within reply d holds stands keeps (Grows o e step_is makes says grown ready made settled after) =
      record { history = history ++ e ∷ []; archive = o.after; under_way = d; stands = grown; keeps = after d (holds, keeps) }
  kept_after within reply d holds stands keeps (Fails o e step_is makes says same after) =
      let here : StandsFor new.present history a = subst (λ (p : Present). StandsFor p history a) (sym same.0) stands in
      ⊎_elim
      (λ kept. record { history = history; archive = a; under_way = d; stands = here; keeps = kept })
      (λ kept. record { history = history; archive = a; under_way = e; stands = here; keeps = kept })
      (after d (holds, keeps))
  kept_after within reply d holds stands keeps (Wants says same after) =
      let here : StandsFor new.present history a = subst (λ (p : Present). StandsFor p history a) (sym same.0) stands in
      record { history = history; archive = a; under_way = d; stands = here; keeps = after d (holds, keeps) }
