-- What the code has at hand when it plans a new citation.
use Rattle.std.proofs.Common.{◌≡◌, ◌+◌, ◌-◌, ◌^◌, ℕ, max, min, List, [], ◌∷◌, ◌++◌, Result, length, ap, ◌∙◌, subst}
use Rattle.std.specs.Prelude.{true, Ok, Err, ⊤}
use Rattle.std.specs.Arc.{arc_value}
use Rattle.sha2.specs.Sha256.{sha256}
use Rattle.cite_schema.specs.declared.query.CiteAsk.{CiteAsk}
use Rattle.entry_codec.specs.declared.entry.Entry.{Entry}
use Rattle.entry_codec.specs.declared.entry.Entry.TheVariants as entries
use Rattle.entry_codec.specs.Payloads.{payload, record_length}
use Rattle.entry_codec.specs.Spellable.{FitsEntry}
use Rattle.query_store.specs.declared.citation.Citation.{Citation}
use Rattle.subset_query.specs.declared.form.Normal.{Normal}
use Rattle.archive_model.specs.declared.answers.Cited.{Cited}
use Rattle.archive_model.specs.declared.answers.Refused.{Refused}
use Rattle.archive_model.specs.declared.answers.Refused.TheVariants as refusals
use Rattle.archive_model.specs.Archives.{Archive}
use Rattle.archive_state.specs.declared.plan.Made.{Made}
use Rattle.archive_state.specs.declared.present.Present.{Present}
use Rattle.archive_state.specs.declared.snapshot.Snapshot.{Snapshot}
use Rattle.archive_state.specs.Citations.{Judges, citation_for, PlansMinted, PlansCitation}
use Rattle.archive_state.specs.Standing.{StandsFor}
use Rattle.archive_state.proofs.CiteMinted.{planned, counted, reply_behind, refused_too, plan_whole}

-- what was read of the present state, and the entry that was made of it
pub record IsReady (p : Present) (ask : CiteAsk) (now : ℕ) (bytes : List ℕ) (seen : Snapshot) (issued stamp version : ℕ) (digest : List ℕ) (entry : Entry) : Type 0 where
  pub seen_is : seen ≡ arc_value p.snapshot
  pub issued_is : issued ≡ length seen.store
  pub stamp_is : stamp ≡ max now p.stamp
  pub version_is : version ≡ seen.rows.last
  pub digest_is : digest ≡ sha256 bytes
  pub entry_is : entry ≡ entries.Cite (record { stamp = stamp; number = issued + 1; version = version; result_sha = digest; query = ask.query; meta = ask.meta })

module _ (p : Present) (ask : CiteAsk) (now : ℕ) (bytes : List ℕ) (seen : Snapshot) (issued stamp version : ℕ) (digest : List ℕ) (entry : Entry) (ready : IsReady p ask now bytes seen issued stamp version digest entry) where
  -- what was read is what the state has
  issued_there : issued ≡ length (arc_value p.snapshot).store
  issued_there = ready.issued_is ∙ ap (λ (s : Snapshot). length s.store) ready.seen_is

  version_there : version ≡ (arc_value p.snapshot).rows.last
  version_there = ready.version_is ∙ ap (λ (s : Snapshot). s.rows.last) ready.seen_is

  entry_there : entry ≡ planned p ask now bytes
  entry_there = ready.entry_is ∙ (λ i. entries.Cite (record { stamp = ready.stamp_is i; number = issued_there i + 1; version = version_there i; result_sha = ready.digest_is i; query = ask.query; meta = ask.meta }))

  module _ (journal : ℕ) (journal_is : journal ≡ min (p.journal + record_length entry) (2 ^ 64 - 1)) where
    journal_there : journal ≡ counted p ask now bytes
    journal_there = journal_is ∙ ap (λ e. min (p.journal + record_length e) (2 ^ 64 - 1)) entry_there

    judged_there : (r : Result ⊤ Refused) → Judges entry (issued + 1) journal now r → Judges (planned p ask now bytes) (length (arc_value p.snapshot).store + 1) (counted p ask now bytes) now r
    judged_there r h =
        subst (λ e. Judges e (length (arc_value p.snapshot).store + 1) (counted p ask now bytes) now r) entry_there (
        subst (λ j. Judges entry (length (arc_value p.snapshot).store + 1) j now r) journal_there (
        subst (λ n. Judges entry (n + 1) journal now r) issued_there h))

    module _ (history : List Entry) (a : Archive) (stands : StandsFor p history a) (form : Normal) where
      refusals_there : (r : Refused) → Judges (planned p ask now bytes) (length (arc_value p.snapshot).store + 1) (counted p ask now bytes) now (Err r) → PlansCitation a ask now bytes form history (Err r)
      refusals_there refusals.NoMemory h = tt
      refusals_there r h = refused_too p history a stands ask now bytes form r h

      -- what the entry is refused for, the citation is refused for
      pub ready_refused : (r : Refused) → Judges entry (issued + 1) journal now (Err r) → PlansCitation a ask now bytes form history (Err r)
      ready_refused r h = refusals_there r (judged_there (Err r) h)

      -- where it is refused for nothing, and the rest is made of it, the plan is whole
      pub ready_made : (citation : Citation) (made : Made Cited) → Judges entry (issued + 1) journal now (Ok tt) → citation ≡ citation_for seen ask form stamp digest
          → arc_value made.next.snapshot ≡ record (arc_value p.snapshot) { store = (arc_value p.snapshot).store ++ citation ∷ [] }
          → made.next.used ≡ p.used → made.next.stamp ≡ stamp → made.next.entries ≡ p.entries + 1 → made.next.journal ≡ journal
          → made.reply ≡ record { number = issued + 1; new = true } → made.payload ≡ payload entry → FitsEntry entry → PlansMinted a ask now bytes form history made
      ready_made citation made passes kept seen_is used_is stamp_is entries_are journal_was reply_is payload_is fits =
          plan_whole p history a stands ask now bytes form made (judged_there (Ok tt) passes)
          (seen_is ∙ ap (λ c. record (arc_value p.snapshot) { store = (arc_value p.snapshot).store ++ c ∷ [] }) (kept ∙ (λ i. citation_for (ready.seen_is i) ask form (ready.stamp_is i) (ready.digest_is i))))
          used_is (stamp_is ∙ ready.stamp_is) entries_are (journal_was ∙ journal_there) (reply_is ∙ ap reply_behind issued_there) (payload_is ∙ ap payload entry_there) (subst FitsEntry entry_there fits)
