-- What is known of the outcomes of calls.
use Rattle.std.proofs.Common.{◌≡◌, ℕ, zero, suc, ◌+◌, Bool, true, false, not, ◌⊎◌, inl, inr, List, [], ◌∷◌, ◌++◌, Option, Some, None, Result, length, slice_get, refl, sym, ap, ◌∙◌, subst, arith, add-one}
use Rattle.std.specs.Prelude.{Ok, Err, nat_lt, option_map, if◌then◌else◌}
use Rattle.sha2.specs.Sha256.{sha256}
use Rattle.cite_schema.specs.Metadata.{meta_fault}
use Rattle.cite_schema.specs.Tests.{demand}
use Rattle.cite_schema.proofs.Results.{demanded, unfaulted}
use Rattle.cite_schema.specs.declared.step.Step.{Step}
use Rattle.cite_schema.specs.declared.batch_ask.BatchAsk.{BatchAsk}
use Rattle.cite_schema.specs.declared.query.CiteAsk.{CiteAsk}
use Rattle.subset_query.specs.declared.form.Normal.{Normal}
use Rattle.subset_query.specs.Checks.{query_fault}
use Rattle.batches.specs.Bodies.{is_word}
use Rattle.entry_codec.specs.declared.entry.Entry.{Entry}
use Rattle.entry_codec.specs.Payloads.{payload}
use Rattle.archive_model.specs.declared.answers.Refused.{Refused}
use Rattle.archive_model.specs.declared.answers.Refused.TheVariants as refusals
use Rattle.archive_model.specs.declared.answers.Stored.{Stored}
use Rattle.archive_model.specs.declared.answers.Cited.{Cited}
use Rattle.archive_model.specs.declared.answers.Moved.{Moved}
use Rattle.archive_model.specs.Archives.{Archive, Minted, columns_of, version_count}
use Rattle.archive_model.specs.Limits.{Citations, JournalBytes, clock_end}
use Rattle.archive_model.specs.Outcomes.{Outcome, refuses, repeats, makes, over, RefusedOr}
use Rattle.archive_model.specs.Batching.{batch_of, batch_entry, new_batch, by_number, batch_step}
use Rattle.archive_model.specs.Citing.{IsFirst, Misses, Fits, cite_entry, new_minted, with_citation, new_citation, IsRepeat, IsMinting, too_large, IsAnswered, CiteStep}
use Rattle.archive_state.specs.Executing.{minted_as}
use Rattle.archive_model.specs.Migrating.{migrate_entry, new_migration, NamesHarmed, IsMigrated, AreVerified, MigrateStep}

-- an outcome without an entry leaves the archive as it was
abbrev pub KeepsOld : {R : Type 0} → Archive → Outcome R → Type 0
KeepsOld a o = o.entry ≡ None → o.after ≡ a

makes_keeps : {R : Type 0} (a : Archive) (e : Entry) (reply : R) (r : Result Archive Refused) → KeepsOld a (makes a e reply r)
makes_keeps a e reply (Ok next) none = absurd (cc)
makes_keeps a e reply (Err x) none = refl

refused_keeps : {R : Type 0} (a : Archive) (r : Option Refused) (o : Outcome R) (Rest : Type 0) → (Rest → KeepsOld a o) → RefusedOr a r o Rest → KeepsOld a o
refused_keeps a None o Rest rest h = rest h
refused_keeps {R} a (Some x) o Rest rest h = λ none. ap (λ (w : Outcome R). w.after) h

-- so it is of a batch
pub batch_keeps : (a : Archive) (ask : BatchAsk) (now : ℕ) → KeepsOld a (batch_step a ask now)
batch_keeps a ask now = by_used (batch_of ask.curator ask.number a.last a.older)
  where
    fresh : Outcome Stored
    fresh = makes a (batch_entry a ask now) (record { version = version_count a + 1; new = true }) (new_batch a ask now)

    by_digest : (u : ℕ × List ℕ) (same : Bool) → KeepsOld {R = Stored} a (if same then repeats a (record { version = u.0; new = false }) else refuses a (refusals.NumberUsed u.0))
    by_digest u true none = refl
    by_digest u false none = refl

    by_used : (used : Option (ℕ × List ℕ)) → KeepsOld a (by_number a ask used fresh)
    by_used None = makes_keeps a (batch_entry a ask now) (record { version = version_count a + 1; new = true }) (new_batch a ask now)
    by_used (Some u) = by_digest u (is_word u.1 (sha256 ask.body))

-- and of a citation
decided_keeps : (a : Archive) (ask : CiteAsk) (now : ℕ) (bytes : List ℕ) (o : Outcome Cited) → IsRepeat a ask bytes o ⊎ IsMinting a ask now bytes o → KeepsOld a o
decided_keeps a ask now bytes o (inl r) = λ none. ap (λ (w : Outcome Cited). w.after) r.outcome
decided_keeps a ask now bytes o (inr m) =
    subst (KeepsOld {R = Cited} a) (sym m.outcome) (makes_keeps a (cite_entry a ask now bytes) (record { number = length a.minted + 1; new = true }) (new_citation a ask now bytes m.form))

pub cite_keeps : (a : Archive) (ask : CiteAsk) (now : ℕ) (o : Outcome Cited) → CiteStep a ask now o → KeepsOld a o
cite_keeps a ask now o =
    refused_keeps a (option_map refusals.Query (query_fault (columns_of a) ask.query)) o (RefusedOr a (option_map refusals.BadMeta (meta_fault ask.meta)) o (IsAnswered a ask now o))
    (refused_keeps a (option_map refusals.BadMeta (meta_fault ask.meta)) o (IsAnswered a ask now o)
    (λ h. refused_keeps a (too_large h.bytes) o (IsRepeat a ask h.bytes o ⊎ IsMinting a ask now h.bytes o) (decided_keeps a ask now h.bytes o) h.decided))

-- and of a migration
pub migrate_keeps : (a : Archive) (schema : ℕ) (steps : List Step) (now : ℕ) (o : Outcome Moved) → MigrateStep a schema steps now o → KeepsOld a o
migrate_keeps a schema steps now o = by (new_migration a schema steps now)
  where
    moved : (next : Archive) → NamesHarmed a steps o ⊎ IsMigrated a steps now next o → KeepsOld a o
    moved next (inl h) = λ none. ap (λ (w : Outcome Moved). w.after) h.outcome
    moved next (inr m) =
        subst (KeepsOld {R = Moved} a) (sym m.outcome) (makes_keeps a (migrate_entry a steps now) (record { schema = next.last.schema.number; version = version_count next })
        (demand (nat_lt now clock_end) (refusals.ClockRange now) (Ok (record next { minted = m.minted }))))

    by : (r : Result Archive Refused) → AreVerified a steps now r o → KeepsOld a o
    by (Err x) h = λ none. ap (λ (w : Outcome Moved). w.after) h
    by (Ok next) h = moved next h

-- an outcome with an entry is answered Ok
abbrev pub AnswersOk : {R : Type 0} → Outcome R → Type 0
AnswersOk {R} o = (e : Entry) → o.entry ≡ Some e → (reply : R) × (o.reply ≡ Ok reply)

makes_ok : {R : Type 0} (a : Archive) (e : Entry) (reply : R) (r : Result Archive Refused) → AnswersOk (makes a e reply r)
makes_ok a e reply (Ok next) = λ d some. (reply, refl)
makes_ok a e reply (Err x) = λ d some. absurd (cc)

found_first : (Miss Hit : Minted → Type 0) (ms : List Minted) (place : ℕ) → IsFirst Miss Hit ms place → (m : Minted) × (slice_get ms place ≡ Some m)
found_first Miss Hit [] place h = absurd h
found_first Miss Hit (m ∷ ms) zero h = (m, refl)
found_first Miss Hit (m ∷ ms) (suc place) h = found_first Miss Hit ms place h.1

at_end : (ms : List Minted) (m : Minted) → slice_get (ms ++ m ∷ []) (length ms) ≡ Some m
at_end [] m = refl
at_end (x ∷ xs) m = at_end xs m

-- the number that a citation request is answered with is that of a citation in the archive afterwards
abbrev pub IsCitedIn : Outcome Cited → Type 0
IsCitedIn o = (cited : Cited) → o.reply ≡ Ok cited → (m : Minted) × (minted_as o.after cited.number ≡ Some m)

refused_cited : (a : Archive) (r : Option Refused) (o : Outcome Cited) (Rest : Type 0) → (Rest → IsCitedIn o) → RefusedOr a r o Rest → IsCitedIn o
refused_cited a None o Rest rest h = rest h
refused_cited a (Some x) o Rest rest h = λ cited ok. let c : Err x ≡ Ok cited = sym (ap (λ (w : Outcome Cited). w.reply) h) ∙ ok in absurd (cc)

repeat_cited : (a : Archive) (place : ℕ) (m : Minted) → slice_get a.minted place ≡ Some m → IsCitedIn (repeats a (record { number = place + 1; new = false }))
repeat_cited a place m e cited ok =
    let same : record { number = place + 1; new = false } ≡ cited = cc in
    (m, ap (λ (c : Cited). minted_as a c.number) (sym same) ∙ ap (minted_as a) (add-one place) ∙ e)

minting_cited : (a : Archive) (ask : CiteAsk) (now : ℕ) (bytes : List ℕ) (form : Normal) → IsCitedIn (makes a (cite_entry a ask now bytes) (record { number = length a.minted + 1; new = true }) (new_citation a ask now bytes form))
minting_cited a ask now bytes form = by (new_citation a ask now bytes form) refl
  where
    answer : Cited
    answer = record { number = length a.minted + 1; new = true }

    by : (r : Result Archive Refused) → new_citation a ask now bytes form ≡ r → IsCitedIn (makes a (cite_entry a ask now bytes) answer r)
    by (Err x) e = λ cited ok. absurd (cc)
    by (Ok next) e = λ cited ok.
        let (small, e1) = demanded (not (nat_lt 16777216 (length (payload (cite_entry a ask now bytes))))) _ _ next e in
        let (room, e2) = unfaulted (over (with_citation a ask now bytes form) (Citations ∷ JournalBytes ∷ [])) _ next e1 in
        let (moment, e3) = demanded (nat_lt now clock_end) (refusals.ClockRange now) (Ok (with_citation a ask now bytes form)) next e2 in
        let is : with_citation a ask now bytes form ≡ next = cc in
        let same : answer ≡ cited = cc in
        let newest : Minted = new_minted a ask now bytes form in (
          newest,
          ap (λ (c : Cited). minted_as next c.number) (sym same) ∙ ap (λ (w : Archive). minted_as w (length a.minted + 1)) (sym is)
              ∙ ap (minted_as (with_citation a ask now bytes form)) (add-one (length a.minted)) ∙ at_end a.minted newest,
        )

decided_cited : (a : Archive) (ask : CiteAsk) (now : ℕ) (bytes : List ℕ) (o : Outcome Cited) → IsRepeat a ask bytes o ⊎ IsMinting a ask now bytes o → IsCitedIn o
decided_cited a ask now bytes o (inl r) =
    let (m, there) = found_first (Misses a ask bytes) (Fits a ask bytes) a.minted r.place r.first in
    subst IsCitedIn (sym r.outcome) (repeat_cited a r.place m there)
decided_cited a ask now bytes o (inr m) = subst IsCitedIn (sym m.outcome) (minting_cited a ask now bytes m.form)

pub cite_cited : (a : Archive) (ask : CiteAsk) (now : ℕ) (o : Outcome Cited) → CiteStep a ask now o → IsCitedIn o
cite_cited a ask now o =
    refused_cited a (option_map refusals.Query (query_fault (columns_of a) ask.query)) o (RefusedOr a (option_map refusals.BadMeta (meta_fault ask.meta)) o (IsAnswered a ask now o))
    (refused_cited a (option_map refusals.BadMeta (meta_fault ask.meta)) o (IsAnswered a ask now o)
    (λ h. refused_cited a (too_large h.bytes) o (IsRepeat a ask h.bytes o ⊎ IsMinting a ask now h.bytes o) (decided_cited a ask now h.bytes o) h.decided))
