-- What a follower keeps behind an entry, from what was planned for it.
use Rattle.std.proofs.Common.{◌≡◌, ◌↔◌, ℕ, List, [], ◌∷◌, ◌++◌, Option, Some, None, refl, sym, ap, ◌∙◌, subst}
use Rattle.std.specs.Prelude.{Bool, true, false, IsTrue, IfOk, Result, Ok, Err}
use Rattle.std.proofs.lemmas.Option.{none-some, same_Some}
use Rattle.entry_codec.specs.Codecs.{one_reading}
use Rattle.entry_codec.specs.Grammar.{entry}
use Rattle.entry_codec.specs.Payloads.{payload}
use Rattle.entry_codec.specs.Spellable.{FitsEntry}
use Rattle.entry_codec.specs.declared.entry.BatchEntry.{BatchEntry}
use Rattle.entry_codec.specs.declared.entry.CiteEntry.{CiteEntry}
use Rattle.entry_codec.specs.declared.entry.FoundEntry.{FoundEntry}
use Rattle.entry_codec.specs.declared.entry.MigrateEntry.{MigrateEntry}
use Rattle.entry_codec.specs.declared.entry.Entry.{Entry}
use Rattle.entry_codec.specs.declared.entry.Entry.TheVariants.{Found, Batch, Cite, Migrate}
use Rattle.archive_model.specs.declared.answers.Cited.{Cited}
use Rattle.archive_model.specs.declared.answers.Moved.{Moved}
use Rattle.archive_model.specs.declared.answers.Refused.{Refused}
use Rattle.archive_model.specs.declared.answers.Refused.TheVariants as refusals
use Rattle.archive_model.specs.declared.answers.Stored.{Stored}
use Rattle.archive_model.specs.Archives.{Archive}
use Rattle.archive_model.specs.Batching.{batch_step}
use Rattle.archive_model.specs.Citing.{CiteStep}
use Rattle.archive_model.specs.Histories.{MayBeAsked, Makes, Runs, LeadsTo, founded, batch_ask, cite_ask}
use Rattle.archive_model.specs.Migrating.{MigrateStep}
use Rattle.archive_model.specs.Outcomes.{Outcome, refuses, repeats}
use Rattle.archive_model.proofs.OneArchive.{makes_once}
use Rattle.archive_model.proofs.OneOutcome.{cites_once, migrates_once}
use Rattle.archive_state.specs.declared.plan.Planned.{Planned}
use Rattle.archive_state.specs.declared.plan.Planned.TheVariants.{Repeat, New}
use Rattle.archive_state.specs.declared.present.Present.{Present}
use Rattle.archive_state.specs.Following.{Follows, IsFollower, NeverBehind, TakesOver, KeepsOf}
use Rattle.archive_state.specs.Planning.{Plans}
use Rattle.archive_state.specs.Standing.{Stands, StandsFor}

-- behind a run to an archive stands what the archive makes
runs_next : (a : Archive) (es : List Entry) (b c : Archive) (e : Entry) → Runs a es b → Runs a (es ++ e ∷ []) c → Makes b e c
runs_next a [] b c e h (next, m, same) = subst (λ (x : Archive). Makes b e x) same (subst (λ (x : Archive). Makes x e next) h m)
runs_next a (d ∷ es) b c e (x, m, h) (y, n, k) =
    let same : y ≡ x = makes_once a d y x n m in
    runs_next x es b c e h (subst (λ (z : Archive). Runs z (es ++ e ∷ []) c) same k)

-- behind a history that leads to an archive stands what the archive makes
pub makes_next : (history : List Entry) (a b : Archive) (e : Entry) → LeadsTo history a → LeadsTo (history ++ e ∷ []) b → Makes a e b
makes_next [] a b e h k = absurd h
makes_next (Found f ∷ es) a b e h k = runs_next (founded f) es a b e h.1 k.1
makes_next (Batch d ∷ es) a b e h k = absurd h
makes_next (Cite d ∷ es) a b e h k = absurd h
makes_next (Migrate d ∷ es) a b e h k = absurd h

-- entries with one payload are one
one_payload : (d e : Entry) → FitsEntry d → FitsEntry e → payload d ≡ payload e → d ≡ e
one_payload d e fd fe same = (one_reading entry d e [] [] fd fe (ap (λ l. l ++ []) same)).0

-- a refusal that is planned, but for want of memory, is an outcome, and nothing is kept of it
refused_so : {R : Type 0} (step : Outcome R → Type 0) (history : List Entry) (a : Archive) (bytes : List ℕ) (kept : Option Present) (refusal : Refused)
    → Plans step history a (Err refusal) → KeepsOf {R = R} (Err refusal) bytes kept → step (refuses a refusal) × (kept ≡ None)
refused_so step history a bytes kept (refusals.NumberUsed version) is h = (is, h)
refused_so step history a bytes kept (refusals.WrongSchema current) is h = (is, h)
refused_so step history a bytes kept (refusals.Body fault) is h = (is, h)
refused_so step history a bytes kept (refusals.Lines fault) is h = (is, h)
refused_so step history a bytes kept (refusals.Query fault) is h = (is, h)
refused_so step history a bytes kept (refusals.BadMeta part) is h = (is, h)
refused_so step history a bytes kept (refusals.Steps fault) is h = (is, h)
refused_so step history a bytes kept (refusals.ResultTooLarge size) is h = (is, h)
refused_so step history a bytes kept (refusals.EntryTooLarge size) is h = (is, h)
refused_so step history a bytes kept (refusals.Overflow version key) is h = (is, h)
refused_so step history a bytes kept (refusals.Full limit) is h = (is, h)
refused_so step history a bytes kept (refusals.CitedSubset number) is h = (is, h)
refused_so step history a bytes kept (refusals.ClockRange moment) is h = (is, h)
refused_so step history a bytes kept refusals.NoMemory is h = absurd h
refused_so step history a bytes kept refusals.DiskFailed is h = (is, h)

-- a step has one outcome at most, and by it alone the archive makes the entry
pub record DecidesEntry {R : Type 0} (step : Outcome R → Type 0) (a : Archive) (e : Entry) : Type 0 where
  pub once : (o p : Outcome R) → step o → step p → o ≡ p
  pub alone : (b : Archive) → Makes a e b → (o : Outcome R) × step o × (o.entry ≡ Some e)

module _ {R : Type 0} (step : Outcome R → Type 0) (history : List Entry) (a : Archive) (e : Entry) (decides : DecidesEntry step a e) (leads : LeadsTo history a) where
  -- where an entry stands behind the history, each outcome of the step makes it
  makes_it : (o : Outcome R) → step o → (b : Archive) → LeadsTo (history ++ e ∷ []) b → o.entry ≡ Some e
  makes_it o is b behind =
      let m = decides.alone b (makes_next history a b e leads behind) in
      ap (λ (x : Outcome R). x.entry) (decides.once o m.0 is m.1) ∙ m.2

  -- so an outcome without an entry leaves it no place
  never : (o : Outcome R) → step o → o.entry ≡ None → NeverBehind history e
  never o is none = λ b behind. none-some e (sym none ∙ makes_it o is b behind)

  module _ (bytes : List ℕ) (fits : FitsEntry e) (same : bytes ≡ payload e) where
    -- what is kept of a plan takes over the entry
    pub kept_over : (planned : Result (Planned R) Refused) (kept : Option Present) → Plans step history a planned → KeepsOf planned bytes kept → TakesOver history e kept
    kept_over (Ok (Repeat reply)) None is h = never (repeats a reply) is refl
    kept_over (Ok (Repeat reply)) (Some p) is h = absurd (cc)
    kept_over (Ok (New made)) None is h = λ b behind.
        let one : is.entry ≡ e = same_Some is.entry e (sym is.entry_is ∙ makes_it is.outcome is.is b behind) in
        h (is.payload_is ∙ ap payload one ∙ sym same)
    kept_over (Ok (New made)) (Some p) is h =
        let one : is.entry ≡ e = one_payload is.entry e is.fits fits (sym is.payload_is ∙ h.0 ∙ same) in
        (is.outcome.after, subst (λ (q : Present). StandsFor q (history ++ e ∷ []) is.outcome.after) (sym h.1) (subst (λ (d : Entry). StandsFor made.next (history ++ d ∷ []) is.outcome.after) one is.stands))
    kept_over (Err refusal) kept is h =
        let so = refused_so step history a bytes kept refusal is h in
        subst (λ (k : Option Present). TakesOver history e k) (sym so.1) (never (refuses a refusal) so.0 refl)

    -- likewise where memory may be wanting
    pub answers_over : {E : Type 0} (planned : Result (Planned R) Refused) (result : Result (Option Present) E)
        → Plans step history a planned → IfOk result (λ next. KeepsOf planned bytes next) → IfOk result (λ next. TakesOver history e next)
    answers_over planned (Ok kept) is h = kept_over planned kept is h
    answers_over planned (Err fault) is h = tt

-- the step of a batch decides its entry
pub batch_decides : (a : Archive) (e : BatchEntry) → DecidesEntry {R = Stored} (λ o. o ≡ batch_step a (batch_ask e) e.stamp) a (Batch e)
batch_decides a e = record { once = λ o p h k. h ∙ sym k; alone = λ b m. (batch_step a (batch_ask e) e.stamp, refl, m.1.entry_is) }

-- that of a citation likewise
pub cite_decides : (a : Archive) (e : CiteEntry) → DecidesEntry {R = Cited} (CiteStep a (cite_ask e) e.stamp) a (Cite e)
cite_decides a e = record { once = λ o p h k. cites_once a (cite_ask e) e.stamp o p h k; alone = λ b m. (m.0, m.1, m.2.entry_is) }

-- and that of a migration
pub migrate_decides : (a : Archive) (e : MigrateEntry) → DecidesEntry {R = Moved} (MigrateStep a e.schema e.steps e.stamp) a (Migrate e)
migrate_decides a e = record { once = λ o p h k. migrates_once a e.schema e.steps e.stamp o p h k; alone = λ b m. (m.0, m.1, m.2.entry_is) }

-- what may not be asked can't stand behind the history
pub never_asked : (history : List Entry) (a : Archive) (e : BatchEntry) (may : Bool) → LeadsTo history a → (IsTrue may ↔ MayBeAsked (batch_ask e)) → may ≡ false → NeverBehind history (Batch e)
never_asked history a e may leads iff unasked = λ b behind. by may (iff.1 (makes_next history a b (Batch e) leads behind).0) unasked
  where
    by : (may : Bool) → may ≡ true → may ≡ false → ⊥
    by true h k = absurd (cc)
    by false h k = absurd (cc)

-- nor can a founding
pub never_founded : (history : List Entry) (a : Archive) (f : FoundEntry) → LeadsTo history a → NeverBehind history (Found f)
never_founded history a f leads = λ b behind. makes_next history a b (Found f) leads behind

-- what takes over an entry from a follower stands for some history
pub stands_over : (old : Option Present) (e : Entry) (p : Present) → IsFollower old → ((history : List Entry) → Follows old history → TakesOver history e (Some p)) → Stands p
stands_over None e p is over = let next = over [] refl in record { history = e ∷ []; archive = next.0; stands = next.1 }
stands_over (Some q) e p is over = let next = over is.history (is.archive, is.stands) in record { history = is.history ++ e ∷ []; archive = next.0; stands = next.1 }
