-- What is kept of citations, and what they resolve to.
use Rattle.std.proofs.Common.{◌≡◌, ◌<◌, ◌≤◌, ℕ, zero, suc, List, [], ◌∷◌, Some, None, length, map, slice_get, refl, sym, ap, ◌∙◌, subst, arith}
use Rattle.std.specs.Prelude.{Ok, Err}
use Rattle.std.specs.List.{AllByRecursion}
use Rattle.std.proofs.lemmas.List.{length-map}
use Rattle.cite_schema.specs.Answers.{Gives}
use Rattle.cite_schema.proofs.Answered.{one_text}
use Rattle.entry_codec.specs.declared.entry.Entry.{Entry}
use Rattle.query_store.specs.declared.citation.Citation.{Citation}
use Rattle.query_store.specs.Citations.{numbered}
use Rattle.subset_query.specs.Forms.{formed}
use Rattle.versioned_rows.specs.Histories.{RowHistory, as_of}
use Rattle.archive_model.specs.Archives.{Archive, Minted, columns_of}
use Rattle.archive_model.specs.Histories.{LeadsTo}
use Rattle.archive_model.specs.ArchiveLaws.{Resolves}
use Rattle.archive_model.specs.AgreeingLaws.{GivesAgain}
use Rattle.archive_model.proofs.Counted.{counts_keep_their_limits}
use Rattle.archive_model.proofs.InStep.{all_there, executing_again}
use Rattle.archive_model.proofs.Sound.{citations_resolve}
use Rattle.archive_state.specs.declared.snapshot.LookFault.TheVariants as looks
use Rattle.archive_state.specs.Executing.{IsOver, Resolved, minted_as}
use Rattle.archive_state.specs.Standing.{AgreeParts, PartsStand, kept_of}
use Rattle.archive_state.proofs.ExecuteGives.{shows_some}

-- what is kept at a place is kept of what was minted there
kept_there : (ms : List Minted) (place : ℕ) (c : Citation) → slice_get (map kept_of ms) place ≡ Some c → (m : Minted) × (slice_get ms place ≡ Some m) × (kept_of m ≡ c)
kept_there [] place c e = absurd (cc)
kept_there (m ∷ ms) zero c e = (m, refl, cc)
kept_there (m ∷ ms) (suc place) c e = kept_there ms place c e

-- where nothing is kept, nothing was minted
kept_nowhere : (ms : List Minted) (place : ℕ) → slice_get (map kept_of ms) place ≡ None → slice_get ms place ≡ None
kept_nowhere [] place e = refl
kept_nowhere (m ∷ ms) zero e = absurd (cc)
kept_nowhere (m ∷ ms) (suc place) e = kept_nowhere ms place e

-- where a citation is kept under a number, it is what is kept of the one that was minted with it
pub minted_there : (a : Archive) (store : List Citation) (number : ℕ) (c : Citation) → store ≡ map kept_of a.minted → numbered store number ≡ Some c
    → (m : Minted) × (minted_as a number ≡ Some m) × (kept_of m ≡ c)
minted_there a store zero c same e = absurd (cc)
minted_there a store (suc place) c same e = kept_there a.minted place c (ap (λ (s : List Citation). slice_get s place) (sym same) ∙ e)

-- where none is, none was minted with it
pub minted_nowhere : (a : Archive) (store : List Citation) (number : ℕ) → store ≡ map kept_of a.minted → numbered store number ≡ None → minted_as a number ≡ None
minted_nowhere a store zero same e = refl
minted_nowhere a store (suc place) same e = kept_nowhere a.minted place (ap (λ (s : List Citation). slice_get s place) (sym same) ∙ e)

-- what holds of each citation holds of the one with a number
pub each_minted : (P : Minted → Type 0) (a : Archive) (number : ℕ) (m : Minted) → AllByRecursion P a.minted → minted_as a number ≡ Some m → P m
each_minted P a zero m h e = absurd (cc)
each_minted P a (suc place) m h e = all_there P a.minted place m h e

-- a citation with a number gives its bytes again
again_as : (history : List Entry) (a : Archive) (rows : RowHistory) (store : List Citation) (number : ℕ) (m : Minted) → LeadsTo history a → AgreeParts rows store a → minted_as a number ≡ Some m → GivesAgain rows m
again_as history a rows store zero m leads agree e = absurd (cc)
again_as history a rows store (suc place) m leads agree e = executing_again history a rows place m leads agree.tables e

-- no citation has more bytes than a result may have
minted_within : (history : List Entry) (a : Archive) → LeadsTo history a → AllByRecursion (λ m. length m.bytes ≤ 67108864) a.minted
minted_within history a leads = (counts_keep_their_limits history a leads).sizes

-- what is known of a citation that is kept
pub record IsKept (rows : RowHistory) (c : Citation) : Type 0 where
  pub first : 1 ≤ c.issue.version
  pub last : c.issue.version ≤ rows.last
  pub items : 0 < length (formed c.normal).items

-- so much is known of each citation that is kept
pub kept_known : (rows : RowHistory) (store : List Citation) (number : ℕ) (c : Citation) → PartsStand rows store → numbered store number ≡ Some c → IsKept rows c
kept_known rows store number c stand e =
    let (m, as', same) = minted_there stand.archive store number c stand.agree.same e in
    let again : GivesAgain rows m = again_as stand.history stand.archive rows store number m stand.leads stand.agree as' in
    let settled = (each_minted (Resolves stand.archive.last stand.archive.older) stand.archive number m (citations_resolve stand.history stand.archive stand.leads).citations as').settled in
    subst (IsKept rows) same (record { first = again.from; last = again.to; items = shows_some (columns_of stand.archive) m.form settled })

-- what a kept citation's form gives on the table of its version is what was minted with it
pub resolved_there : (history : List Entry) (a : Archive) (rows : RowHistory) (store : List Citation) (number : ℕ) (c : Citation) (bytes : List ℕ) → LeadsTo history a → AgreeParts rows store a → numbered store number ≡ Some c
    → Gives (formed c.normal) (as_of rows c.issue.version) bytes → Resolved a number (Ok bytes)
resolved_there history a rows store number c bytes leads agree e gives =
    let (m, as', same) = minted_there a store number c agree.same e in
    let again : GivesAgain rows m = again_as history a rows store number m leads agree as' in
    let now : Gives (formed m.form) (as_of rows m.issue.version) bytes = subst (λ (k : Citation). Gives (formed k.normal) (as_of rows k.issue.version) bytes) (sym same) gives in
    (m, as', one_text (formed m.form) (as_of rows m.issue.version) bytes m.bytes now again.gives)

-- so it is never too large
pub never_over : (rows : RowHistory) (store : List Citation) (number : ℕ) (c : Citation) (size : ℕ) → PartsStand rows store → numbered store number ≡ Some c → IsOver (formed c.normal) (as_of rows c.issue.version) size → ⊥
never_over rows store number c size stand e over =
    let (m, as', same) = resolved_there stand.history stand.archive rows store number c over.bytes stand.leads stand.agree e over.gives in
    let within : length m.bytes ≤ 67108864 = each_minted (λ m. length m.bytes ≤ 67108864) stand.archive number m (minted_within stand.history stand.archive stand.leads) as' in
    let sizes : length over.bytes ≡ length m.bytes = ap length same in
    absurd (omega (arith, within, sizes, over.size_is, over.over))

-- where no citation is kept under a number, none was minted with it, and as many were minted as are kept
pub resolved_nowhere : (a : Archive) (rows : RowHistory) (store : List Citation) (number issued : ℕ) → AgreeParts rows store a → numbered store number ≡ None → issued ≡ length store → Resolved a number (Err (looks.NotIssued issued))
resolved_nowhere a rows store number issued agree e is =
    (minted_nowhere a store number agree.same e, is ∙ ap length agree.same ∙ length-map a.minted kept_of)
