-- The number that a citation request is answered with is that of a citation that is kept.
use Rattle.std.proofs.Common.{◌≡◌, ℕ, zero, suc, List, [], ◌∷◌, ◌++◌, Option, Some, None, Result, map, slice_get, refl, sym, ap, ◌∙◌, subst}
use Rattle.std.specs.Prelude.{Ok, Err, IfOk}
use Rattle.std.specs.Arc.{arc_value}
use Rattle.cite_schema.specs.declared.query.CiteAsk.{CiteAsk}
use Rattle.query_store.specs.Citations.{numbered}
use Rattle.query_store.specs.declared.citation.Citation.{Citation}
use Rattle.entry_codec.specs.declared.entry.Entry.{Entry}
use Rattle.archive_model.specs.declared.answers.Refused.{Refused}
use Rattle.archive_model.specs.declared.answers.Refused.TheVariants as refusals
use Rattle.archive_model.specs.declared.answers.Cited.{Cited}
use Rattle.archive_model.specs.Archives.{Archive, Minted}
use Rattle.archive_model.specs.Outcomes.{Outcome}
use Rattle.archive_model.specs.Citing.{CiteStep}
use Rattle.archive_state.specs.declared.snapshot.Snapshot.{Snapshot}
use Rattle.archive_state.specs.Executing.{minted_as}
use Rattle.archive_state.specs.Standing.{kept_of, Shows, StandsFor}
use Rattle.archive_core.specs.Keeping.{Held}
use Rattle.archive_core.specs.Answering.{Answers, Stays, Grows, Fails, Wants}
use Rattle.archive_core.proofs.Outcomes.{cite_keeps, cite_cited}

kept_at : (ms : List Minted) (place : ℕ) (m : Minted) → slice_get ms place ≡ Some m → slice_get (map kept_of ms) place ≡ Some (kept_of m)
kept_at [] place m e = absurd (cc)
kept_at (x ∷ xs) zero m e = let same : x ≡ m = cc in ap (λ (w : Minted). Some (kept_of w)) same
kept_at (x ∷ xs) (suc place) m e = kept_at xs place m e

-- what was minted with a number is kept under it
kept_as : (a : Archive) (store : List Citation) (number : ℕ) (m : Minted) → store ≡ map kept_of a.minted → minted_as a number ≡ Some m → numbered store number ≡ Some (kept_of m)
kept_as a store zero m same e = absurd (cc)
kept_as a store (suc place) m same e = ap (λ (s : List Citation). slice_get s place) same ∙ kept_at a.minted place m e

-- a citation is kept under the number that is answered
abbrev pub IsThere : Snapshot → Result Cited Refused → Type 0
IsThere s reply = IfOk reply (λ cited. (kept : Citation) × (numbered s.store cited.number ≡ Some kept))

there_by : (s : Snapshot) (a : Archive) (o : Outcome Cited) (reply : Result Cited Refused) → Shows s a → ((cited : Cited) → o.reply ≡ Ok cited → (m : Minted) × (minted_as a cited.number ≡ Some m)) → reply ≡ o.reply → IsThere s reply
there_by s a o (Ok cited) shows there e =
    let (m, is) = there cited (sym e) in
    (kept_of m, kept_as a s.store cited.number m shows.parts.same is)
there_by s a o (Err refusal) shows there e = tt

-- so it is wherever the desk answers by the archive
pub cited_there : (a : Archive) (ask : CiteAsk) (now : ℕ) (history : List Entry) (before : Entry → Type 0) (after : List Entry → Entry → Type 0) (untouched : Type 0) (old new : Held) (reply : Result Cited Refused)
    → StandsFor old.present history a → Answers (CiteStep a ask now) history before after untouched old new reply → IsThere (arc_value new.present.snapshot) reply
cited_there a ask now history before after untouched old new reply stands (Stays o s none is same un) =
    there_by (arc_value new.present.snapshot) a o reply (subst (λ (w : Held). Shows (arc_value w.present.snapshot) a) (sym same) stands.agrees.shows)
    (λ cited ok. subst (λ (b : Archive). (m : Minted) × (minted_as b cited.number ≡ Some m)) (cite_keeps a ask now o s none) (cite_cited a ask now o s cited ok)) is
cited_there a ask now history before after untouched old new reply stands (Grows o e s some is stood ready made settled kept) =
    there_by (arc_value new.present.snapshot) o.after o reply stood.agrees.shows (cite_cited a ask now o s) is
cited_there a ask now history before after untouched old new reply stands (Fails o e s some is same kept) =
    subst (IsThere (arc_value new.present.snapshot)) (sym is) tt
cited_there a ask now history before after untouched old new reply stands (Wants is same kept) =
    subst (IsThere (arc_value new.present.snapshot)) (sym is) tt
