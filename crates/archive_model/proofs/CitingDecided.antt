-- In every archive to which a history leads, a citation has an outcome.
use Rattle.std.proofs.Common.{◌≡◌, ℕ, ◌+◌, ◌⊎◌, inl, inr, List, length, refl, sym, subst}
use Rattle.std.specs.Prelude.{true, false, option_map}
use Rattle.std.specs.List.{AllByRecursion}
use Rattle.cite_schema.specs.Answers.{Plan, Alike}
use Rattle.cite_schema.specs.Queries.{asked}
use Rattle.cite_schema.specs.Metadata.{meta_fault}
use Rattle.cite_schema.specs.declared.query.CiteAsk.{CiteAsk}
use Rattle.cite_schema.proofs.Answered.{always_gives}
use Rattle.subset_query.specs.Forms.{formed}
use Rattle.subset_query.specs.Checks.{query_fault}
use Rattle.subset_query.specs.FormLaws.{HasForm}
use Rattle.subset_query.proofs.Alikes.{alike_back, alike_on}
use Rattle.subset_query.proofs.Central.{one_form}
use Rattle.subset_query.proofs.Existing.{has_form}
use Rattle.archive_model.specs.declared.answers.Refused.TheVariants as refusals
use Rattle.archive_model.specs.declared.answers.Cited.{Cited}
use Rattle.archive_model.specs.Archives.{Archive, Minted, columns_of}
use Rattle.archive_model.specs.Outcomes.{Outcome, repeats, makes, RefusedOr}
use Rattle.archive_model.specs.Citing.{IsFirst, Fits, Misses, cite_entry, new_citation, IsRepeat, IsMinting, too_large, IsAnswered, CiteStep}
use Rattle.archive_model.specs.ArchiveLaws.{Resolves}
use Rattle.archive_model.specs.OutcomeLaws.{CitationsHaveAnOutcome}
use Rattle.archive_model.proofs.Sound.{Sound, unmapped, last_fits, citations_resolve}
use Rattle.archive_model.proofs.SameForms.{text_same, form_same}
use Rattle.archive_model.proofs.Deciding.{first_or_none, refused_or}

module _ (a : Archive) (sound : Sound a) (ask : CiteAsk) (now : ℕ) where
  -- what the query asks of the present schema
  abbrev plan : Plan
  plan = asked (columns_of a) ask.query

  -- a citation's form is that of the query, or the two do not ask alike
  fits_or_misses : (bytes : List ℕ) → HasForm (columns_of a) ask.query → (m : Minted) → Resolves a.last a.older m → Misses a ask bytes m ⊎ Fits a ask bytes m
  fits_or_misses bytes f m r = by (text_same m.bytes bytes) (form_same m.form f.form)
    where
      by : Dec (m.bytes ≡ bytes) → Dec (m.form ≡ f.form) → Misses a ask bytes m ⊎ Fits a ask bytes m
      by (no h) same = inl (λ fit. h fit.0)
      by (yes p) (no h) = inl (λ fit. h (one_form (columns_of a) m.form f.form r.settled f.settled (alike_on (columns_of a) (formed m.form) plan (formed f.form) fit.1 f.alike)))
      by (yes p) (yes q) = inr (p, subst (λ n. Alike (columns_of a) (formed n) plan) (sym q) (alike_back (columns_of a) plan (formed f.form) f.alike))

  -- so one that fits is found, or the query is minted
  repeat_or_mint : (bytes : List ℕ) → HasForm (columns_of a) ask.query → (o : Outcome Cited) × (IsRepeat a ask bytes o ⊎ IsMinting a ask now bytes o)
  repeat_or_mint bytes f = by (first_or_none (Resolves a.last a.older) (Misses a ask bytes) (Fits a ask bytes) (fits_or_misses bytes f) a.minted sound.citations)
    where
      by : ((n : ℕ) × IsFirst (Misses a ask bytes) (Fits a ask bytes) a.minted n) ⊎ AllByRecursion (Misses a ask bytes) a.minted → (o : Outcome Cited) × (IsRepeat a ask bytes o ⊎ IsMinting a ask now bytes o)
      by (inl (n, first)) = (repeats a (record { number = n + 1; new = false }), inl (record { place = n; first = first; outcome = refl }))
      by (inr none) = (
        makes a (cite_entry a ask now bytes) (record { number = length a.minted + 1; new = true }) (new_citation a ask now bytes f.form),
        inr (record { none = none; form = f.form; settled = f.settled; alike = f.alike; outcome = refl }),
      )

  -- the query gives bytes on the last table, and they decide
  answered : HasForm (columns_of a) ask.query → (o : Outcome Cited) × IsAnswered a ask now o
  answered f =
      let (bytes, gives) = always_gives (columns_of a) plan a.last.table (last_fits a sound) in
      let (o, decided) = refused_or a (too_large bytes) (λ (p : Outcome Cited). IsRepeat a ask bytes p ⊎ IsMinting a ask now bytes p) (λ fine. repeat_or_mint bytes f) in
      (o, record { bytes = bytes; gives = gives; decided = decided })

  cite_outcome : (o : Outcome Cited) × CiteStep a ask now o
  cite_outcome =
      refused_or a (option_map refusals.Query (query_fault (columns_of a) ask.query)) (λ (o : Outcome Cited). RefusedOr a (option_map refusals.BadMeta (meta_fault ask.meta)) o (IsAnswered a ask now o)) (λ fine.
      refused_or a (option_map refusals.BadMeta (meta_fault ask.meta)) (IsAnswered a ask now) (λ told.
      answered (has_form (columns_of a) ask.query sound.heading (unmapped refusals.Query (query_fault (columns_of a) ask.query) fine))))

pub citations_have_an_outcome : CitationsHaveAnOutcome
citations_have_an_outcome history a ask now leads = cite_outcome a (citations_resolve history a leads) ask now
