-- A history leads to one archive at most.
use Rattle.std.proofs.Common.{◌≡◌, List, [], ◌∷◌, sym, ap, ◌∙◌, subst}
use Rattle.entry_codec.specs.declared.entry.Entry.{Entry}
use Rattle.entry_codec.specs.declared.entry.Entry.TheVariants.{Found, Batch, Cite, Migrate}
use Rattle.archive_model.specs.Archives.{Archive}
use Rattle.archive_model.specs.Outcomes.{Outcome}
use Rattle.archive_model.specs.Histories.{MakesBy, Makes, Runs, LeadsTo, cite_ask, founded}
use Rattle.archive_model.specs.ArchiveLaws.{HistoriesLeadToOneArchive}
use Rattle.archive_model.proofs.OneOutcome.{cites_once, migrates_once}

-- outcomes that are one leave one archive
left_once : {R : Type 0} (o p : Outcome R) (e : Entry) (b c : Archive) → o ≡ p → MakesBy o e b → MakesBy p e c → b ≡ c
left_once {R} o p e b c same m n = sym m.after_is ∙ ap (λ (w : Outcome R). w.after) same ∙ n.after_is

pub makes_once : (a : Archive) (e : Entry) (b c : Archive) → Makes a e b → Makes a e c → b ≡ c
makes_once a (Found e) b c h k = absurd h
makes_once a (Batch e) b c h k = sym h.1.after_is ∙ k.1.after_is
makes_once a (Cite e) b c (o, s, m) (p, t, n) = left_once o p (Cite e) b c (cites_once a (cite_ask e) e.stamp o p s t) m n
makes_once a (Migrate e) b c (o, s, m) (p, t, n) = left_once o p (Migrate e) b c (migrates_once a e.schema e.steps e.stamp o p s t) m n

runs_once : (a : Archive) (es : List Entry) (b c : Archive) → Runs a es b → Runs a es c → b ≡ c
runs_once a [] b c h k = sym h ∙ k
runs_once a (e ∷ es) b c (x, m, h) (y, n, k) =
    let same : x ≡ y = makes_once a e x y m n in
    runs_once y es b c (subst (λ z. Runs z es b) same h) k

pub leads_once : HistoriesLeadToOneArchive
leads_once [] a b h k = absurd h
leads_once (Found f ∷ es) a b h k = runs_once (founded f) es a b h.1 k.1
leads_once (Batch e ∷ es) a b h k = absurd h
leads_once (Cite e ∷ es) a b h k = absurd h
leads_once (Migrate e ∷ es) a b h k = absurd h
