-- Before any migration each two citations differ.
use Rattle.std.proofs.Common.{◌≡◌, List, [], ◌∷◌, ◌++◌, sym, ap, ◌∙◌, subst}
use Rattle.std.specs.List.{AllByRecursion}
use Rattle.cite_schema.specs.Answers.{Alike}
use Rattle.cite_schema.specs.Queries.{asked}
use Rattle.cite_schema.specs.declared.schema.Column.{Column}
use Rattle.cite_schema.specs.declared.query.CiteAsk.{CiteAsk}
use Rattle.subset_query.specs.Forms.{formed}
use Rattle.subset_query.proofs.Alikes.{alike_back, alike_on}
use Rattle.entry_codec.specs.declared.entry.Entry.{Entry}
use Rattle.entry_codec.specs.declared.entry.Entry.TheVariants.{Found, Batch, Cite, Migrate}
use Rattle.archive_model.specs.Archives.{Archive, Minted, columns_of}
use Rattle.archive_model.specs.Citing.{Misses, new_minted}
use Rattle.archive_model.specs.Histories.{Makes, Runs, LeadsTo, founded, batch_ask, cite_ask}
use Rattle.archive_model.specs.ArchiveLaws.{Differ, AllDiffer, IsNoMigration, CitationsDifferBeforeMigrations}
use Rattle.archive_model.proofs.Lists.{all_push, all_turned}
use Rattle.archive_model.proofs.Made.{batched, cited}

differ_push : (columns : List Column) (ms : List Minted) (k : Minted) → AllDiffer columns ms → AllByRecursion (λ m. Differ columns m k) ms → AllDiffer columns (ms ++ k ∷ [])
differ_push columns [] k h new = (tt, tt)
differ_push columns (m ∷ ms) k h new = (all_push (Differ columns m) ms k h.0 new.0, differ_push columns ms k h.1 new.1)

-- the archive's citations differ
abbrev Apart : Archive → Type 0
Apart a = AllDiffer (columns_of a) a.minted

makes_apart : (a : Archive) (e : Entry) (b : Archive) → IsNoMigration e → Apart a → Makes a e b → Apart b
makes_apart a (Found e) b none h k = absurd k
makes_apart a (Batch e) b none h k = subst Apart (batched a (batch_ask e) e.stamp (Batch e) b k.1).is h
makes_apart a (Migrate e) b none h k = absurd none
makes_apart a (Cite e) b none h (o, s, k) =
    let m = cited a (cite_ask e) e.stamp o (Cite e) b s k in
    let query = asked (columns_of a) e.query in
    subst Apart m.is (differ_push (columns_of a) a.minted (new_minted a (cite_ask e) e.stamp m.answered.bytes m.minting.form) h
    (all_turned (Misses a (cite_ask e) m.answered.bytes) (λ n. Differ (columns_of a) n (new_minted a (cite_ask e) e.stamp m.answered.bytes m.minting.form))
    (λ n miss (bytes, alike). miss (bytes, alike_on (columns_of a) (formed n.form) (formed m.minting.form) query alike (alike_back (columns_of a) query (formed m.minting.form) m.minting.alike)))
    a.minted m.minting.none))

runs_apart : (a : Archive) (es : List Entry) (b : Archive) → AllByRecursion IsNoMigration es → Apart a → Runs a es b → Apart b
runs_apart a [] b none h k = subst Apart k h
runs_apart a (e ∷ es) b none h (next, m, k) = runs_apart next es b none.1 (makes_apart a e next none.0 h m) k

pub differ_before : CitationsDifferBeforeMigrations
differ_before [] a none h = absurd h
differ_before (Found f ∷ es) a none h = runs_apart (founded f) es a none.1 tt h.1
differ_before (Batch e ∷ es) a none h = absurd h
differ_before (Cite e ∷ es) a none h = absurd h
differ_before (Migrate e ∷ es) a none h = absurd h
