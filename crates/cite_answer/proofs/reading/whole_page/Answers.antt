use Rattle.std.proofs.Common.{◌≡◌, List, ℕ, sym, ◌∙◌, subst}
use Rattle.archive_model.specs.Archives.{Archive, version_count}
use Rattle.archive_state.specs.Standing.{Shows}
use Rattle.datacite_meta.specs.Stamps.{IsStamp}
use Rattle.landing_page.specs.Pages.{dataset_page_of}
use Rattle.std.specs.Prelude.{length}
use Rattle.cite_answer.proofs.Finding.{ok_into, page_same, seen_updated}
use Rattle.cite_answer.proofs.reading.whole_page.Goals as goal

pub dataset_page-requires : goal.dataset_page-requires
dataset_page-requires c = subst IsStamp (sym c.stamp.ensures) (seen_updated c.args.seen.now c.requires)

pub returns : goal.returns
returns c =
    ok_into (λ text. text ≡ dataset_page_of c.dataset-dataset.result.now c.version.result c.stamp.result c.issued.result)
    (λ text. (a : Archive) → Shows c.args.seen.now a → text ≡ dataset_page_of a.dataset (version_count a) a.last.stamp (length a.minted)) c.dataset_page.result
    (λ text e a shows. e ∙ page_same c.args.seen.now a c.dataset-dataset.result.now c.version.result c.stamp.result c.issued.result c.dataset-dataset.ensures c.version.ensures c.stamp.ensures c.issued.ensures shows)
    c.dataset_page.ensures
