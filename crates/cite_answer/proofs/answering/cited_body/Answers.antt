use Rattle.std.proofs.Common.{◌≡◌, ℕ, ◌<◌, ◌^◌, List, Some, sym, ap, ◌∙◌, subst, arith}
use Rattle.cite_schema.specs.declared.dataset.Dataset.{Dataset}
use Rattle.identifiers.specs.Names.{name_of}
use Rattle.identifiers.specs.declared.named.Named.TheVariants.{Subset}
use Rattle.query_store.specs.declared.citation.Citation.{Citation}
use Rattle.archive_model.specs.Archives.{Archive, Minted}
use Rattle.archive_state.specs.Executing.{minted_as}
use Rattle.archive_state.specs.Standing.{Shows}
use Rattle.archive_state.proofs.ResolveMinted.{minted_there}
use Rattle.datacite_meta.specs.Metadata.{IsDescribed, citation_text}
use Rattle.datacite_meta.proofs.TextLaws.{subset_is_utf8}
use Rattle.cite_answer.specs.Bodies.{cited_json}
use Rattle.cite_answer.proofs.Finding.{ok_into, kept_issued, kept_version, seen_described}
use Rattle.cite_answer.proofs.Texts.{citation_is_utf8, year_is_small}
use Rattle.cite_answer.proofs.answering.cited_body.Goals as goal

pub citation_text-requires-clause-number : goal.citation_text-requires-clause-number
citation_text-requires-clause-number c = (kept_issued c.args.seen.now c.args.cited.number c.in-Ok.citation.now c.requires.seen c.in-Ok.ensures.found).0.number

pub citation_text-requires-clause-cited : goal.citation_text-requires-clause-cited
citation_text-requires-clause-cited c = (kept_issued c.args.seen.now c.args.cited.number c.in-Ok.citation.now c.requires.seen c.in-Ok.ensures.found).0.cited

pub cited_json-requires-clause-id : goal.cited_json-requires-clause-id
cited_json-requires-clause-id c =
    let described = subst IsDescribed (sym c.dataset-dataset.ensures) (seen_described c.args.seen.now c.requires.seen) in
    let name : c.as_slice-2.result.now ≡ name_of c.dataset-dataset.result.now.prefix (Subset c.args.cited.number) = cc (c.as_slice-2.ensures, c.in_ok-id.ensures, c.as_slice.ensures) in
    let small : c.args.cited.number < 2 ^ 32 = omega arith in
    rw name (subset_is_utf8 c.dataset-dataset.result.now.prefix c.args.cited.number described.prefix small)

pub cited_json-requires-clause-text : goal.cited_json-requires-clause-text
cited_json-requires-clause-text c =
    let issue = c.in-Ok.citation.now.issue in
    let described = subst IsDescribed (sym c.dataset-dataset.ensures) (seen_described c.args.seen.now c.requires.seen) in
    let issued = kept_issued c.args.seen.now c.args.cited.number c.in-Ok.citation.now c.requires.seen c.in-Ok.ensures.found in
    let text : c.as_slice-3.result.now ≡ citation_text c.dataset-dataset.result.now issue = cc (c.as_slice-3.ensures, c.in_ok-text.ensures) in
    let small : issue.number < 2 ^ 32 = omega (arith, issued.1) in
    let version = kept_version c.args.seen.now c.args.cited.number c.in-Ok.citation.now c.requires.seen c.in-Ok.ensures.found in
    rw text (citation_is_utf8 c.dataset-dataset.result.now issue described issued.0 small version (year_is_small issue.cited))

pub returns : goal.returns
returns c =
    let number = c.args.cited.number in
    let new = c.args.cited.new in
    ok_into (λ body. body ≡ cited_json c.as_slice-2.result.now new c.as_slice-3.result.now)
    (λ body. (b : Archive) → Shows c.args.seen.now b → (m : Minted) × (minted_as b number ≡ Some m) × (body ≡ cited_json (name_of b.dataset.prefix (Subset number)) new (citation_text b.dataset m.issue)))
    c.cited_json.result
    (λ body e b shows.
    let (m, is, same) = minted_there b c.args.seen.now.store number c.in-Ok.citation.now shows.parts.same c.in-Ok.ensures.found in
    let dataset : c.dataset-dataset.result.now ≡ b.dataset = c.dataset-dataset.ensures ∙ shows.dataset_is in
    let name : c.as_slice-2.result.now ≡ name_of b.dataset.prefix (Subset number) = c.as_slice-2.ensures ∙ c.in_ok-id.ensures ∙ ap (λ (p : List ℕ). name_of p (Subset number)) (c.as_slice.ensures ∙ ap (λ (w : Dataset). w.prefix) dataset) in
    let text : c.as_slice-3.result.now ≡ citation_text b.dataset m.issue = c.as_slice-3.ensures ∙ c.in_ok-text.ensures ∙ ap (λ (w : Dataset). citation_text w c.in-Ok.citation.now.issue) dataset ∙ ap (λ (k : Citation). citation_text b.dataset k.issue) (sym same) in
    (m, is, e ∙ ap (λ (i : List ℕ). cited_json i new c.as_slice-3.result.now) name ∙ ap (cited_json (name_of b.dataset.prefix (Subset number)) new) text))
    c.cited_json.ensures
