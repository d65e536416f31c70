use Rattle.std.proofs.Common.{◌≡◌, List, ℕ, sym, ap, ◌∙◌, subst, codes}
use Rattle.cite_schema.specs.declared.dataset.Dataset.{Dataset}
use Rattle.archive_model.specs.Archives.{Archive}
use Rattle.archive_state.specs.Standing.{Shows}
use Rattle.datacite_meta.specs.Stamps.{IsStamp}
use Rattle.datacite_meta.specs.Metadata.{IsDescribed}
use Rattle.cite_answer.specs.Reads.{Meaning, Means, metadata_reply}
use Rattle.cite_answer.specs.Replies.{missing_reply}
use Rattle.cite_answer.proofs.Finding.{ok_into, found_name, found_set, found_issued, citation_told, set_told, seen_described, seen_founded, seen_updated}
use Rattle.cite_answer.proofs.reading.read_metadata.Goals as goal

pub dataset_json-requires-clause-dataset : goal.dataset_json-requires-clause-dataset
dataset_json-requires-clause-dataset c = subst IsDescribed (sym c.dataset-dataset.ensures) (seen_described c.args.seen.now c.requires)

pub dataset_json-requires-clause-founded : goal.dataset_json-requires-clause-founded
dataset_json-requires-clause-founded c = subst IsStamp (sym c.founded.ensures) (seen_founded c.args.seen.now c.requires)

pub dataset_json-requires-clause-updated : goal.dataset_json-requires-clause-updated
dataset_json-requires-clause-updated c = subst IsStamp (sym c.stamp.ensures) (seen_updated c.args.seen.now c.requires)

pub meta_json-requires-clause-dataset : goal.meta_json-requires-clause-dataset
meta_json-requires-clause-dataset c = subst IsDescribed (sym c.dataset-dataset.ensures) (seen_described c.args.seen.now c.requires)

pub meta_json-requires-clause-issue : goal.meta_json-requires-clause-issue
meta_json-requires-clause-issue c =
    let r = c.requires in
    let (meaning, means, is) = c.in-Citation.ensures r.archive r.shows in
    found_issued r.history r.archive c.args.name.now meaning c.in-Citation.citation r.leads means is

pub returns-in-NotAName-clause-value : goal.returns-in-NotAName-clause-value
returns-in-NotAName-clause-value c =
    ok_into (λ reply. reply ≡ missing_reply (codes "NotAName") c.args.closing)
    (λ reply. (a : Archive) → Shows c.args.seen.now a → (meaning : Meaning) × Means a c.args.name.now meaning × (reply ≡ metadata_reply a c.args.closing meaning)) c.missing_reply.result
    (λ reply e a shows.
    let (meaning, means, is) = c.in-NotAName.ensures a shows in
    (meaning, means, e ∙ sym (ap (metadata_reply a c.args.closing) (found_name meaning is))))
    c.missing_reply.ensures.value

pub returns-in_ok-body-in-DataSet-clause-value : goal.returns-in_ok-body-in-DataSet-clause-value
returns-in_ok-body-in-DataSet-clause-value c = λ a shows.
    let (meaning, means, is) = c.in-DataSet.ensures a shows in (
      meaning,
      means,
      c.found_reply.ensures.value
          ∙ set_told c.args.seen.now a c.args.closing c.dataset-dataset.result.now c.founded.result c.stamp.result c.in_ok-body-in-DataSet.body c.dataset-dataset.ensures c.founded.ensures c.stamp.ensures shows c.in_ok-body-in-DataSet.ensures
          ∙ sym (ap (metadata_reply a c.args.closing) (found_set meaning is)),
    )

pub returns-in_ok-body-in-Citation-clause-value : goal.returns-in_ok-body-in-Citation-clause-value
returns-in_ok-body-in-Citation-clause-value c = λ a shows.
    let (meaning, means, is) = c.in-Citation.ensures a shows in (
      meaning,
      means,
      c.found_reply-in-Citation.ensures.value
          ∙ citation_told a c.args.closing meaning c.in-Citation.citation c.dataset-dataset.result.now c.in_ok-body-in-Citation.body (c.dataset-dataset.ensures ∙ shows.dataset_is) is c.in_ok-body-in-Citation.ensures,
    )
