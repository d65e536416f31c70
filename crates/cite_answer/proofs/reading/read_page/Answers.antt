use Rattle.std.proofs.Common.{◌≡◌, List, ℕ, sym, ap, ◌∙◌, subst, codes}
use Rattle.archive_model.specs.Archives.{Archive}
use Rattle.archive_state.specs.Standing.{Shows}
use Rattle.cite_http.specs.declared.reply.Media.TheVariants.{Html}
use Rattle.cite_answer.specs.Reads.{Meaning, Means, page_reply}
use Rattle.cite_answer.specs.Replies.{found_reply, missing_reply}
use Rattle.cite_answer.proofs.Finding.{ok_into, found_name, found_set, found_issued, citation_shown}
use Rattle.cite_answer.proofs.reading.read_page.Goals as goal

pub citation_page-requires : goal.citation_page-requires
citation_page-requires c =
    let r = c.requires in
    let (meaning, means, is) = c.in-Citation.ensures r.archive r.shows in
    found_issued r.history r.archive c.args.name.now meaning c.in-Citation.citation r.leads means is

pub returns-in-NotAName-clause-value : goal.returns-in-NotAName-clause-value
returns-in-NotAName-clause-value c =
    ok_into (λ reply. reply ≡ missing_reply (codes "NotAName") c.args.closing)
    (λ reply. (a : Archive) → Shows c.args.seen.now a → (meaning : Meaning) × Means a c.args.name.now meaning × (reply ≡ page_reply a c.args.closing meaning)) c.missing_reply.result
    (λ reply e a shows.
    let (meaning, means, is) = c.in-NotAName.ensures a shows in
    (meaning, means, e ∙ sym (ap (page_reply a c.args.closing) (found_name meaning is))))
    c.missing_reply.ensures.value

pub returns-in_ok-body-in-DataSet-clause-value : goal.returns-in_ok-body-in-DataSet-clause-value
returns-in_ok-body-in-DataSet-clause-value c = λ a shows.
    let (meaning, means, is) = c.in-DataSet.ensures a shows in
    (meaning, means, c.found_reply.ensures.value ∙ ap (λ (b : List ℕ). found_reply Html b c.args.closing) (c.in_ok-body-in-DataSet.ensures a shows) ∙ sym (ap (page_reply a c.args.closing) (found_set meaning is)))

pub returns-in_ok-body-in-Citation-clause-value : goal.returns-in_ok-body-in-Citation-clause-value
returns-in_ok-body-in-Citation-clause-value c = λ a shows.
    let (meaning, means, is) = c.in-Citation.ensures a shows in (
      meaning,
      means,
      c.found_reply-in-Citation.ensures.value
          ∙ citation_shown a c.args.closing meaning c.in-Citation.citation c.dataset.result.now c.in_ok-body-in-Citation.body (c.dataset.ensures ∙ shows.dataset_is) is c.in_ok-body-in-Citation.ensures,
    )
