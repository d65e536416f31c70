use Rattle.entry_codec.specs.declared.entry.Entry.TheVariants as entries
use Rattle.archive_model.specs.Citing.{CiteStep}
use Rattle.archive_model.specs.Histories.{cite_ask}
use Rattle.archive_state.proofs.Followers.{answers_over, cite_decides}
use Rattle.archive_state.proofs.follower.follow_citation.Goals as goal

pub returns : goal.returns
returns c = λ history a stands.
    let e = c.args.citation in
    answers_over (CiteStep a (cite_ask e) e.stamp) history a (entries.Cite e) (cite_decides a e) stands.leads c.args.payload.now c.requires.fits c.requires.payload c.plan_cite.result c.kept_of.result
    (c.plan_cite.ensures history a stands) c.kept_of.ensures
