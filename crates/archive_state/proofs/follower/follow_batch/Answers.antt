use Rattle.std.proofs.Common.{◌≡◌}
use Rattle.entry_codec.specs.declared.entry.Entry.TheVariants as entries
use Rattle.archive_model.specs.Batching.{batch_step}
use Rattle.archive_model.specs.Histories.{batch_ask}
use Rattle.archive_state.proofs.Followers.{answers_over, batch_decides, never_asked}
use Rattle.archive_state.proofs.follower.follow_batch.Goals as goal

pub returns-then-not-may_be_asked : goal.returns-then-not-may_be_asked
returns-then-not-may_be_asked c = λ history a stands. never_asked history a c.args.batch c.may_be_asked.result stands.leads c.may_be_asked.ensures c.if-not-may_be_asked.true

pub returns : goal.returns
returns c = λ history a stands.
    let e = c.args.batch in
    answers_over (λ o. o ≡ batch_step a (batch_ask e) e.stamp) history a (entries.Batch e) (batch_decides a e) stands.leads c.args.payload.now c.requires.fits c.requires.payload c.plan_batch.result c.kept_of.result
    (c.plan_batch.ensures history a stands) c.kept_of.ensures
