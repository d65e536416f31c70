use Rattle.std.proofs.lemmas.Result.{on_ok_weaker}
use Rattle.archive_journal.proofs.tests.log.Log.add.Goals as goal

pub returns-in-Ok-clause-added : goal.returns-in-Ok-clause-added
returns-in-Ok-clause-added g c = on_ok_weaker c.commit.result (λ added honest ps p s. added honest ps p (c.settle.ensures.stands honest ps p s)) c.commit.ensures.stands
