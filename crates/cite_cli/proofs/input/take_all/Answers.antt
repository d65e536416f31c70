use Rattle.cite_cli.proofs.Streaming.{all_taken}
use Rattle.cite_cli.proofs.input.take_all.Goals as goal

pub returns-in-Ok-eq0-clause-all : goal.returns-in-Ok-eq0-clause-all
returns-in-Ok-eq0-clause-all g c = all_taken _ _ _ _ _ _ c.loop-buffer.invariant.taken c.in-Ok-eq0.ensures.gives c.in-Ok-eq0.ensures.end c.in-Ok-eq0.field-0-test
