use Rattle.std.proofs.Common.{◌-◌, ◌≤◌, length}
use Rattle.cite_conversation.specs.Streams.{Taken}
use Rattle.cite_cli.proofs.input.take_all.Given as goal

abbrev pub invariant-loop-buffer : goal.invariant-loop-buffer
invariant-loop-buffer g l = record {
  taken : Taken l.taken.items (g.S.Source.left l.fn.source) (g.S.Source.left l.source);
  faults : g.S.Source.faults_of l.fn.source ≤ g.S.Source.faults_of l.source;
  few : length l.taken.items ≤ 67108865;
}

abbrev pub decreases-loop-buffer : goal.decreases-loop-buffer
decreases-loop-buffer g l = 67108865 - length l.taken.items
