use Rattle.std.proofs.Common.{◌-◌, ◌≤◌, length, take}
use Rattle.cite_ports.specs.Ports.{Holds}
use Rattle.cite_conversation.proofs.output.put_all.Given as goal

abbrev pub invariant-loop-at : goal.invariant-loop-at
invariant-loop-at g l = record {
  put : Holds (take l.at l.bytes) (g.K.Sink.written l.fn.sink) (g.K.Sink.written l.sink);
  faults : g.K.Sink.faults_of l.fn.sink ≤ g.K.Sink.faults_of l.sink;
  within : l.at ≤ length l.bytes;
}

abbrev pub decreases-loop-at : goal.decreases-loop-at
decreases-loop-at g l = length l.bytes - l.at
