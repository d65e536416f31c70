use Rattle.std.proofs.Common.{◌≤◌, ◌-◌, List}
use Rattle.entry_codec.specs.declared.entry.Entry.{Entry}
use Rattle.archive_model.specs.Archives.{Archive}
use Rattle.archive_state.specs.Standing.{StandsFor}
use Rattle.archive_core.specs.Keeping.{IsKept}
use Rattle.cite_conversation.specs.Steps.{Sofar, Waits}
use Rattle.cite_conversation.proofs.Faring.{world_of}
use Rattle.cite_conversation.proofs.conversing.converse.Given as goal

abbrev pub invariant-pieces : goal.invariant-pieces
invariant-pieces g l = record {
  sofar : (history : List Entry) (a : Archive) → StandsFor l.fn.desk.present history a
      → Sofar g.D.Disk.honest (world_of g.D.Disk.images g.D.Disk.fault_count l.fn.disk l.fn.desk (g.C.Clock.given l.fn.clock))
      (world_of g.D.Disk.images g.D.Disk.fault_count l.disk l.desk (g.C.Clock.given l.clock))
      (record { written_before = g.K.Sink.written l.fn.sink; written_after = g.K.Sink.written l.sink; faults_before = g.K.Sink.faults_of l.fn.sink; faults_after = g.K.Sink.faults_of l.sink })
      (g.S.Source.left l.fn.source) (g.S.Source.left l.source) l.taken l.reader a history;
  waits : Waits l.reader;
  few : l.taken ≤ 4294967296;
  kept : g.D.Disk.honest → IsKept (g.D.Disk.images l.disk) l.desk;
  later : g.D.Disk.fault_count l.fn.disk ≤ g.D.Disk.fault_count l.disk;
  reads : g.S.Source.faults_of l.fn.source ≤ g.S.Source.faults_of l.source;
  writes : g.K.Sink.faults_of l.fn.sink ≤ g.K.Sink.faults_of l.sink;
}

abbrev pub decreases-pieces : goal.decreases-pieces
decreases-pieces g l = 4294967296 - l.taken
