use Rattle.std.proofs.Common.{◌≡◌, ◌≤◌, List, false, length}
use Rattle.entry_codec.specs.declared.entry.Entry.{Entry}
use Rattle.archive_model.specs.Archives.{Archive}
use Rattle.archive_state.specs.Standing.{StandsFor}
use Rattle.archive_core.specs.Keeping.{IsKept}
use Rattle.cite_conversation.specs.Steps.{SomeWent}
use Rattle.cite_conversation.proofs.Faring.{world_of}
use Rattle.cite_conversation.proofs.answers.answer_all.Given as goal

abbrev pub invariant-messages : goal.invariant-messages
invariant-messages g l = record {
  went : (history : List Entry) (a : Archive) → StandsFor l.fn.desk.present history a
      → SomeWent g.D.Disk.honest (world_of g.D.Disk.images g.D.Disk.fault_count l.fn.disk l.fn.desk (g.C.Clock.given l.fn.clock))
      (world_of g.D.Disk.images g.D.Disk.fault_count l.disk l.desk (g.C.Clock.given l.clock))
      (record { written_before = g.K.Sink.written l.fn.sink; written_after = g.K.Sink.written l.sink; faults_before = g.K.Sink.faults_of l.fn.sink; faults_after = g.K.Sink.faults_of l.sink })
      l.fn.reader l.reader a history;
  unclosed : l.reader.closed ≡ false;
  kept : g.D.Disk.honest → IsKept (g.D.Disk.images l.disk) l.desk;
  later : g.D.Disk.fault_count l.fn.disk ≤ g.D.Disk.fault_count l.disk;
  never_falls : g.K.Sink.faults_of l.fn.sink ≤ g.K.Sink.faults_of l.sink;
}

abbrev pub decreases-messages : goal.decreases-messages
decreases-messages g l = length l.reader.bytes
