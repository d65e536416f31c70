use Rattle.std.proofs.Common.{◌≤◌, length}
use Rattle.csv_records.specs.Records.{IsReading, left_of}
use Rattle.batches.proofs.Collecting.{ReadSoFar}
use Rattle.batches.proofs.reading.read_lines.Given as goal

abbrev pub invariant-loop-fields : goal.invariant-loop-fields
invariant-loop-fields l = record {
  reading : IsReading l.reader;
  few : l.line ≤ 20000;
  so_far : ReadSoFar l.columns (left_of l.fn.reader) (left_of l.reader) l.read l.line;
}

abbrev pub decreases-loop-fields : goal.decreases-loop-fields
decreases-loop-fields l = length (left_of l.reader)
