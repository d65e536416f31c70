use Rattle.std.proofs.Common.{length}
use Rattle.subset_query.specs.Forms.{formed}
use Rattle.csv_records.specs.Records.{IsReading, left_of}
use Rattle.cite_cli.proofs.Collecting.{ReadSoFar}
use Rattle.cite_cli.proofs.rows.read_rows.Given as goal

abbrev pub invariant-loop-fields : goal.invariant-loop-fields
invariant-loop-fields l = record {
  reading : IsReading l.reader;
  so_far : ReadSoFar l.columns (formed l.form).keeps (left_of l.fn.reader) (left_of l.reader) l.keys l.picked l.line;
}

abbrev pub decreases-loop-fields : goal.decreases-loop-fields
decreases-loop-fields l = length (left_of l.reader)
