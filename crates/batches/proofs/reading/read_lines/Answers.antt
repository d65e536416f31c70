use Rattle.std.proofs.Common.{ap, subst, List, ℕ, Ok}
use Rattle.csv.specs.Records.{fields_of}
use Rattle.csv_records.specs.Records.{left_of}
use Rattle.batches.proofs.Collecting.{ReadSoFar, read_more, below_most}
use Rattle.batches.proofs.Bodies.{so_far_keys, so_far_few}
use Rattle.batches.proofs.reading.read_lines.Goals as goal

pub loop-fields-preserved : goal.loop-fields-preserved
loop-fields-preserved c =
    let line = rw c.if-branch.true at c.in_ok-read_next.ensures.found in
    let so = subst (λ (left : List (List (List ℕ))). ReadSoFar c.args.columns.now (left_of c.args.reader.now) left c.loop-fields.read c.loop-fields.line) line c.loop-fields.invariant.so_far in
    let few = c.loop-fields.invariant.few in
    let other = c.if-line-eq-MOST_LINES.false in
    record {
      reading = c.in_ok-read_next.ensures.reading (ap Ok c.if-branch.true);
      few = below_most c.loop-fields.line few other;
      so_far = read_more c.args.columns.now (left_of c.args.reader.now) (left_of c.read_next.new.reader) c.loop-fields.read c.loop-fields.line (fields_of c.read_next.new.line) so c.take.new.self c.in_ok-take.ensures;
    }

pub returns-clause-keys : goal.returns-clause-keys
returns-clause-keys c = so_far_keys _ _ _ c.loop-fields.read c.loop-fields.line c.requires.some c.loop-fields.invariant.so_far

pub returns-clause-lines : goal.returns-clause-lines
returns-clause-lines c = so_far_few _ _ _ c.loop-fields.read c.loop-fields.line c.loop-fields.invariant.few c.loop-fields.invariant.so_far
