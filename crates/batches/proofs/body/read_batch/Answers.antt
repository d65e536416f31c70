use Rattle.std.proofs.Common.{◌∙◌, sym, ap}
use Rattle.std.specs.Prelude.{Err}
use Rattle.csv_records.specs.Records.{left_of}
use Rattle.batches.proofs.Bodies.{of_body, collected_due, refused_due}
use Rattle.batches.proofs.body.read_batch.Goals as goal

pub returns-then-not-branch : goal.returns-then-not-branch
returns-then-not-branch c other =
    let found = rw c.if-not-branch.true at c.in_ok-read_header.ensures.found in
    sym found
    ∙ of_body c.args.schema.now.columns c.as_slice-columns.result.now c.args.body.now (left_of c.records_in-reader.result) (c.as_slice-columns.ensures ∙ c.columns.ensures.value) c.records_in-reader.ensures.left

pub returns-in-Ok : goal.returns-in-Ok
returns-in-Ok c other =
    let head = rw c.if-not-branch.false at c.in_ok-read_header.ensures.found in
    c.judge.ensures other
    ∙ collected_due c.as_slice-columns.result.now (left_of c.records_in-reader.result) (left_of c.read_header.new.reader) c.in-Ok.read head c.in-Ok.ensures.ok
    ∙ of_body c.args.schema.now.columns c.as_slice-columns.result.now c.args.body.now (left_of c.records_in-reader.result) (c.as_slice-columns.ensures ∙ c.columns.ensures.value) c.records_in-reader.ensures.left

pub returns : goal.returns
returns c other =
    let head = rw c.if-not-branch.false at c.in_ok-read_header.ensures.found in
    refused_due c.as_slice-columns.result.now (left_of c.records_in-reader.result) (left_of c.read_header.new.reader) c.in-Err.fault head c.in-Err.ensures.why (λ e. other (ap Err e))
    ∙ of_body c.args.schema.now.columns c.as_slice-columns.result.now c.args.body.now (left_of c.records_in-reader.result) (c.as_slice-columns.ensures ∙ c.columns.ensures.value) c.records_in-reader.ensures.left
