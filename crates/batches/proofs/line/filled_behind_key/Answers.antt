use Rattle.std.proofs.Common.{◌∙◌, ℕ, sym, ap, arith, List, [], length, ◌==◌}
use Rattle.std.proofs.lemmas.Option.{get_or_from_slice_get}
use Rattle.csv.specs.Records.{fields_of}
use Rattle.batches.proofs.Lines.{none_filled, filled_at, empty_more}
use Rattle.batches.proofs.line.filled_behind_key.Goals as goal

pub returns-then-not-is_empty : goal.returns-then-not-is_empty
returns-then-not-is_empty c =
    let test = c.loop-at-test.true in
    let count = c.len-at-end.ensures in
    filled_at (fields_of c.args.fields.now) c.loop-at.at c.loop-at.auto.at (omega (arith, test, count)) c.loop-at.invariant.1
    (ap (λ (g : List ℕ). length g == 0) (get_or_from_slice_get (fields_of c.args.fields.now) c.loop-at.at c.field.result.now [] c.field.ensures) ∙ sym c.if-not-is_empty.ensures)

pub loop-at-preserved : goal.loop-at-preserved
loop-at-preserved c =
    let from = c.loop-at.auto.at in (
      omega (arith, from),
      empty_more (fields_of c.args.fields.now) c.loop-at.at c.loop-at.invariant.1
          (ap (λ (g : List ℕ). length g == 0) (get_or_from_slice_get (fields_of c.args.fields.now) c.loop-at.at c.field.result.now [] c.field.ensures) ∙ sym c.if-not-is_empty.ensures),
    )

pub returns : goal.returns
returns c =
    let test = c.loop-at-test.false in
    let count = c.len-at-end.ensures in
    none_filled (fields_of c.args.fields.now) c.requires.some (λ k from below. c.loop-at.invariant.1 k from (omega (arith, test, count, below)))
