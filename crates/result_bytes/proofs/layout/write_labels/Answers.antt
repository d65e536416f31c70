use Rattle.std.proofs.Common.{rules, ◌≡◌, ◌∷◌, [], ◌++◌}
use Rattle.std.proofs.lemmas.Result.{on_ok_weaker}
use Rattle.cite_schema.specs.Layout.{labels, line}
use Rattle.result_bytes.specs.Writer.{written}
use Rattle.result_bytes.proofs.Fields.{all-joined, joined-more, one_more}
use Rattle.result_bytes.proofs.layout.write_labels.Goals as goal

pub loop-item-preserved : goal.loop-item-preserved
loop-item-preserved c =
    let wrote = rw (c.loop-item.invariant.count, c.as_slice.ensures) at c.in_ok-write_field.ensures.text in
    record {
      setup = search rules;
      count = search rules;
      shows = search rules;
      so_far = one_more _ _ _ _ _ _ c.loop-item.invariant.so_far wrote
          (joined-more (λ item. item.label) c.args.items.now c.loop-item.item-index c.item-item.result c.loop-item-test.true c.item-item.is);
    }

pub returns-clause-text : goal.returns-clause-text
returns-clause-text c =
    let ends : written c.end_line.new.out ≡ written c.loop-item.out ++ (10 ∷ []) → written c.end_line.new.out ≡ written c.args.out.now ++ line (labels c.args.items.now) =
    λ ended. one_more _ _ _ _ _ _ c.loop-item.invariant.so_far ended
    (all-joined (λ item. item.label) c.args.items.now c.loop-item.item-index c.loop-item-test.false) in
    on_ok_weaker c.end_line.result ends c.end_line.ensures.text
