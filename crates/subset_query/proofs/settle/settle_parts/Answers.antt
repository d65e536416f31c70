use Rattle.std.proofs.Common.{◌≢◌, [], ◌∙◌, sym, subst, ap, map}
use Rattle.cite_schema.specs.Answers.{Alike}
use Rattle.subset_query.specs.declared.form.Normal.TheVariants as forms
use Rattle.subset_query.specs.Forms.{formed, in_sets, printed_columns}
use Rattle.subset_query.specs.Settling.{HasNone, AreFixing, needed_order, settled_item}
use Rattle.subset_query.proofs.Existing.{some_labels}
use Rattle.subset_query.proofs.Settled.{found_none, found_some, none_alike, AreMade, made_alike, made_settled}
use Rattle.subset_query.proofs.settle.settle_parts.Goals as goal

pub returns-in_default-clause-settled : goal.returns-in_default-clause-settled
returns-in_default-clause-settled c = λ columns heading own some shown there. subst (λ ls. ls ≢ []) (sym c.in_ok-labels.ensures) (some_labels c.args.items some)

pub returns-in_default-clause-alike : goal.returns-in_default-clause-alike
returns-in_default-clause-alike c = λ columns own.
    subst (λ ls. Alike columns (record { keeps = in_sets c.args.sets; order = c.args.order; items = c.args.items }) (formed (forms.Nothing ls))) (sym c.in_ok-labels.ensures)
    (none_alike columns c.args.sets c.args.items c.args.order (subst HasNone c.as_slice.ensures (found_none _ _ c.in_ok-fixed.ensures c.in_default.is)))

-- what the code made of the parts
made : (c : goal.After-drop-fixed-inside-2) → AreMade c.args.sets c.args.items c.args.order c.in_ok-items.items c.in_ok-order.order
made c = record {
  only = c.in-Some.fixed;
  fixing = subst (λ ss. AreFixing ss c.in-Some.fixed) c.as_slice.ensures (found_some _ _ _ c.in_ok-fixed.ensures c.in-Some.is);
  items_are = c.in_ok-items.ensures ∙ ap (λ f. map (settled_item f) c.args.items) c.as_slice-2.ensures;
  order_is = c.in_ok-order.ensures ∙ ap (λ f. needed_order f (printed_columns c.as_slice-3.result.now) c.args.order) c.as_slice-4.ensures
      ∙ ap (λ is. needed_order c.in-Some.fixed (printed_columns is) c.args.order) c.as_slice-3.ensures;
}

pub returns-clause-settled : goal.returns-clause-settled
returns-clause-settled c = λ columns heading own some shown there. made_settled columns c.args.sets c.args.items c.in_ok-items.items c.args.order c.in_ok-order.order own (made c) heading some shown there

pub returns-clause-alike : goal.returns-clause-alike
returns-clause-alike c = λ columns own. made_alike columns c.args.sets c.args.items c.in_ok-items.items c.args.order c.in_ok-order.order own (made c)
