use Rattle.std.proofs.Common.{◌∙◌, sym, subst}
use Rattle.cite_schema.specs.Queries.{asked}
use Rattle.subset_query.specs.Forms.{in_sets, AreShownIn, AreColumnsIn, formed}
use Rattle.subset_query.proofs.Alikes.{alike_on}
use Rattle.subset_query.proofs.Settled.{some_column}
use Rattle.subset_query.proofs.Chosen.{asked_shown, asked_there, asked_alike, rows_of, items_of, order_of}
use Rattle.subset_query.proofs.normal_form.normal.Goals as goal

pub settle_form-requires-clause-items_known : goal.settle_form-requires-clause-items_known
settle_form-requires-clause-items_known c =
    subst (AreShownIn c.args.schema.now.columns) (sym (items_of _ _ _ _ _ (c.as_slice-columns.ensures ∙ c.columns.ensures.value) c.as_slice-2.ensures c.in_ok-items.ensures))
    (asked_shown c.args.schema.now.columns c.args.query.now.items (some_column c.args.schema.now.columns c.columns.ensures.heading))

pub settle_form-requires-clause-order_known : goal.settle_form-requires-clause-order_known
settle_form-requires-clause-order_known c =
    subst (AreColumnsIn c.args.schema.now.columns) (sym (order_of _ _ _ _ _ (c.as_slice-columns.ensures ∙ c.columns.ensures.value) c.as_slice-3.ensures c.in_ok-order.ensures))
    (asked_there c.args.schema.now.columns c.args.query.now.order (some_column c.args.schema.now.columns c.columns.ensures.heading))

pub returns-clause-alike : goal.returns-clause-alike
returns-clause-alike c =
    alike_on c.args.schema.now.columns (asked c.args.schema.now.columns c.args.query.now) (record { keeps = in_sets c.in_ok-sets.sets; order = c.in_ok-order.order; items = c.in_ok-items.items }) (formed c.in_ok-form.form)
    (asked_alike c.args.schema.now.columns c.args.query.now c.in_ok-sets.sets c.in_ok-items.items c.in_ok-order.order
    (rows_of _ _ _ _ _ (c.as_slice-columns.ensures ∙ c.columns.ensures.value) c.as_slice.ensures c.in_ok-sets.ensures.chosen)
    (items_of _ _ _ _ _ (c.as_slice-columns.ensures ∙ c.columns.ensures.value) c.as_slice-2.ensures c.in_ok-items.ensures)
    (order_of _ _ _ _ _ (c.as_slice-columns.ensures ∙ c.columns.ensures.value) c.as_slice-3.ensures c.in_ok-order.ensures))
    c.in_ok-form.ensures.alike
