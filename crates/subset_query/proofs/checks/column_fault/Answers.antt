use Rattle.std.proofs.Common.{◌≡◌, ◌∙◌, ap, sym, List}
use Rattle.std.specs.Option.{option_map}
use Rattle.std.specs.List.{position}
use Rattle.cite_schema.specs.declared.query.OnColumn.{OnColumn}
use Rattle.subset_query.specs.Checks.{names_twice, unknown_in, where_so, is_wrong_kind}
use Rattle.subset_query.specs.declared.checks.QueryFault.TheVariants.{ConditionTwice, WrongKind}
use Rattle.subset_query.proofs.Faults.{five_faults}
use Rattle.subset_query.proofs.checks.column_fault.Goals as goal

pub returns : goal.returns
returns c =
    let columns = c.args.columns.now in
    let q = c.args.query.now in
    let conds : c.as_slice-conds.result.now ≡ q.conds = c.as_slice-conds.ensures in
    let items : c.as_slice.result.now ≡ q.items = c.as_slice.ensures in
    let order : c.as_slice-2.result.now ≡ q.order = c.as_slice-2.ensures in
    c.wrong_kind_in.ensures
    ∙ ap (λ (os : List OnColumn). option_map (λ i. WrongKind i) (position (λ o. is_wrong_kind columns o) os)) conds
    ∙ sym (five_faults _ _ _ _ _
    (ap (λ b. where_so b ConditionTwice) (sym (ap names_twice conds) ∙ sym c.names_twice.ensures ∙ c.if-names_twice.false))
    (sym (ap (λ os. unknown_in columns 1 (λ o. o.column) os) conds) ∙ sym c.unknown_in.ensures ∙ c.in_default.is)
    (sym (ap (λ os. unknown_in columns 2 (λ o. o.column) os) items) ∙ sym c.unknown_in-2.ensures ∙ c.in_default-unknown_in.is)
    (sym (ap (λ os. unknown_in columns 3 (λ o. o.column) os) order) ∙ sym c.unknown_in-3.ensures ∙ c.in_default-unknown_in-2.is))
