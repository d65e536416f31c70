use Rattle.std.proofs.Common.{◌++◌, List, append-nil, sym, ap, ◌∙◌, subst}
use Rattle.std.specs.Prelude.{IsTrue}
use Rattle.std.specs.List.{flat_map}
use Rattle.cite_schema.specs.Tables.{key_cmp, is_keyed}
use Rattle.cite_schema.specs.declared.value.Value.{Value}
use Rattle.cite_schema.proofs.Orders.{key_total}
use Rattle.cite_schema.proofs.Rising.{rises_from_sorted}
use Rattle.versioned_rows.specs.Histories.{RowHistory, as_of}
use Rattle.versioned_rows.proofs.Tables.{shown, as_of_is}
use Rattle.versioned_rows.proofs.rows.Rows.as_of.Goals as goal

pub returns-clause-table : goal.returns-clause-table
returns-clause-table c =
    sym (append-nil c.loop-kept.table) ∙ ap (λ l. c.loop-kept.table ++ flat_map (shown c.args.version) l) (sym c.in-None.ensures.steps.0) ∙ c.loop-kept.invariant.2 ∙ sym (as_of_is c.args.version c.args.self.now.kept)

pub returns-clause-keyed : goal.returns-clause-keyed
returns-clause-keyed c =
    subst (λ (t : List (List Value)). IsTrue (is_keyed t))
    (ap (λ (s : RowHistory). as_of s c.args.version) c.self.view_is ∙ sym (sym (append-nil c.loop-kept.table) ∙ ap (λ l. c.loop-kept.table ++ flat_map (shown c.args.version) l) (sym c.in-None.ensures.steps.0) ∙ c.loop-kept.invariant.2 ∙ sym (as_of_is c.args.version c.args.self.now.kept)))
    (rises_from_sorted key_cmp key_total (as_of (record { last = c.self.inside.last; kept = c.self.inside.kept }) c.args.version) (c.self.invariant.history.tables c.args.version))
