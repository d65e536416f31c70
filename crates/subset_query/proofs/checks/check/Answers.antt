use Rattle.std.proofs.Common.{◌∙◌, ap, sym, List}
use Rattle.cite_schema.specs.declared.schema.Column.{Column}
use Rattle.subset_query.specs.Checks.{first_of, column_faults}
use Rattle.subset_query.proofs.Faults.{behind}
use Rattle.subset_query.proofs.checks.check.Goals as goal

pub returns-in-Some-column_fault-clause-fault : goal.returns-in-Some-column_fault-clause-fault
returns-in-Some-column_fault-clause-fault c =
    behind _ _ (sym c.size_fault.ensures ∙ c.in_default.is)
    ∙ sym (ap (λ (columns : List Column). first_of (column_faults columns c.args.query.now)) (c.as_slice.ensures ∙ c.columns.ensures.value))
    ∙ sym c.column_fault.ensures ∙ c.in-Some-column_fault.is

pub returns-in-None-clause-ok : goal.returns-in-None-clause-ok
returns-in-None-clause-ok c =
    behind _ _ (sym c.size_fault.ensures ∙ c.in_default.is)
    ∙ sym (ap (λ (columns : List Column). first_of (column_faults columns c.args.query.now)) (c.as_slice.ensures ∙ c.columns.ensures.value))
    ∙ sym c.column_fault.ensures ∙ c.in-None.is
