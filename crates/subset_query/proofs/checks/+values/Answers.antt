use Rattle.std.proofs.Common.{◌∙◌, ap, sym, List}
use Rattle.std.specs.List.{list_all}
use Rattle.cite_schema.specs.declared.condition.Cond.{Cond}
use Rattle.subset_query.specs.Checks.{all_pass}
use Rattle.subset_query.specs.Walks.{passes}
use Rattle.subset_query.proofs.Folding.{all_pass-AllOf, all_pass-AnyOf}
use Rattle.subset_query.proofs.checks.+values.Goals as goal

pub all_values_pass-returns-in-AllOf : goal.all_values_pass-returns-in-AllOf
all_values_pass-returns-in-AllOf t c =
    c.all_pass_in.ensures
    ∙ ap (λ (cs : List Cond). list_all (λ k. all_pass (passes c.args.rule) k) cs) c.as_slice-in-AllOf.ensures
    ∙ all_pass-AllOf (passes c.args.rule) c.in-AllOf.conds
    ∙ sym (ap (λ k. all_pass (passes c.args.rule) k) c.in-AllOf.is)

pub all_values_pass-returns-in-AnyOf : goal.all_values_pass-returns-in-AnyOf
all_values_pass-returns-in-AnyOf t c =
    c.all_pass_in-in-AnyOf.ensures
    ∙ ap (λ (cs : List Cond). list_all (λ k. all_pass (passes c.args.rule) k) cs) c.as_slice-in-AnyOf.ensures
    ∙ all_pass-AnyOf (passes c.args.rule) c.in-AnyOf.conds
    ∙ sym (ap (λ k. all_pass (passes c.args.rule) k) c.in-AnyOf.is)
