use Rattle.std.proofs.Common.{◌∙◌, ap, sym, ◌-◌, List}
use Rattle.std.specs.Prelude.{nat_lt}
use Rattle.std.specs.List.{list_any}
use Rattle.cite_schema.specs.declared.condition.Cond.{Cond}
use Rattle.subset_query.specs.Checks.{depth_of}
use Rattle.subset_query.proofs.Folding.{deeper-AllOf, deeper-AnyOf}
use Rattle.subset_query.proofs.checks.+depth.Goals as goal

pub is_deeper-returns-in-AllOf : goal.is_deeper-returns-in-AllOf
is_deeper-returns-in-AllOf t c =
    c.any_deeper.ensures
    ∙ ap (λ (cs : List Cond). list_any (λ k. nat_lt (c.args.limit - 1) (depth_of k)) cs) c.as_slice.ensures
    ∙ deeper-AllOf c.args.limit c.in-AllOf.conds c.if-limit-eq0.false
    ∙ sym (ap (λ k. nat_lt c.args.limit (depth_of k)) c.in-AllOf.is)

pub is_deeper-returns-in-AnyOf : goal.is_deeper-returns-in-AnyOf
is_deeper-returns-in-AnyOf t c =
    c.any_deeper-in-AnyOf.ensures
    ∙ ap (λ (cs : List Cond). list_any (λ k. nat_lt (c.args.limit - 1) (depth_of k)) cs) c.as_slice-in-AnyOf.ensures
    ∙ deeper-AnyOf c.args.limit c.in-AnyOf.conds c.if-limit-eq0.false
    ∙ sym (ap (λ k. nat_lt c.args.limit (depth_of k)) c.in-AnyOf.is)
