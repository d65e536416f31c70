use Rattle.std.proofs.Common.{◌≡◌, drop}
use Rattle.std.specs.List.{list_all}
use Rattle.subset_query.specs.Checks.{all_pass}
use Rattle.subset_query.specs.Walks.{passes}
use Rattle.subset_query.proofs.checks.+values.Given as goal

abbrev pub invariant-all_pass_in-loop-cond : goal.invariant-all_pass_in-loop-cond
invariant-all_pass_in-loop-cond l = list_all (λ c. all_pass (λ v. passes l.rule v) c) (drop l.cond-index l.conds) ≡ list_all (λ c. all_pass (λ v. passes l.rule v) c) l.conds
