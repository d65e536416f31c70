use Rattle.std.proofs.Common.{◌≡◌, drop}
use Rattle.std.specs.Prelude.{nat_lt}
use Rattle.std.specs.List.{list_any}
use Rattle.subset_query.specs.Checks.{depth_of}
use Rattle.subset_query.proofs.checks.+depth.Given as goal

abbrev pub invariant-any_deeper-loop-cond : goal.invariant-any_deeper-loop-cond
invariant-any_deeper-loop-cond l = list_any (λ c. nat_lt l.limit (depth_of c)) (drop l.cond-index l.conds) ≡ list_any (λ c. nat_lt l.limit (depth_of c)) l.conds
