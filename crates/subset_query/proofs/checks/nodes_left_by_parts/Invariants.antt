use Rattle.std.proofs.Common.{◌≡◌, drop}
use Rattle.std.specs.List.{sum_by}
use Rattle.subset_query.specs.Checks.{nodes_of}
use Rattle.subset_query.specs.Walks.{left_of}
use Rattle.subset_query.proofs.checks.nodes_left_by_parts.Given as goal

abbrev pub invariant-loop-on : goal.invariant-loop-on
invariant-loop-on l = left_of l.left (sum_by (λ o. nodes_of o.cond) (drop l.on-index l.conds)) ≡ left_of l.budget (sum_by (λ o. nodes_of o.cond) l.conds)
