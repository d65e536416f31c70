use Rattle.std.proofs.Common.{◌≡◌, drop}
use Rattle.std.specs.List.{sum_by}
use Rattle.subset_query.specs.Checks.{nodes_of}
use Rattle.subset_query.specs.Walks.{left_of}
use Rattle.subset_query.proofs.checks.+nodes.Given as goal

abbrev pub invariant-nodes_left_by_all-loop-cond : goal.invariant-nodes_left_by_all-loop-cond
invariant-nodes_left_by_all-loop-cond l = left_of l.left (sum_by nodes_of (drop l.cond-index l.conds)) ≡ left_of l.budget (sum_by nodes_of l.conds)
