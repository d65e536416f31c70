use Rattle.std.proofs.Common.{◌≡◌, ◌+◌, ◌-◌, ◌^◌, ◌≤◌, drop}
use Rattle.std.specs.Prelude.{min}
use Rattle.versioned_rows.specs.Weights.{row_weight}
use Rattle.versioned_rows.proofs.weight.heavier.Given as goal

abbrev pub invariant-loop-value : goal.invariant-loop-value
invariant-loop-value l = (min (l.sum + row_weight (drop l.value-index l.value-items)) (2 ^ 64 - 1) ≡ min (l.weight + row_weight l.row) (2 ^ 64 - 1)) × (l.sum ≤ 2 ^ 64 - 1)
