use Rattle.std.proofs.Common.{◌≡◌, ◌+◌, ◌-◌, ◌^◌, ◌≤◌, drop}
use Rattle.std.specs.Prelude.{min}
use Rattle.cite_schema.specs.Lines.{brought}
use Rattle.versioned_rows.specs.Weights.{rows_weight}
use Rattle.versioned_rows.proofs.edits.weighed.Given as goal

abbrev pub invariant-loop-line : goal.invariant-loop-line
invariant-loop-line l = (min (l.sum + rows_weight (brought (drop l.line-index l.lines))) (2 ^ 64 - 1) ≡ min (l.weight + rows_weight (brought l.lines)) (2 ^ 64 - 1)) × (l.sum ≤ 2 ^ 64 - 1)
