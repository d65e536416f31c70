use Rattle.std.proofs.Common.{◌≡◌, ◌+◌, drop}
use Rattle.migration.specs.Columns.{columns_after_all}
use Rattle.migration.proofs.schema.carried_columns.Given as goal

abbrev pub invariant-loop-i : goal.invariant-loop-i
invariant-loop-i l = columns_after_all (l.i + 1) l.carried (drop l.i l.steps) ≡ columns_after_all 1 l.fn.columns l.steps
