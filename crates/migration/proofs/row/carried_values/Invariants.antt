use Rattle.std.proofs.Common.{◌≡◌, drop}
use Rattle.migration.specs.Rows.{row_at_all}
use Rattle.migration.proofs.row.carried_values.Given as goal

abbrev pub invariant-loop-i : goal.invariant-loop-i
invariant-loop-i l = row_at_all (drop l.i l.places) (drop l.i l.steps) l.carried ≡ row_at_all l.places l.steps l.fn.values
