use Rattle.std.proofs.Common.{drop}
use Rattle.migration.proofs.CarriedForms.{IsPlaced}
use Rattle.migration.proofs.form.carried_by_all.Given as goal

abbrev pub invariant-loop-i : goal.invariant-loop-i
invariant-loop-i l = IsPlaced l.schema.columns l.steps l.fn.form (drop l.i l.places) (drop l.i l.steps) l.carried
