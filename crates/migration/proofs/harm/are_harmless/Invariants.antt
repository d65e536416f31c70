use Rattle.std.proofs.Common.{◌≡◌, drop}
use Rattle.migration.specs.Harmless.{printed_of}
use Rattle.migration.specs.Naming.{all_harmless_at}
use Rattle.migration.proofs.harm.are_harmless.Given as goal

abbrev pub invariant-loop-i : goal.invariant-loop-i
invariant-loop-i l = all_harmless_at (drop l.i l.places) (drop l.i l.steps) (printed_of l.normal) ≡ all_harmless_at l.places l.steps (printed_of l.normal)
