use Rattle.std.proofs.Common.{◌≡◌, ◌++◌, drop}
use Rattle.std.specs.String.{string_bytes}
use Rattle.subset_query.specs.Printed.{set_lines}
use Rattle.subset_query.proofs.print.write_sets.Given as goal

abbrev pub invariant-loop-i : goal.invariant-loop-i
invariant-loop-i l = string_bytes l.out ++ set_lines l.i (drop l.i l.sets) ≡ string_bytes l.fn.out ++ set_lines 0 l.sets
