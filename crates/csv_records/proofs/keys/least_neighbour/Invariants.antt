use Rattle.std.proofs.Common.{take}
use Rattle.csv_records.specs.Keys.{ComesAgain, IsLeast}
use Rattle.csv_records.proofs.keys.least_neighbour.Given as goal

abbrev pub invariant-loop-i : goal.invariant-loop-i
invariant-loop-i g l = IsLeast (ComesAgain g.K.Ord.cmp (take l.i l.held)) l.least
