use Rattle.std.proofs.Common.{◌≡◌, [], take, drop}
use Rattle.cite_schema.specs.Headings.{name_fault}
use Rattle.cite_schema.proofs.schema.name_fault_of.Given as goal

abbrev pub invariant-loop-i : goal.invariant-loop-i
invariant-loop-i l = name_fault [] l.columns ≡ name_fault (take l.i l.columns) (drop l.i l.columns)
