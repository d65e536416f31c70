use Rattle.std.proofs.Common.{◌≡◌, ◌++◌, drop}
use Rattle.std.specs.List.{flat_map}
use Rattle.std.specs.String.{string_bytes}
use Rattle.subset_query.specs.Printed.{order_line}
use Rattle.subset_query.proofs.print.write_order.Given as goal

abbrev pub invariant-loop-along : goal.invariant-loop-along
invariant-loop-along l = string_bytes l.out ++ flat_map order_line (drop l.along-index l.order) ≡ string_bytes l.fn.out ++ flat_map order_line l.order
