use Rattle.std.proofs.Common.{◌≡◌, ◌++◌, drop}
use Rattle.std.specs.List.{flat_map}
use Rattle.std.specs.String.{string_bytes}
use Rattle.subset_query.specs.Printed.{item_line}
use Rattle.subset_query.proofs.print.write_items.Given as goal

abbrev pub invariant-loop-item : goal.invariant-loop-item
invariant-loop-item l = string_bytes l.out ++ flat_map item_line (drop l.item-index l.items) ≡ string_bytes l.fn.out ++ flat_map item_line l.items
