use Rattle.std.proofs.Common.{◌≡◌, drop}
use Rattle.subset_query.specs.Forms.{printed_columns, names_all}
use Rattle.subset_query.proofs.order.all_named.Given as goal

abbrev pub invariant-loop-item : goal.invariant-loop-item
invariant-loop-item l = names_all (printed_columns l.items) l.order ≡ names_all (printed_columns (drop l.item-index l.items)) l.order
