use Rattle.std.proofs.Common.{◌≡◌, drop}
use Rattle.subset_query.specs.Forms.{printed_columns}
use Rattle.migration.specs.Forms.{is_among}
use Rattle.migration.proofs.parts.is_shown.Given as goal

abbrev pub invariant-loop-item : goal.invariant-loop-item
invariant-loop-item l = is_among l.column (printed_columns l.items) ≡ is_among l.column (printed_columns (drop l.item-index l.items))
