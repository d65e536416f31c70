use Rattle.std.proofs.Common.{◌≡◌, ◌≤◌, [], length, take, drop}
use Rattle.subset_query.specs.Forms.{printed_columns}
use Rattle.subset_query.specs.Settling.{needed}
use Rattle.subset_query.proofs.order.keep_needed.Given as goal

abbrev pub invariant-loop-at : goal.invariant-loop-at
invariant-loop-at l = record {
  within : l.kept ≤ l.at;
  ends : l.at-end ≡ length l.order;
  reached : l.at ≤ length l.order;
  kept : needed l.fixed (printed_columns l.items) (take l.kept l.order) (drop l.at l.order) ≡ needed l.fixed (printed_columns l.items) [] l.fn.order;
}
