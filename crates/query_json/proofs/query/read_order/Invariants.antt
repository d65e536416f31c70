use Rattle.std.proofs.Common.{◌≡◌, drop}
use Rattle.serde_json.specs.View.{items_view}
use Rattle.query_json.specs.Queries.{order_column_of}
use Rattle.query_json.specs.Values.{all_of}
use Rattle.query_json.proofs.ListLaws.{reading}
use Rattle.query_json.proofs.query.read_order.Given as goal

abbrev pub invariant-loop-item : goal.invariant-loop-item
invariant-loop-item l = reading order_column_of l.order (drop l.item-index l.item-items) ≡ all_of order_column_of (items_view l.item-items)
