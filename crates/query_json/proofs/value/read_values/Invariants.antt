use Rattle.std.proofs.Common.{◌≡◌, drop}
use Rattle.serde_json.specs.View.{items_view}
use Rattle.query_json.specs.Values.{value_of}
use Rattle.query_json.specs.Values.{all_of}
use Rattle.query_json.proofs.ListLaws.{reading}
use Rattle.query_json.proofs.value.read_values.Given as goal

abbrev pub invariant-loop-item : goal.invariant-loop-item
invariant-loop-item l = reading value_of l.values (drop l.item-index l.item-items) ≡ all_of value_of (items_view l.item-items)
