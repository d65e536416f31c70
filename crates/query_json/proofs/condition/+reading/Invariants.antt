use Rattle.std.proofs.Common.{◌≡◌, drop}
use Rattle.serde_json.specs.View.{items_view}
use Rattle.query_json.specs.Conditions.{condition_of}
use Rattle.query_json.specs.Values.{all_of}
use Rattle.query_json.proofs.ListLaws.{reading}
use Rattle.query_json.proofs.condition.+reading.Given as goal

abbrev pub invariant-read_conditions-loop-item : goal.invariant-read_conditions-loop-item
invariant-read_conditions-loop-item l = reading condition_of l.conditions (drop l.item-index l.item-items) ≡ all_of condition_of (items_view l.item-items)
