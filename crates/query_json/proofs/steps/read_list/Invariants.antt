use Rattle.std.proofs.Common.{◌≡◌, drop}
use Rattle.serde_json.specs.View.{items_view}
use Rattle.query_json.specs.Steps.{step_of}
use Rattle.query_json.specs.Values.{all_of}
use Rattle.query_json.proofs.ListLaws.{reading}
use Rattle.query_json.proofs.steps.read_list.Given as goal

abbrev pub invariant-loop-item : goal.invariant-loop-item
invariant-loop-item l = reading step_of l.steps (drop l.item-index l.item-items) ≡ all_of step_of (items_view l.item-items)
