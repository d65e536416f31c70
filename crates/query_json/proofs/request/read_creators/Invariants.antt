use Rattle.std.proofs.Common.{◌≡◌, drop}
use Rattle.serde_json.specs.View.{items_view}
use Rattle.serde_json.specs.Find.{as_str}
use Rattle.query_json.specs.Values.{all_of}
use Rattle.query_json.proofs.ListLaws.{reading}
use Rattle.query_json.proofs.request.read_creators.Given as goal

abbrev pub invariant-loop-item : goal.invariant-loop-item
invariant-loop-item l = reading as_str l.creators (drop l.item-index l.item-items) ≡ all_of as_str (items_view l.item-items)
