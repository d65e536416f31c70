use Rattle.std.proofs.Common.{◌≡◌, map, take}
use Rattle.serde_json.specs.View.{view}
use Rattle.cite_answer.specs.Bodies.{column_value}
use Rattle.cite_answer.proofs.bodies.columns_value.Given as goal

abbrev pub invariant-loop-column : goal.invariant-loop-column
invariant-loop-column l = map view l.values.items ≡ map column_value (take l.column-index l.columns)
