use Rattle.std.proofs.Common.{◌≡◌, map, take}
use Rattle.cite_schema.specs.Queries.{index_of}
use Rattle.subset_query.proofs.normal_form.placed_order.Given as goal

abbrev pub invariant-loop-along : goal.invariant-loop-along
invariant-loop-along l = l.placed ≡ map (λ a. record { column = index_of l.columns a.column; down = a.down }) (take l.along-index l.order)
