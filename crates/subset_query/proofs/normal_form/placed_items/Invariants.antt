use Rattle.std.proofs.Common.{◌≡◌, map, take}
use Rattle.cite_schema.specs.declared.item.Shown.TheVariants.{Column}
use Rattle.cite_schema.specs.Queries.{index_of}
use Rattle.subset_query.proofs.normal_form.placed_items.Given as goal

abbrev pub invariant-loop-item : goal.invariant-loop-item
invariant-loop-item l = l.placed ≡ map (λ a. record { label = a.label; what = Column (index_of l.columns a.column) }) (take l.item-index l.items)
