use Rattle.std.proofs.Common.{◌≡◌, [], map, take}
use Rattle.cite_schema.specs.declared.item.Shown.TheVariants.{Constant}
use Rattle.subset_query.proofs.choose.empty_items.Given as goal

abbrev pub invariant-loop-label : goal.invariant-loop-label
invariant-loop-label l = l.items ≡ map (λ label. record { label = label; what = Constant [] }) (take l.label-index l.labels)
