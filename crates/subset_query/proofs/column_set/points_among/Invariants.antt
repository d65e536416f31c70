use Rattle.std.proofs.Common.{◌≡◌, ◌||◌, drop}
use Rattle.std.specs.List.{list_any}
use Rattle.std.specs.Ordering.{is_eq}
use Rattle.cite_schema.specs.Values.{value_cmp}
use Rattle.subset_query.proofs.column_set.points_among.Given as goal

abbrev pub invariant-loop-value : goal.invariant-loop-value
invariant-loop-value g l = (x : g.row.P.Denot) → (list_any (λ p. is_eq (g.P.Point.cmp x p)) l.points || list_any (λ v. is_eq (value_cmp (g.P.KindPoint.cell x) v)) (drop l.value-index l.values)) ≡ list_any (λ v. is_eq (value_cmp (g.P.KindPoint.cell x) v)) l.values
