use Rattle.std.proofs.Common.{◌≡◌, ◌&&◌, ◌||◌, drop}
use Rattle.std.specs.List.{list_all, list_any}
use Rattle.cite_schema.specs.Conditions.{meets}
use Rattle.interval_normal.specs.Spans.{has}
use Rattle.subset_query.proofs.column_set.+meeting.Given as goal

abbrev pub invariant-common_set-loop-cond : goal.invariant-common_set-loop-cond
invariant-common_set-loop-cond g l = (x : g.row.P.Denot) → g.P.Point.valid x → (has g.P.Point.cmp l.common x && list_all (λ c. meets c (g.P.KindPoint.cell x)) (drop l.cond-index l.conds)) ≡ list_all (λ c. meets c (g.P.KindPoint.cell x)) l.conds

abbrev pub invariant-joined_set-loop-cond : goal.invariant-joined_set-loop-cond
invariant-joined_set-loop-cond g l = (x : g.row.P.Denot) → g.P.Point.valid x → (has g.P.Point.cmp l.joined x || list_any (λ c. meets c (g.P.KindPoint.cell x)) (drop l.cond-index l.conds)) ≡ list_any (λ c. meets c (g.P.KindPoint.cell x)) l.conds
