use Rattle.std.specs.Ordering.{is_eq}
use Rattle.cite_schema.specs.Values.{value_cmp}
use Rattle.subset_query.proofs.LoopEnds.{any_at_end}
use Rattle.subset_query.proofs.column_set.points_among.Goals as goal

pub returns : goal.returns
returns g c = λ x. any_at_end (λ v. is_eq (value_cmp (g.P.KindPoint.cell x) v)) _ _ c.args.values.now c.loop-value.value-index c.loop-value-test.false (c.loop-value.invariant x)
