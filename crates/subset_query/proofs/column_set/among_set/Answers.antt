use Rattle.std.proofs.Common.{◌∙◌, ap, List}
use Rattle.std.specs.List.{list_any}
use Rattle.std.specs.Ordering.{is_eq}
use Rattle.subset_query.proofs.column_set.among_set.Goals as goal

pub returns : goal.returns
returns g c = λ x v.
    c.in_ok-set.ensures x v
    ∙ ap (λ (ps : List g.row.P.Denot). list_any (λ p. is_eq (g.P.Point.cmp x p)) ps) c.as_slice.ensures
    ∙ c.in_ok-points.ensures x
