use Rattle.std.proofs.Common.{◌||◌, ◌/◌, ap, ◌∙◌, length, take}
use Rattle.std.specs.List.{list_any}
use Rattle.std.specs.Ordering.{is_eq}
use Rattle.interval_normal.specs.Spans.{has}
use Rattle.interval_normal.proofs.Places.{in_halves, whole_rest}
use Rattle.interval_normal.proofs.set.Set.+of_points.Goals as goal

pub returns-in_ok-both-in_default : goal.returns-in_ok-both-in_default
returns-in_ok-both-in_default g t c =
    let p = g.P.Point in
    let points = c.args.points.now in
    let half = length points / 2 in
    λ x v. c.in_ok-both-in_default.ensures x v ∙ ap (λ b. b || has p.cmp c.in_ok-right-in_default.right x) (c.in_ok-left-in_default.ensures x v)
    ∙ ap (λ b. list_any (λ q. is_eq (p.cmp x q)) (take half points) || b) (c.in_ok-right-in_default.ensures x v ∙ ap (list_any (λ q. is_eq (p.cmp x q))) (whole_rest points half))
    ∙ in_halves (λ q. is_eq (p.cmp x q)) points half
