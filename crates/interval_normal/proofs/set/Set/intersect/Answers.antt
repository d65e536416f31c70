use Rattle.std.proofs.Common.{◌&&◌, sym, ap, subst, ◌∙◌}
use Rattle.interval_normal.specs.Cross.{cross}
use Rattle.interval_normal.specs.Spans.{has, IsCanonical}
use Rattle.interval_normal.proofs.Order.{IsLine}
use Rattle.interval_normal.proofs.Crossing.{cross_canonical, has_cross}
use Rattle.interval_normal.proofs.set.Set.intersect.Goals as goal

pub invariant_of-result : goal.invariant_of-result
invariant_of-result g c =
    let p = g.P.Point in
    let met = g.met.P.Point in
    let line : IsLine p.cmp = record { total = met.total; exact = met.exact } in
    let is = c.in_ok-spans.ensures ∙ ap (λ l. cross p.cmp l c.as_slice-2.result.now) c.as_slice.ensures ∙ ap (cross p.cmp c.self.inside.spans) c.as_slice-2.ensures in
    subst (λ l. IsCanonical p.valid p.cmp l) (sym is) (cross_canonical p.valid p.cmp line _ _ c.self.invariant c.other.invariant)

pub returns : goal.returns
returns g c =
    let p = g.P.Point in
    let met = g.met.P.Point in
    let line : IsLine p.cmp = record { total = met.total; exact = met.exact } in
    let is = c.in_ok-spans.ensures ∙ ap (λ l. cross p.cmp l c.as_slice-2.result.now) c.as_slice.ensures ∙ ap (cross p.cmp c.self.inside.spans) c.as_slice-2.ensures in
    λ x v. ap (λ l. has p.cmp l x) is ∙ has_cross p.valid p.cmp line c.self.inside.spans c.other.inside.spans x ∙ ap (λ l. has p.cmp l x && has p.cmp c.other.inside.spans x) c.self.view_is ∙ ap (λ l. has p.cmp c.args.self.now x && has p.cmp l x) c.other.view_is
