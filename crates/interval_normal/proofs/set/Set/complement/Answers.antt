use Rattle.std.proofs.Common.{not, Some, sym, ap, subst, ◌∙◌}
use Rattle.interval_normal.specs.Flip.{gaps}
use Rattle.interval_normal.specs.Spans.{has, IsCanonical}
use Rattle.interval_normal.proofs.Order.{IsLine}
use Rattle.interval_normal.proofs.Gaps.{complement_good, complement_has}
use Rattle.interval_normal.proofs.set.Set.complement.Goals as goal

pub invariant_of-result : goal.invariant_of-result
invariant_of-result g c =
    let p = g.P.Point in
    let met = g.met.P.Point in
    let line : IsLine p.cmp = record { total = met.total; exact = met.exact } in
    let is = c.in_ok-spans.ensures ∙ ap (gaps p.cmp (Some p.bottom)) c.as_slice.ensures in
    subst (λ l. IsCanonical p.valid p.cmp l) (sym is) (complement_good p.valid p.cmp line p.bottom met.bottom_valid met.from_bottom _ c.self.invariant)

pub returns : goal.returns
returns g c =
    let p = g.P.Point in
    let met = g.met.P.Point in
    let line : IsLine p.cmp = record { total = met.total; exact = met.exact } in
    let is = c.in_ok-spans.ensures ∙ ap (gaps p.cmp (Some p.bottom)) c.as_slice.ensures in
    λ x v. ap (λ l. has p.cmp l x) is ∙ complement_has p.valid p.cmp line p.bottom met.bottom_valid met.from_bottom _ c.self.invariant x v ∙ ap (λ l. not (has p.cmp l x)) c.self.view_is
