use Rattle.std.proofs.Common.{sym, subst, ◌∙◌, Some}
use Rattle.interval_normal.specs.Spans.{IsNextOf}
use Rattle.interval_normal.proofs.Order.{IsLine, from_next_above}
use Rattle.interval_normal.proofs.set.Set.above.Goals as goal

pub returns-in_ok-set-in-Some : goal.returns-in_ok-set-in-Some
returns-in_ok-set-in-Some g c =
    let p = g.P.Point in
    let met = g.met.P.Point in
    let line : IsLine p.cmp = record { total = met.total; exact = met.exact } in
    let next : IsNextOf p.valid p.cmp c.args.p.now (Some c.in-Some.next) = subst (λ o. IsNextOf p.valid p.cmp c.args.p.now o) (sym c.in_ok-after.ensures ∙ c.in-Some.is) (met.next_is c.args.p.now c.compare-same.ensures.left) in
    λ x v. c.in_ok-set-in-Some.ensures x v ∙ from_next_above p.valid p.cmp line c.args.p.now c.in-Some.next x next v
