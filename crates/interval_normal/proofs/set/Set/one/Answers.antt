use Rattle.std.proofs.Common.{◌≡◌, ◌∷◌, [], ◌++◌, ap, subst, sym, ◌∙◌}
use Rattle.interval_normal.specs.Spans.{has, IsNextOf}
use Rattle.interval_normal.proofs.Order.{IsLine}
use Rattle.interval_normal.proofs.Lone.{lone_has}
use Rattle.interval_normal.proofs.set.Set.one.Goals as goal

pub returns : goal.returns
returns g c =
    let p = g.P.Point in
    let met = g.met.P.Point in
    let line : IsLine p.cmp = record { total = met.total; exact = met.exact } in
    let next : IsNextOf p.valid p.cmp c.args.p.now c.in_ok-high.high = subst (λ o. IsNextOf p.valid p.cmp c.args.p.now o) (sym c.in_ok-high.ensures) (met.next_is c.args.p.now c.copy.ensures.value) in
    let list : c.push.new.self ≡ (record { low = c.args.p.now; high = c.in_ok-high.high } ∷ []) = c.in_ok-push.ensures.ok ∙ ap (λ l. l ++ (record { low = c.in_ok-low.low; high = c.in_ok-high.high } ∷ [])) c.new-spans.ensures ∙ ap (λ l. record { low = l; high = c.in_ok-high.high } ∷ []) c.in_ok-low.ensures.same in
    λ x v. ap (λ l. has p.cmp l x) list ∙ lone_has p.valid p.cmp line c.args.p.now c.in_ok-high.high x next v
