use Rattle.std.proofs.Common.{ap, subst, length, nat_eq, ◌∙◌}
use Rattle.interval_normal.specs.Spans.{IsCanonical}
use Rattle.interval_normal.proofs.Order.{IsLine}
use Rattle.interval_normal.proofs.Lone.{nothing_held}
use Rattle.interval_normal.proofs.set.Set.is_empty.Goals as goal

pub returns : goal.returns
returns g c =
    let p = g.P.Point in
    let met = g.met.P.Point in
    let line : IsLine p.cmp = record { total = met.total; exact = met.exact } in
    nothing_held p.valid p.cmp line c.args.self.now (subst (λ l. IsCanonical p.valid p.cmp l) c.self.view_is c.self.invariant) c.is_empty.result
    (c.is_empty.ensures ∙ ap (λ l. nat_eq (length l) 0) c.self.view_is)
