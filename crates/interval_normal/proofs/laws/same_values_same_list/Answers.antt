use Rattle.interval_normal.proofs.Order.{IsLine}
use Rattle.interval_normal.proofs.Unique.{unique}
use Rattle.interval_normal.proofs.laws.same_values_same_list.Goals as goal

pub returns : goal.returns
returns g c =
    let p = g.P.Point in
    let met = g.met.P.Point in
    let line : IsLine p.cmp = record { total = met.total; exact = met.exact } in
    λ a b ca cb same. unique p.valid p.cmp line a b ca cb same
