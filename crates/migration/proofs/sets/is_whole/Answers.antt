use Rattle.interval_normal.proofs.Order.{IsLine}
use Rattle.subset_query.proofs.Wholes.{full-is_whole}
use Rattle.migration.proofs.sets.is_whole.Goals as goal

pub returns : goal.returns
returns g c =
    let p = g.P.Point in
    let met = g.met.P.Point in
    let line : IsLine p.cmp = record { total = met.total; exact = met.exact } in
    full-is_whole p.valid p.cmp line p.bottom met.bottom_valid met.from_bottom c.args.set.now c.spans-spans.ensures.canonical c.in_ok-full.full c.in_ok-full.ensures
