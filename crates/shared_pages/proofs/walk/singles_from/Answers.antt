use Rattle.shared_pages.proofs.Probing.{from-singles}
use Rattle.shared_pages.proofs.walk.singles_from.Goals as goal

pub returns : goal.returns
returns g c =
    from-singles g.T.Item.cmp g.met.T.Item.total c.args.probe.now c.args.items.now c.split_at.result.1.now c.count_before.result c.requires c.split_at.ensures.back c.count_before.ensures.within c.count_before.ensures.before
    c.count_before.ensures.behind
