use Rattle.shared_pages.proofs.Singles.{single_edited}
use Rattle.shared_pages.proofs.node.SingleNode.edit.Goals as goal

pub returns : goal.returns
returns g c =
    single_edited g.T.Item.cmp g.met.T.Item.total c.args.self.now.item c.args.edits.now c.count_before-before.result c.split_at.result.0.now c.split_at.result.1.now
    c.args.out.now.items c.put_all.new.out.items c.put_unless_edited.new.out.items c.put_all-2.new.out.items
    c.requires.rising c.count_before-before.ensures.within c.count_before-before.ensures.before c.count_before-before.ensures.behind
    c.split_at.ensures.front c.split_at.ensures.back c.in_ok-put_all.ensures c.in_ok-put_unless_edited.ensures c.in_ok-put_all-2.ensures
