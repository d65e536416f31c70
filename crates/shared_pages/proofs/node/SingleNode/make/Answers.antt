use Rattle.std.proofs.Common.{sym, subst}
use Rattle.shared_pages.specs.Nodes.{Adds}
use Rattle.shared_pages.specs.Singles.{single_item, IsSingle}
use Rattle.shared_pages.proofs.Editing.{edited-none}
use Rattle.shared_pages.proofs.node.SingleNode.make.Goals as goal

pub returns : goal.returns
returns g c = subst (Adds single_item IsSingle c.args.out.now.items c.put_all.new.out.items) (sym (edited-none g.T.Item.cmp g.met.T.Item.total c.args.edits.now c.requires)) c.in_ok-put_all.ensures
