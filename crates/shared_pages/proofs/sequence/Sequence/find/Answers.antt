use Rattle.std.proofs.Common.{◌≡◌, cond, None, Some, sym, ap, ◌∙◌, subst}
use Rattle.std.specs.List.Sorted.{IsStrictlySortedBy}
use Rattle.std.specs.Ordering.{is_eq}
use Rattle.shared_pages.proofs.Finding.{if_equal, found_last}
use Rattle.shared_pages.proofs.sequence.Sequence.find.Goals as goal

pub returns-in-None : goal.returns-in-None
returns-in-None g c =
    ap (if_equal g.T.Item.cmp c.args.probe.now) c.in-None.ensures
    ∙ sym (found_last g.T.Item.cmp g.met.T.Item.total c.args.probe.now c.args.self.now (subst (IsStrictlySortedBy g.T.Item.cmp) c.self.view_is c.self.invariant.sorted))

pub returns-then-is_eq : goal.returns-then-is_eq
returns-then-is_eq g c =
    ap (λ b. cond b (Some c.in-Some.item.now) None) (c.if-is_eq.ensures ∙ ap is_eq c.compare.ensures)
    ∙ ap (if_equal g.T.Item.cmp c.args.probe.now) c.in-Some.ensures
    ∙ sym (found_last g.T.Item.cmp g.met.T.Item.total c.args.probe.now c.args.self.now (subst (IsStrictlySortedBy g.T.Item.cmp) c.self.view_is c.self.invariant.sorted))

pub returns-else-is_eq : goal.returns-else-is_eq
returns-else-is_eq g c =
    ap (λ b. cond b (Some c.in-Some.item.now) None) (c.if-is_eq.ensures ∙ ap is_eq c.compare.ensures)
    ∙ ap (if_equal g.T.Item.cmp c.args.probe.now) c.in-Some.ensures
    ∙ sym (found_last g.T.Item.cmp g.met.T.Item.total c.args.probe.now c.args.self.now (subst (IsStrictlySortedBy g.T.Item.cmp) c.self.view_is c.self.invariant.sorted))
