use Rattle.std.proofs.Common.{length, sym, ap, ◌∙◌, subst}
use Rattle.std.specs.List.{flat_map}
use Rattle.std.specs.List.Sorted.{IsStrictlySortedBy}
use Rattle.shared_pages.specs.Sequences.{trunk_items}
use Rattle.shared_pages.proofs.Editing.{edited_sorted}
use Rattle.shared_pages.proofs.sequence.Sequence.edit.Goals as goal

pub invariant_of-result : goal.invariant_of-result
invariant_of-result g c =
    let before = subst (λ l. IsStrictlySortedBy g.T.Item.cmp (flat_map trunk_items l)) (sym c.as_slice.ensures.value) c.self.invariant.sorted in
    record {
      whole = c.in_ok-trunks.ensures.whole;
      sorted = subst (IsStrictlySortedBy g.T.Item.cmp) (sym c.in_ok-trunks.ensures.items) (edited_sorted g.T.Item.cmp g.met.T.Item.total _ c.args.edits.now before);
      counted = c.in_ok-count.ensures ∙ ap (λ l. length (flat_map trunk_items l)) c.as_slice-2.ensures.value;
    }
