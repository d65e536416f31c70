use Rattle.std.proofs.Common.{◌≡◌, List, true, sym, ◌∙◌, ap, subst}
use Rattle.std.specs.List.Sorted.{IsStrictlySortedBy}
use Rattle.std.specs.Ordering.{is_lt}
use Rattle.std.proofs.lemmas.Cmp.{on_total}
use Rattle.cite_schema.specs.Tables.{rises}
use Rattle.cite_schema.specs.declared.item.Dir.{Dir}
use Rattle.cite_schema.proofs.Rising.{sorted_from_rises}
use Rattle.stable_order.specs.Rows.{by_order}
use Rattle.shared_pages.specs.Edits.{place, by_place, places, edited}
use Rattle.shared_pages.proofs.AnyOrder.{edited-arranged}
use Rattle.shared_pages.proofs.sequence.Sequence.edit_in_any_order.Goals as goal

pub edit-requires : goal.edit-requires
edit-requires g c =
    let cmp = g.T.Item.cmp in
    let rising = subst (λ (order : List Dir). rises (λ d e. is_lt (by_order (places cmp) order d e)) c.in_ok-edits.edits ≡ true) c.new.ensures c.in_ok-edits.ensures.in_order in
    subst (IsStrictlySortedBy (by_place cmp)) (sym c.as_slice.ensures) (sorted_from_rises (by_place cmp) (on_total place g.met.T.Item.total) c.in_ok-edits.edits rising)

pub returns : goal.returns
returns g c =
    let cmp = g.T.Item.cmp in
    let rising = subst (λ (order : List Dir). rises (λ d e. is_lt (by_order (places cmp) order d e)) c.in_ok-edits.edits ≡ true) c.new.ensures c.in_ok-edits.ensures.in_order in
    c.in_ok-pages.ensures ∙ ap (edited cmp c.args.self.now) c.as_slice.ensures
    ∙ edited-arranged cmp g.met.T.Item.total c.args.self.now c.args.edits c.in_ok-edits.edits (subst (IsStrictlySortedBy cmp) c.self.view_is c.self.invariant.sorted) c.requires c.in_ok-edits.ensures.moved
    (sorted_from_rises (by_place cmp) (on_total place g.met.T.Item.total) c.in_ok-edits.edits rising)
