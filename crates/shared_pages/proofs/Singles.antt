-- Single item after edits.
use Rattle.std.proofs.Common.{◌≡◌, ℕ, ◌≤◌, ◌<◌, ◌-◌, true, false, cond, Some, List, [], ◌∷◌, ◌++◌, length, slice_index_or, take, drop, sym, ap, ◌∙◌, subst}
use Rattle.std.specs.Cmp.{IsTotalOrder}
use Rattle.std.specs.List.{flat_map}
use Rattle.std.specs.List.Sorted.{IsStrictlySortedBy}
use Rattle.std.specs.declared.cmp.Ordering.{Ordering}
use Rattle.std.proofs.lemmas.List.{take-append-drop}
use Rattle.shared_pages.specs.declared.edit.Edit.{Edit}
use Rattle.shared_pages.specs.declared.node.Single.{Single}
use Rattle.shared_pages.specs.Edits.{place, given, by_place, edited}
use Rattle.shared_pages.specs.Nodes.{Adds}
use Rattle.shared_pages.specs.Singles.{single_item, IsSingle, starts_at}
use Rattle.shared_pages.specs.Search.{Answers}
use Rattle.shared_pages.proofs.Editing.{edited-none, edited-one}
use Rattle.shared_pages.proofs.Nodes.{adds_then}
use Rattle.shared_pages.proofs.Order.{sorted_left, sorted_right, Below, NotBelow, all_below, none_below}

module _ {T : Type 0} (cmp : T → T → Ordering) (total : IsTotalOrder cmp) where
  pub single_edited : (x : T) (es : List (Edit T)) (k : ℕ) (first last : List (Edit T)) (a b c d : List (Single T)) → IsStrictlySortedBy (by_place cmp) es → k ≤ length es
      → ((e : Edit T) → 0 < k → Answers cmp false true (Some (place (slice_index_or es (k - 1) e))) x)
      → ((e : Edit T) → k < length es → Answers cmp false false (Some (place (slice_index_or es k e))) x)
      → first ≡ take k es → last ≡ drop k es
      → Adds single_item IsSingle a b (flat_map given first) → Adds single_item IsSingle b c (cond (starts_at cmp last x) [] (x ∷ [])) → Adds single_item IsSingle c d (flat_map given last)
      → Adds single_item IsSingle a d (edited cmp (x ∷ []) es)
  single_edited x es k first last a b c d sorted within before behind f l h i j =
      let whole : first ++ last ≡ es = ap (λ w. w ++ last) f ∙ ap (λ w. take k es ++ w) l ∙ take-append-drop k es in
      let parts : IsStrictlySortedBy (by_place cmp) (first ++ last) = subst (IsStrictlySortedBy (by_place cmp)) (sym whole) sorted in
      let first_sorted = sorted_left (by_place cmp) first last parts in
      let last_sorted = sorted_right (by_place cmp) first last parts in
      let same : edited cmp (x ∷ []) es ≡ flat_map given first ++ (cond (starts_at cmp last x) [] (x ∷ []) ++ flat_map given last) =
      ap (edited cmp (x ∷ [])) (sym whole)
      ∙ edited-one cmp total x first last
      (subst (Below cmp total place x) (sym f) (all_below cmp total place es k x sorted within before))
      (subst (NotBelow cmp total place x) (sym l) (none_below cmp total place es k x sorted behind)) last_sorted
      ∙ ap (λ w. w ++ (cond (starts_at cmp last x) [] (x ∷ []) ++ edited cmp [] last)) (edited-none cmp total first first_sorted)
      ∙ ap (λ w. flat_map given first ++ (cond (starts_at cmp last x) [] (x ∷ []) ++ w)) (edited-none cmp total last last_sorted) in
      subst (Adds single_item IsSingle a d) (sym same) (adds_then single_item IsSingle a b d _ _ h (adds_then single_item IsSingle b c d _ _ i j))
