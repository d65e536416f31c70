use Rattle.std.proofs.Common.{◌≡◌, List, [], ◌∷◌, ◌++◌, refl, sym, ap, ◌∙◌, subst}
use Rattle.std.specs.List.Sorted.{IsStrictlySortedBy}
use Rattle.std.specs.Ordering.{nat_cmp}
use Rattle.std.proofs.lemmas.Cmp.{on_total, nat_cmp_total}
use Rattle.cite_schema.proofs.Rising.{sorted_from_rises}
use Rattle.shared_pages.specs.declared.tests.Tag.{Tag}
use Rattle.shared_pages.proofs.tests.items_are_taken_as_they_are.Goals as goal

-- an item alone stands in order
alone : (t : Tag) (ts : List Tag) → ts ≡ t ∷ [] → IsStrictlySortedBy (λ (a b : Tag). nat_cmp a.number b.number) ts
alone t ts e = subst (IsStrictlySortedBy (λ (a b : Tag). nat_cmp a.number b.number)) (sym e) (sorted_from_rises (λ (a b : Tag). nat_cmp a.number b.number) (on_total (λ (t : Tag). t.number) nat_cmp_total) (t ∷ []) refl)

pub of_items-requires : goal.of_items-requires
of_items-requires g c = alone c.numbered.result c.push.new.self.items (c.in_ok-push.ensures.items ∙ ap (λ l. l ++ c.numbered.result ∷ []) c.new-items.ensures.items)
