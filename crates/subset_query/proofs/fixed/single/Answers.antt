use Rattle.std.proofs.Common.{◌≡◌, ◌↔◌, Some, sym, subst}
use Rattle.cite_schema.specs.declared.value.Value.{Value as Cell}
use Rattle.subset_query.specs.declared.form.ColumnSet.{ColumnSet}
use Rattle.subset_query.specs.Settling.{own_kind, IsOne}
use Rattle.subset_query.proofs.fixed.single.Goals as goal

pub returns-in_ok-number-in-Ints : goal.returns-in_ok-number-in-Ints
returns-in_ok-number-in-Ints c =
    subst (λ (s : ColumnSet). (v : Cell) → (c.in_ok-number-in-Ints.number ≡ Some v) ↔ IsOne (own_kind s) s v) (sym c.in-Ints.is) c.in_ok-number-in-Ints.ensures

pub returns-in_ok-text-in-Texts : goal.returns-in_ok-text-in-Texts
returns-in_ok-text-in-Texts c =
    subst (λ (s : ColumnSet). (v : Cell) → (c.in_ok-text-in-Texts.text ≡ Some v) ↔ IsOne (own_kind s) s v) (sym c.in-Texts.is) c.in_ok-text-in-Texts.ensures
