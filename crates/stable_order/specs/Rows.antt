-- Rows that are compared at columns, and orders of columns.
use Rattle.std.specs.Prelude.{◌≢◌, ℕ, cond, List, [], ◌∷◌, ⊤, slice_get}
use Rattle.std.specs.List.{AllByRecursion}
use Rattle.std.specs.Cmp.{IsTotalOrder}
use Rattle.std.specs.declared.cmp.Ordering.{Ordering}
use Rattle.std.specs.declared.cmp.Ordering.TheVariants.{Equal}
use Rattle.std.specs.Ordering.{ordering_then, ordering_reverse}
use Rattle.cite_schema.specs.Tables.{cell_cmp}
use Rattle.cite_schema.specs.declared.value.Value.{Value}
use Rattle.cite_schema.specs.declared.item.Dir.{Dir}
use Rattle.cite_schema.proofs.Orders.{cell_total}
use Rattle.std.proofs.lemmas.Cmp.{on_total}

-- the order columns in turn, each in its direction, and then column 0
abbrev pub by_order : {X : Type 0} → (X → X → ℕ → Ordering) → List Dir → X → X → Ordering
by_order at [] r t = at r t 0
by_order at (d ∷ ds) r t = ordering_then (cond d.down (ordering_reverse (at r t d.column)) (at r t d.column)) (by_order at ds r t)

-- no two of the rows compare as equal in column 0
abbrev pub ToldApart : {X : Type 0} → (X → X → ℕ → Ordering) → List X → Type 0
ToldApart at [] = ⊤
ToldApart at (r ∷ rs) = AllByRecursion (λ t. at r t 0 ≢ Equal) rs × ToldApart at rs

-- rows of tables at a column: the order of their cells there
abbrev pub at_column : List Value → List Value → ℕ → Ordering
at_column r t c = cell_cmp (slice_get r c) (slice_get t c)

-- at each column the order of rows of tables is total
pub column_total : (c : ℕ) → IsTotalOrder (λ r t. at_column r t c)
column_total c = on_total (λ (r : List Value). slice_get r c) cell_total
