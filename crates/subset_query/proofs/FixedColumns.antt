-- Columns whose set has one value alone: each row of the sets has it there.
use Rattle.std.proofs.Common.{◌≡◌, ℕ, zero, suc, ◌<◌, true, false, List, [], ◌∷◌, Option, Some, None, length, slice_get, map, refl, sym, ap, ◌∙◌, arith}
use Rattle.std.specs.List.{AllByRecursion}
use Rattle.cite_schema.specs.declared.value.Kind.{Kind}
use Rattle.cite_schema.specs.declared.value.Value.{Value}
use Rattle.cite_schema.specs.declared.schema.Column as schema_column
use Rattle.cite_schema.specs.declared.item.Item.{Item}
use Rattle.cite_schema.specs.declared.item.Shown.{Shown}
use Rattle.cite_schema.specs.declared.item.Shown.TheVariants.{Column, Constant}
use Rattle.cite_schema.specs.Layout.{shown, printed_cell, cells, labels}
use Rattle.subset_query.specs.declared.form.ColumnSet.{ColumnSet}
use Rattle.subset_query.specs.Forms.{HasTwo, IsMany, IsShownOf, IsShownIn, AreShownIn}
use Rattle.subset_query.specs.Settling.{IsOne, fixed_at, shown_fixed, settled_shown, settled_item}
use Rattle.cite_schema.proofs.Rising.{and_first, and_second}
use Rattle.subset_query.proofs.Sets.{IsRow}

-- the one value of the set, or none where it has two
abbrev pub IsOnly : Kind → ColumnSet → Option Value → Type 0
IsOnly k s None = HasTwo k s
IsOnly k s (Some v) = IsOne k s v

-- that of each column
abbrev pub AreOnly : List schema_column.Column → List ColumnSet → List (Option Value) → Type 0
AreOnly [] [] [] = Unit {0}
AreOnly (c ∷ cs) (s ∷ ss) (o ∷ os) = IsOnly c.kind s o × AreOnly cs ss os
AreOnly _ _ _ = ⊥

-- a row of the sets has the value there
pub fixed_cell : (cs : List schema_column.Column) (ss : List ColumnSet) (only : List (Option Value)) → AreOnly cs ss only → (r : List Value) → IsRow cs ss r
    → (i : ℕ) (v : Value) → fixed_at only i ≡ Some v → slice_get r i ≡ Some v
fixed_cell [] [] [] h r row i v e = cc
fixed_cell [] [] (o ∷ os) h r row i v e = absurd h
fixed_cell [] (s ∷ ss) os h r row i v e = absurd h
fixed_cell (c ∷ cs) [] os h r row i v e = absurd h
fixed_cell (c ∷ cs) (s ∷ ss) [] h r row i v e = absurd h
fixed_cell (c ∷ cs) (s ∷ ss) (o ∷ os) h [] row i v e = let no : false ≡ true = row.fitting in cc
fixed_cell (c ∷ cs) (s ∷ ss) (None ∷ os) h (x ∷ xs) row zero v e = cc
fixed_cell (c ∷ cs) (s ∷ ss) (Some u ∷ os) h (x ∷ xs) row zero v e = ap Some (h.0.alone x (and_first _ _ row.fitting) (and_first _ _ row.inside)) ∙ e
fixed_cell (c ∷ cs) (s ∷ ss) (o ∷ os) h (x ∷ xs) row (suc i) v e =
    fixed_cell cs ss os h.1 xs (record { fitting = and_second _ _ row.fitting; inside = and_second _ _ row.inside }) i v e

-- a column that is fixed to no value has two
pub free_many : (cs : List schema_column.Column) (ss : List ColumnSet) (only : List (Option Value)) → AreOnly cs ss only → (i : ℕ) → i < length cs → fixed_at only i ≡ None → IsMany cs ss i
free_many [] ss only h i lt e = absurd (omega arith)
free_many (c ∷ cs) [] only h i lt e = absurd h
free_many (c ∷ cs) (s ∷ ss) [] h i lt e = absurd h
free_many (c ∷ cs) (s ∷ ss) (None ∷ os) h zero lt e = h.0
free_many (c ∷ cs) (s ∷ ss) (Some v ∷ os) h zero lt e = cc
free_many (c ∷ cs) (s ∷ ss) (o ∷ os) h (suc i) lt e = free_many cs ss os h.1 i (omega arith) e

-- a column that is fixed to a value has no second one
pub fixed_few : (cs : List schema_column.Column) (ss : List ColumnSet) (only : List (Option Value)) → AreOnly cs ss only → (i : ℕ) (v : Value) → fixed_at only i ≡ Some v → IsMany cs ss i → ⊥
fixed_few [] ss only h i v e m = m
fixed_few (c ∷ cs) [] only h i v e m = h
fixed_few (c ∷ cs) (s ∷ ss) [] h i v e m = h
fixed_few (c ∷ cs) (s ∷ ss) (None ∷ os) h zero v e m = cc
fixed_few (c ∷ cs) (s ∷ ss) (Some u ∷ os) h zero v e m =
    m.differ (h.0.alone m.one (and_first _ _ m.one_in) (and_second _ _ m.one_in) ∙ sym (h.0.alone m.other (and_first _ _ m.other_in) (and_second _ _ m.other_in)))
fixed_few (c ∷ cs) (s ∷ ss) (o ∷ os) h (suc i) v e m = fixed_few cs ss os h.1 i v e m

pub settled_labels : (only : List (Option Value)) (items : List Item) → labels (map (settled_item only) items) ≡ labels items
settled_labels only [] = refl
settled_labels only (i ∷ is) = ap (λ l. i.label ∷ l) (settled_labels only is)

module _ (cs : List schema_column.Column) (ss : List ColumnSet) (only : List (Option Value)) (fixed : AreOnly cs ss only) where
  same_shown : (what : Shown) (r : List Value) → IsRow cs ss r → shown (settled_shown only what) r ≡ shown what r
  same_shown (Constant bs) r row = refl
  same_shown (Column i) r row = by (fixed_at only i) refl
    where
      by : (o : Option Value) → fixed_at only i ≡ o → shown (shown_fixed o (Column i)) r ≡ printed_cell (slice_get r i)
      by None e = refl
      by (Some v) e = sym (ap printed_cell (fixed_cell cs ss only fixed r row i v e))

  pub same_cells : (items : List Item) (r : List Value) → IsRow cs ss r → cells (map (settled_item only) items) r ≡ cells items r
  same_cells [] r row = refl
  same_cells (i ∷ is) r row = ap (λ c. c ∷ cells (map (settled_item only) is) r) (same_shown i.what r row) ∙ ap (λ l. shown i.what r ∷ l) (same_cells is r row)

  settled_many : (what : Shown) → IsShownIn cs what → IsShownOf cs ss (settled_shown only what)
  settled_many (Constant bs) h = tt
  settled_many (Column i) h = by (fixed_at only i) refl
    where
      by : (o : Option Value) → fixed_at only i ≡ o → IsShownOf cs ss (shown_fixed o (Column i))
      by None e = free_many cs ss only fixed i h e
      by (Some v) e = tt

  pub all_many : (items : List Item) → AreShownIn cs items → AllByRecursion (λ (i : Item). IsShownOf cs ss i.what) (map (settled_item only) items)
  all_many [] h = tt
  all_many (i ∷ is) h = (settled_many i.what h.0, all_many is h.1)
