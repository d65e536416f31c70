-- Items that show the same in every row of the sets are the same.
use Rattle.std.proofs.Common.{◌≡◌, ◌≢◌, ℕ, Bool, true, false, List, [], ◌∷◌, map, refl, sym, ap, ◌∙◌, nat_eq, arith}
use Rattle.std.specs.List.{AllByRecursion}
use Rattle.std.proofs.lemmas.Bool.Decides.{nat_tests}
use Rattle.cite_schema.specs.declared.value.Value.{Value}
use Rattle.cite_schema.specs.declared.schema.Column as schema_column
use Rattle.cite_schema.specs.declared.item.Item.{Item}
use Rattle.cite_schema.specs.declared.item.Shown.{Shown}
use Rattle.cite_schema.specs.declared.item.Shown.TheVariants.{Column, Constant}
use Rattle.cite_schema.specs.Layout.{shown, printed_cell, cells}
use Rattle.subset_query.specs.declared.form.ColumnSet.{ColumnSet}
use Rattle.subset_query.specs.Forms.{AreSetsOf, IsMany, IsShownOf}
use Rattle.subset_query.proofs.Sets.{IsRow, some_row}
use Rattle.subset_query.proofs.Cells.{put, get-put_other, two_at}

pub num_yes : (a b : ℕ) → nat_eq a b ≡ true → a ≡ b
num_yes a b h = grind (arith, nat_tests)

pub num_no : (a b : ℕ) → nat_eq a b ≡ false → a ≢ b
num_no a b h e = grind (arith, nat_tests)

list_heads : {X : Type 0} (a b : X) (x y : List X) → a ∷ x ≡ b ∷ y → a ≡ b
list_heads a b x y e = cc

list_tails : {X : Type 0} (a b : X) (x y : List X) → a ∷ x ≡ b ∷ y → x ≡ y
list_tails a b x y e = cc

module _ (cs : List schema_column.Column) (ss : List ColumnSet) (ok : AreSetsOf cs ss) where
  base : List Value
  base = (some_row cs ss ok).0

  base_row : IsRow cs ss base
  unfolding base
  base_row = (some_row cs ss ok).1

  Agree : Shown → Shown → Type 0
  Agree a b = (r : List Value) → IsRow cs ss r → shown a r ≡ shown b r

  -- a column whose two values are shown alike by another item, contrary to what it shows
  clash : (i : ℕ) (b : Shown) → IsMany cs ss i → Agree (Column i) b → ((r : List Value) (v : Value) → IsRow cs ss r → shown b (put r i v) ≡ shown b r) → ⊥
  unfolding Agree
  clash i b m same still =
      let t = two_at cs ss i m in
      let one = sym (ap printed_cell (t.here base t.low base_row)) ∙ same (put base i t.low) (t.low_row base base_row) ∙ still base t.low base_row in
      let two = sym (ap printed_cell (t.here base t.high base_row)) ∙ same (put base i t.high) (t.high_row base base_row) ∙ still base t.high base_row in
      t.shown (one ∙ sym two)

  same_what : (a b : Shown) → IsShownOf cs ss a → IsShownOf cs ss b → Agree a b → a ≡ b
  unfolding Agree
  same_what (Constant x) (Constant y) h g same = ap Constant (same base base_row)
  same_what (Column i) (Constant y) h g same = absurd (clash i (Constant y) h same (λ r v w. refl))
  same_what (Constant x) (Column j) h g same = absurd (clash j (Constant x) g (λ r w. sym (same r w)) (λ r v w. refl))
  same_what (Column i) (Column j) h g same = by (nat_eq i j) refl
    where
      by : (b : Bool) → nat_eq i j ≡ b → Column i ≡ Column j
      by true e = ap Column (num_yes i j e)
      by false e = absurd (clash i (Column j) h same (λ r v w. ap printed_cell (get-put_other r i j v (num_no i j e))))

  pub same_items : (as' bs : List Item) → AllByRecursion (λ (i : Item). IsShownOf cs ss i.what) as' → AllByRecursion (λ (i : Item). IsShownOf cs ss i.what) bs
      → map (λ (i : Item). i.label) as' ≡ map (λ (i : Item). i.label) bs → ((r : List Value) → IsRow cs ss r → cells as' r ≡ cells bs r) → as' ≡ bs
  unfolding Agree
  same_items [] [] h g l same = refl
  same_items [] (b ∷ bs) h g l same = cc
  same_items (a ∷ as') [] h g l same = cc
  same_items (a ∷ as') (b ∷ bs) h g l same =
      let label : a.label ≡ b.label = list_heads _ _ _ _ l in
      let what : a.what ≡ b.what = same_what a.what b.what h.0 g.0 (λ r w. list_heads _ _ _ _ (same r w)) in
      let one : a ≡ b = λ i. record { label = label i; what = what i } in
      let more : as' ≡ bs = same_items as' bs h.1 g.1 (list_tails _ _ _ _ l) (λ r w. list_tails _ _ _ _ (same r w)) in
      λ i. one i ∷ more i
