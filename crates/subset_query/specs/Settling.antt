-- What settling makes of given parts, rule by rule. Clauses of private functions alone cite it.
use Rattle.std.specs.Prelude.{◌≡◌, ◌↔◌, ◌⊎◌, ⊤, IsTrue, ℕ, Bool, false, ◌||◌, cond, List, [], ◌∷◌, ◌++◌, Option, Some, None, is_some, slice_get, nat_eq}
use Rattle.std.specs.List.{list_any}
use Rattle.std.specs.Option.{option_and_then}
use Rattle.std.specs.Ordering.{int_cmp}
use Rattle.cite_schema.specs.declared.value.Kind.{Kind}
use Rattle.cite_schema.specs.declared.value.Kind.TheVariants as kinds
use Rattle.cite_schema.specs.declared.value.Value.{Value}
use Rattle.cite_schema.specs.declared.item.Item.{Item}
use Rattle.cite_schema.specs.declared.item.Dir.{Dir}
use Rattle.cite_schema.specs.declared.item.Shown.{Shown}
use Rattle.cite_schema.specs.declared.item.Shown.TheVariants.{Column, Constant}
use Rattle.cite_schema.specs.Values.{printed, is_number, is_text, text_cmp, is_value_of}
use Rattle.interval_normal.specs.Spans.{IsCanonical}
use Rattle.subset_query.specs.declared.form.ColumnSet.{ColumnSet}
use Rattle.subset_query.specs.declared.form.ColumnSet.TheVariants.{Ints, Texts}
use Rattle.subset_query.specs.Forms.{in_set, order_columns, names_all, ends_at_key}

-- the kind of a set's values
abbrev pub own_kind : ColumnSet → Kind
own_kind (Ints ss) = kinds.Int
own_kind (Texts ss) = kinds.Text

-- the intervals of the set are canonical
abbrev pub IsCanonicalSet : ColumnSet → Type 0
IsCanonicalSet (Ints ss) = IsCanonical (λ z. IsTrue (is_number z)) int_cmp ss
IsCanonicalSet (Texts ss) = IsCanonical (λ t. IsTrue (is_text t)) text_cmp ss

-- the set has no interval
abbrev pub HoldsNone : ColumnSet → Type 0
HoldsNone (Ints ss) = ss ≡ []
HoldsNone (Texts ss) = ss ≡ []

-- the value is the only one of the kind in the set
pub record IsOne (k : Kind) (s : ColumnSet) (v : Value) : Type 0 where
  pub of_kind : IsTrue (is_value_of k v)
  pub inside : IsTrue (in_set s v)
  pub alone : (w : Value) → IsTrue (is_value_of k w) → IsTrue (in_set s w) → w ≡ v

-- the set is canonical and holds something, and this is its one value, if it has one alone
pub record Fixes (s : ColumnSet) (o : Option Value) : Type 0 where
  pub canonical : IsCanonicalSet s
  pub some_value : ¬ HoldsNone s
  pub one : (v : Value) → (o ≡ Some v) ↔ IsOne (own_kind s) s v

-- so for each of the sets
abbrev pub AreFixing : List ColumnSet → List (Option Value) → Type 0
AreFixing [] [] = ⊤
AreFixing (s ∷ ss) (o ∷ os) = Fixes s o × AreFixing ss os
AreFixing _ _ = ⊥

-- one of the sets holds nothing
abbrev pub HasNone : List ColumnSet → Type 0
HasNone [] = ⊥
HasNone (s ∷ ss) = HoldsNone s ⊎ HasNone ss

-- the one value of each set that has one alone, unless a set holds nothing
abbrev pub IsFixing : List ColumnSet → Option (List (Option Value)) → Type 0
IsFixing sets None = HasNone sets
IsFixing sets (Some fixed) = AreFixing sets fixed

-- the value that a column is fixed to, if it is fixed to one
abbrev pub fixed_at : List (Option Value) → ℕ → Option Value
fixed_at only i = option_and_then (λ o. o) (slice_get only i)

-- the column is fixed to one value
abbrev pub is_fixed : List (Option Value) → ℕ → Bool
is_fixed only i = is_some (fixed_at only i)

-- a fixed column is shown as the bytes of its value
abbrev pub shown_fixed : Option Value → Shown → Shown
shown_fixed None what = what
shown_fixed (Some v) what = Constant (printed v)

-- what an item shows, where a fixed column is a constant
abbrev pub settled_shown : List (Option Value) → Shown → Shown
settled_shown only (Column i) = shown_fixed (fixed_at only i) (Column i)
settled_shown only (Constant bs) = Constant bs

-- the item that shows this, under the label that it had
abbrev pub settled_item : List (Option Value) → Item → Item
settled_item only i = record { label = i.label; what = settled_shown only i.what }

-- the order by the key, rising
abbrev pub key : Dir
key = record { column = 0; down = false }

-- the order names the column
abbrev pub names : List Dir → ℕ → Bool
names order c = list_any (λ d. nat_eq d c) (order_columns order)

-- the order ends at the key, or names every printed column
abbrev pub is_enough : List ℕ → List Dir → Bool
is_enough printed order = ends_at_key order || names_all printed order

-- what is needed of an asked order behind the columns that stand already
abbrev pub needed : List (Option Value) → List ℕ → List Dir → List Dir → List Dir
needed only printed front [] = cond (is_enough printed front) front (front ++ (key ∷ []))
needed only printed front (d ∷ ds) = cond (is_enough printed front) front
    (cond (is_fixed only d.column || names front d.column) (needed only printed front ds) (needed only printed (front ++ (d ∷ [])) ds))

-- what is needed of an asked order
abbrev pub needed_order : List (Option Value) → List ℕ → List Dir → List Dir
needed_order only printed order = cond (is_fixed only 0) [] (needed only printed [] order)
