-- Forms, what they ask of a table, and which are settled.
use Rattle.std.specs.Prelude.{◌≡◌, ◌≢◌, ℕ, ◌+◌, ◌<◌, ◌⊎◌, Bool, true, false, ◌&&◌, ◌↔◌, IsTrue, cond, List, [], ◌∷◌, ◌++◌, map, length, Option, None, slice_get, take, ⊤}
use Rattle.std.specs.Prelude as std
use Rattle.std.specs.List.{AllByRecursion, list_all, list_any}
use Rattle.std.specs.Ordering.{int_cmp}
use Rattle.cite_schema.specs.declared.value.Kind.{Kind}
use Rattle.cite_schema.specs.declared.value.Kind.TheVariants as kinds
use Rattle.cite_schema.specs.declared.value.Value.{Value}
use Rattle.cite_schema.specs.declared.value.Value.TheVariants.{Int, Text}
use Rattle.cite_schema.specs.declared.schema.Column as schema_column
use Rattle.cite_schema.specs.declared.item.Item.{Item}
use Rattle.cite_schema.specs.declared.item.Dir.{Dir}
use Rattle.cite_schema.specs.declared.item.Shown.{Shown}
use Rattle.cite_schema.specs.declared.item.Shown.TheVariants.{Column, Constant}
use Rattle.cite_schema.specs.Values.{text_cmp, is_number, is_text, is_value_of}
use Rattle.cite_schema.specs.Answers.{Plan}
use Rattle.interval_normal.specs.Spans.{has, IsCanonical}
use Rattle.subset_query.specs.declared.form.ColumnSet.{ColumnSet}
use Rattle.subset_query.specs.declared.form.ColumnSet.TheVariants.{Ints, Texts}
use Rattle.subset_query.specs.declared.form.Normal.{Normal}
use Rattle.subset_query.specs.declared.form.Normal.TheVariants.{Nothing, Some}

-- the value is in the set; a set of numbers holds no text, and a set of texts no number
abbrev pub in_set : ColumnSet → Value → Bool
in_set (Ints ss) (Int z) = has int_cmp ss z
in_set (Texts ss) (Text t) = has text_cmp ss t
in_set _ _ = false

-- each cell is in its column's set
abbrev pub in_sets : List ColumnSet → List Value → Bool
in_sets [] [] = true
in_sets (s ∷ ss) (v ∷ vs) = in_set s v && in_sets ss vs
in_sets _ _ = false

-- what a form asks of a table
abbrev pub formed : Normal → Plan
formed (Nothing labels) = record { keeps = λ r. false; order = []; items = map (λ l. record { label = l; what = Constant [] }) labels }
formed (Some sets items order) = record { keeps = λ r. in_sets sets r; order = order; items = items }

-- a set of numbers for a number column, a set of texts for a text column
abbrev pub is_set_for : Kind → ColumnSet → Bool
is_set_for kinds.Int (Ints ss) = true
is_set_for kinds.Text (Texts ss) = true
is_set_for _ _ = false

-- one set for each column, of its kind
abbrev pub are_sets_for : List schema_column.Column → List ColumnSet → Bool
are_sets_for [] [] = true
are_sets_for (c ∷ cs) (s ∷ ss) = is_set_for c.kind s && are_sets_for cs ss
are_sets_for _ _ = false

-- a canonical set of the kind's values, with a value at least
abbrev pub IsSetOf : Kind → ColumnSet → Type 0
IsSetOf kinds.Int (Ints ss) = IsCanonical (λ z. IsTrue (is_number z)) int_cmp ss × (ss ≢ [])
IsSetOf kinds.Text (Texts ss) = IsCanonical (λ t. IsTrue (is_text t)) text_cmp ss × (ss ≢ [])
IsSetOf _ _ = ⊥

-- one such set for each column
abbrev pub AreSetsOf : List schema_column.Column → List ColumnSet → Type 0
AreSetsOf [] [] = ⊤
AreSetsOf (c ∷ cs) (s ∷ ss) = IsSetOf c.kind s × AreSetsOf cs ss
AreSetsOf _ _ = ⊥

-- the set of the column has two values of the kind
pub record HasTwo (k : Kind) (s : ColumnSet) : Type 0 where
  pub one : Value
  pub other : Value
  pub differ : one ≢ other
  pub one_in : IsTrue (is_value_of k one && in_set s one)
  pub other_in : IsTrue (is_value_of k other && in_set s other)

-- both are there, and the set has two values of the column's kind
abbrev pub IsManyOf : Option schema_column.Column → Option ColumnSet → Type 0
IsManyOf (std.Some c) (std.Some s) = HasTwo c.kind s
IsManyOf _ _ = ⊥

-- the column exists, and has two values to show
abbrev pub IsMany : List schema_column.Column → List ColumnSet → ℕ → Type 0
IsMany cs ss i = IsManyOf (slice_get cs i) (slice_get ss i)

-- an item may show a constant, or a column with two values to show
abbrev pub IsShownOf : List schema_column.Column → List ColumnSet → Shown → Type 0
IsShownOf cs ss (Column i) = IsMany cs ss i
IsShownOf cs ss (Constant bs) = ⊤

-- the column that an item shows, if it shows one
abbrev pub columns_of : Shown → List ℕ
columns_of (Column c) = c ∷ []
columns_of (Constant bs) = []

-- the columns that are printed as columns
abbrev pub printed_columns : List Item → List ℕ
printed_columns [] = []
printed_columns (i ∷ is) = columns_of i.what ++ printed_columns is

-- the columns of an order
abbrev pub order_columns : List Dir → List ℕ
order_columns order = map (λ d. d.column) order

-- the order names every printed column
abbrev pub names_all : List ℕ → List Dir → Bool
names_all printed order = list_all (λ c. list_any (λ d. std.nat_eq d c) (order_columns order)) printed

-- the last column of the order is the key
abbrev pub ends_at_key : List Dir → Bool
ends_at_key [] = false
ends_at_key (d ∷ []) = std.nat_eq d.column 0
ends_at_key (d ∷ e ∷ es) = ends_at_key (e ∷ es)

-- d may follow the order columns of front: it has two values, it is none of them, none of them is the key, and some printed column is none of them
pub record IsNext (cs : List schema_column.Column) (ss : List ColumnSet) (printed : List ℕ) (front : List Dir) (d : Dir) : Type 0 where
  pub many : IsMany cs ss d.column
  pub new : AllByRecursion (λ (p : Dir). p.column ≢ d.column) front
  pub key_later : AllByRecursion (λ (p : Dir). p.column ≢ 0) front
  pub wanted : names_all printed front ≡ false

-- an order just long enough for the printed columns, and empty where one row at most is chosen or no column is printed
pub record IsOrderFor (cs : List schema_column.Column) (ss : List ColumnSet) (printed : List ℕ) (order : List Dir) : Type 0 where
  pub each : (front : List Dir) (d : Dir) (back : List Dir) → order ≡ front ++ (d ∷ back) → IsNext cs ss printed front d
  pub none : ((IsMany cs ss 0 → ⊥) ⊎ (printed ≡ [])) → order ≡ []
  pub enough : IsMany cs ss 0 → printed ≢ [] → IsTrue (std.◌||◌ (ends_at_key order) (names_all printed order))

-- the parts of a settled form: a set with a value for each column, some item, and none of the items and order columns could be left out
pub record IsForm (cs : List schema_column.Column) (sets : List ColumnSet) (items : List Item) (order : List Dir) : Type 0 where
  pub sets_fit : AreSetsOf cs sets
  pub some_item : items ≢ []
  pub items_many : AllByRecursion (λ (i : Item). IsShownOf cs sets i.what) items
  pub order_fits : IsOrderFor cs sets (printed_columns items) order

-- the form fits the schema and is settled
abbrev pub IsSettled : List schema_column.Column → Normal → Type 0
IsSettled s (Nothing labels) = labels ≢ []
IsSettled s (Some sets items order) = IsForm s sets items order

-- the item shows a constant, or one of the columns
abbrev pub IsShownIn : List schema_column.Column → Shown → Type 0
IsShownIn cs (Column i) = i < length cs
IsShownIn cs (Constant bs) = ⊤

-- each item does
abbrev pub AreShownIn : List schema_column.Column → List Item → Type 0
AreShownIn cs items = AllByRecursion (λ (i : Item). IsShownIn cs i.what) items

-- each order column is one of the columns
abbrev pub AreColumnsIn : List schema_column.Column → List Dir → Type 0
AreColumnsIn cs order = AllByRecursion (λ (d : Dir). d.column < length cs) order
