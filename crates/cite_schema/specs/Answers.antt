-- What a query or a form asks of a table, the one answer, the bytes that it gives, and when two ask alike.
use Rattle.std.specs.Prelude.{◌≡◌, ◌↔◌, ℕ, Bool, IsTrue, cond, List, [], ◌∷◌, slice_get, IsPermutation, filter}
use Rattle.std.specs.declared.cmp.Ordering.{Ordering}
use Rattle.std.specs.Ordering.{is_lt, ordering_then, ordering_reverse}
use Rattle.cite_schema.specs.Tables.{cell_cmp, key_cmp, rises, is_table}
use Rattle.cite_schema.specs.Layout.{laid_out}
use Rattle.cite_schema.specs.declared.value.Value.{Value}
use Rattle.cite_schema.specs.declared.schema.Column.{Column}
use Rattle.cite_schema.specs.declared.item.Item.{Item}
use Rattle.cite_schema.specs.declared.item.Dir.{Dir}

-- what is asked of a table: which rows, in which order, and what of each
pub record Plan : Type 0 where
  pub keeps : List Value → Bool
  pub order : List Dir
  pub items : List Item

-- the order of rows: by the order columns in turn, each in its direction, and then by the key
abbrev pub order_cmp : List Dir → List Value → List Value → Ordering
order_cmp [] r t = key_cmp r t
order_cmp (d ∷ ds) r t =
    let o = cell_cmp (slice_get r d.column) (slice_get t d.column) in
    ordering_then (cond d.down (ordering_reverse o) o) (order_cmp ds r t)

-- the one rearrangement of the kept rows in which of each two neighbours the first comes before the second
pub record IsAnswer (p : Plan) (table rows : List (List Value)) : Type 0 where
  pub same : IsPermutation (filter p.keeps table) rows
  pub in_order : IsTrue (rises (λ r t. is_lt (order_cmp p.order r t)) rows)

-- these bytes are the answer on the table, laid out
pub record Gives (p : Plan) (table : List (List Value)) (b : List ℕ) : Type 0 where
  pub rows : List (List Value)
  pub answer : IsAnswer p table rows
  pub bytes : b ≡ laid_out p.items rows

-- the two give the same bytes on every table of the columns
abbrev pub Alike : List Column → Plan → Plan → Type 0
Alike columns p q = (table : List (List Value)) → IsTrue (is_table columns table) → (b : List ℕ) → (Gives p table b ↔ Gives q table b)

-- on every table the plan gives some bytes
abbrev pub AlwaysGives : Type 0
AlwaysGives = (columns : List Column) (p : Plan) (table : List (List Value)) → IsTrue (is_table columns table) → (b : List ℕ) × Gives p table b

-- on every table the plan gives no two different texts
abbrev pub GivesOnce : Type 0
GivesOnce = (columns : List Column) (p : Plan) (table : List (List Value)) → IsTrue (is_table columns table) → (b c : List ℕ) → Gives p table b → Gives p table c → b ≡ c
