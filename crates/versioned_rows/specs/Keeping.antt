-- How kept rows stand, and what is always so of them.
use Rattle.std.specs.Prelude.{◌≡◌, ⊤, ℕ, ◌<◌, ◌≤◌, List, [], ◌∷◌, Option, Some, None, length, slice_get}
use Rattle.std.specs.Cmp.{IsTotalOrder}
use Rattle.std.specs.List.{AllByRecursion}
use Rattle.std.specs.List.Sorted.{IsStrictlySortedBy}
use Rattle.std.specs.Ordering.{nat_cmp, ordering_then}
use Rattle.std.specs.declared.cmp.Ordering.{Ordering}
use Rattle.std.specs.declared.cmp.Ordering.TheVariants.{Less}
use Rattle.std.proofs.lemmas.Cmp.{nat_cmp_total, on_total, then_total}
use Rattle.cite_schema.specs.Tables.{key_cmp}
use Rattle.cite_schema.proofs.Orders.{key_total}
use Rattle.cite_schema.specs.declared.value.Value.{Value}
use Rattle.versioned_rows.specs.declared.rows.KeptRow.{KeptRow}
use Rattle.versioned_rows.specs.Histories.{RowHistory, rows_of, as_of, last_table}
use Rattle.versioned_rows.specs.ChangeLaws.{IsThere}
use Rattle.versioned_rows.specs.Weights.{rows_weight}

-- the order of kept rows: by an order of rows, and then by the version that brought them
abbrev pub kept_by : (List Value → List Value → Ordering) → KeptRow → KeptRow → Ordering
kept_by key a b = ordering_then (key a.row b.row) (nat_cmp a.from b.from)

-- the order of kept rows: by key, and then by the version that brought them
abbrev pub kept_cmp : KeptRow → KeptRow → Ordering
kept_cmp = kept_by key_cmp

-- it is total where the order of rows is
pub kept_by_total : (key : List Value → List Value → Ordering) → IsTotalOrder key → IsTotalOrder (kept_by key)
kept_by_total key total = then_total (on_total (λ (k : KeptRow). k.row) total) (on_total (λ (k : KeptRow). k.from) nat_cmp_total)

pub kept_total : IsTotalOrder kept_cmp
kept_total = kept_by_total _ key_total

-- the version that ended a row, if one did, came after the one that brought it, and is there
abbrev pub IsEndOf : Option ℕ → ℕ → ℕ → Type 0
IsEndOf None from last = ⊤
IsEndOf (Some until) from last = (from < until) × (until ≤ last)

-- the row has a key, one of the versions from 1 up to the last brought it, and none or a later one of them ended it
pub record WasThere (last : ℕ) (k : KeptRow) : Type 0 where
  pub key : IsThere (slice_get k.row 0)
  pub first : 1 ≤ k.from
  pub from : k.from ≤ last
  pub until : IsEndOf k.until k.from last

-- only rows with greater keys come behind a row that no version ended
abbrev pub IsSettled : (List Value → List Value → Ordering) → List KeptRow → Type 0
IsSettled key [] = ⊤
IsSettled key (k ∷ ks) = (k.until ≡ None → AllByRecursion (λ j. key k.row j.row ≡ Less) ks) × IsSettled key ks

-- the kept rows stand in their order, each was there, and in each table the keys rise
pub record IsHistory (h : RowHistory) : Type 0 where
  pub sorted : IsStrictlySortedBy kept_cmp h.kept
  pub there : AllByRecursion (WasThere h.last) h.kept
  pub settled : IsSettled key_cmp h.kept
  pub tables : (v : ℕ) → IsStrictlySortedBy key_cmp (as_of h v)

-- the same, with the number of rows of the last table and the weight of all rows
pub record IsRows (h : RowHistory) (alive weight : ℕ) : Type 0 where
  pub history : IsHistory h
  pub counted : alive ≡ length (last_table h)
  pub weighed : weight ≡ rows_weight (rows_of h)
