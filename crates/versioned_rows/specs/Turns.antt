-- What the parts of `map_rows` hand on: kept rows made of others, and the first of which nothing was made.
use Rattle.std.specs.Prelude.{◌≡◌, ◌⊎◌, ⊤, ℕ, ◌+◌, ◌-◌, ◌^◌, ◌≤◌, List, ◌∷◌, ◌++◌, Option, Some, None, Result, Ok, map, min, slice_get}
use Rattle.std.specs.List.{AllByRecursion, AllZip}
use Rattle.std.specs.declared.cmp.Ordering.TheVariants.{Equal}
use Rattle.cite_schema.specs.Tables.{key_cmp}
use Rattle.cite_schema.specs.declared.memory.NoMemory.{NoMemory}
use Rattle.cite_schema.specs.declared.value.Value.{Value}
use Rattle.versioned_rows.specs.declared.fault.MapFault.{MapFault}
use Rattle.versioned_rows.specs.declared.fault.MapFault.TheVariants as maps
use Rattle.versioned_rows.specs.declared.rows.KeptRow.{KeptRow}
use Rattle.versioned_rows.specs.ChangeLaws.{IsThere}
use Rattle.versioned_rows.specs.Nexts.{Turns, IsTurned}
use Rattle.versioned_rows.specs.Weights.{rows_weight}

module _ (returns : List Value → Result (Option (List Value)) NoMemory → Type 0) where
  -- what a call may make of a kept row: nothing, or a row with its versions
  abbrev pub Makes : KeptRow → Option KeptRow → Type 0
  Makes k None = returns k.row (Ok None)
  Makes k (Some j) = Turns returns k.row j.row × (j.from ≡ k.from) × (j.until ≡ k.until)

  -- a kept row was turned into another, which keeps its key and its versions
  pub record TurnsKept (k j : KeptRow) : Type 0 where
    pub row : Turns returns k.row j.row
    pub from : j.from ≡ k.from
    pub until : j.until ≡ k.until
    pub same : key_cmp k.row j.row ≡ Equal
    pub key : IsThere (slice_get j.row 0)

  -- a kept row was turned, or came no earlier than a version
  abbrev pub IsNoEarlier : ℕ → KeptRow → Type 0
  IsNoEarlier n j = IsTurned returns j.row ⊎ (n ≤ j.from)

  -- of those for which a call gave nothing, this one came first: in the lowest version, and there with the lowest key
  pub record IsLost (taken : List KeptRow) (k : KeptRow) : Type 0 where
    pub pre : List KeptRow
    pub post : List KeptRow
    pub is : taken ≡ pre ++ k ∷ post
    pub lost : returns k.row (Ok None)
    pub later : AllByRecursion (IsNoEarlier (k.from + 1)) pre
    pub no_earlier : AllByRecursion (IsNoEarlier k.from) post

  -- each row was turned, and this is the weight of all, or 2^64 − 1 where that is more
  abbrev pub IsAllTurned : List KeptRow → List KeptRow → ℕ → Type 0
  IsAllTurned kept new weight = AllZip TurnsKept kept new × (weight ≡ min (rows_weight (map (λ k. k.row) new)) (2 ^ 64 - 1))

  -- want of memory, or the version and the key of the row that came first of those for which a call gave nothing
  abbrev pub TellsLostOf : List KeptRow → MapFault → Type 0
  TellsLostOf kept maps.NoMemory = ⊤
  TellsLostOf kept (maps.Overflow version key) = (k : KeptRow) × IsLost kept k × (version ≡ k.from) × (slice_get k.row 0 ≡ Some key)
