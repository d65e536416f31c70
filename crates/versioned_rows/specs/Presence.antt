-- Where kept rows were.
use Rattle.std.specs.Prelude.{◌≤◌, ℕ, List}
use Rattle.std.specs.List.{Contains}
use Rattle.cite_schema.specs.declared.value.Value.{Value}
use Rattle.versioned_rows.specs.Histories.{RowHistory, as_of}

-- the row is in the table of one of the versions
pub record WasInTable (h : RowHistory) (row : List Value) : Type 0 where
  pub version : ℕ
  pub from : 1 ≤ version
  pub to : version ≤ h.last
  pub has : Contains (as_of h version) row
