-- Kept rows, each with the version that brought it and the version that ended it, if one did.
use Rattle.std.specs.Prelude.{ℕ, zero, suc, Bool, true, ◌&&◌, List, Option, Some, None, option_map, map, filter, nat_lt, nat_le, slice_get, is_none}
use Rattle.std.specs.List.{find}
use Rattle.std.specs.Option.{option_and_then, option_or}
use Rattle.cite_schema.specs.declared.value.Value.{Value}
use Rattle.versioned_rows.specs.declared.rows.KeptRow.{KeptRow}

-- the kept rows, and the number of the last version
pub record RowHistory : Type 0 where
  pub last : ℕ
  pub kept : List KeptRow

-- the end, if there is one, comes after the version
abbrev pub ends_after : Option ℕ → ℕ → Bool
ends_after None v = true
ends_after (Some until) v = nat_lt v until

-- the row is in the table of a version
abbrev pub is_in_version : ℕ → KeptRow → Bool
is_in_version v k = nat_le k.from v && ends_after k.until v

-- the rows that are kept
abbrev pub rows_of : RowHistory → List (List Value)
rows_of h = map (λ k. k.row) h.kept

-- the table of a version
abbrev pub as_of : RowHistory → ℕ → List (List Value)
as_of h v = map (λ k. k.row) (filter (is_in_version v) h.kept)

-- the table of the last version
abbrev pub last_table : RowHistory → List (List Value)
last_table h = as_of h h.last

-- the first of the versions from 1 up to n for which there is something, and what there is
abbrev pub first_version : {A : Type 0} → ℕ → (ℕ → Option A) → Option (ℕ × A)
first_version zero found = None
first_version (suc n) found = option_or (first_version n found) (option_map (λ x. (suc n, x)) (found (suc n)))

-- the key of the first row of a table of which nothing comes
abbrev pub lost_key : (List Value → Option (List Value)) → List (List Value) → Option Value
lost_key rule table = option_and_then (λ r. slice_get r 0) (find (λ r. is_none (rule r)) table)
