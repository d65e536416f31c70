-- The tables of versions, row by row.
use Rattle.std.proofs.Common.{◌≡◌, ℕ, Bool, true, false, cond, ◌&&◌, nat_le, List, [], ◌∷◌, ◌++◌, map, filter, refl, ap}
use Rattle.std.specs.List.{flat_map}
use Rattle.cite_schema.specs.declared.value.Value.{Value}
use Rattle.versioned_rows.specs.declared.rows.KeptRow.{KeptRow}
use Rattle.versioned_rows.specs.Histories.{ends_after, is_in_version}

-- the row, if it is in the table of a version
abbrev pub shown : ℕ → KeptRow → List (List Value)
shown version k = cond (nat_le k.from version && ends_after k.until version) (k.row ∷ []) []

-- the table of a version
abbrev pub table_of : ℕ → List KeptRow → List (List Value)
table_of version kept = flat_map (shown version) kept

-- it is the table that is meant
pub as_of_is : (version : ℕ) (kept : List KeptRow) → map (λ (k : KeptRow). k.row) (filter (is_in_version version) kept) ≡ table_of version kept
as_of_is version [] = refl
as_of_is version (k ∷ ks) = by (nat_le k.from version && ends_after k.until version) (as_of_is version ks)
  where
    by : (b : Bool) → map (λ (k : KeptRow). k.row) (filter (is_in_version version) ks) ≡ table_of version ks
        → map (λ (k : KeptRow). k.row) (cond b (k ∷ filter (is_in_version version) ks) (filter (is_in_version version) ks)) ≡ cond b (k.row ∷ []) [] ++ table_of version ks
    by true more = ap (λ l. k.row ∷ l) more
    by false more = more
