-- When kept rows agree with an archive.
use Rattle.std.specs.Prelude.{◌≡◌, ◌≤◌, ℕ, Some, IsPermutation, map}
use Rattle.versioned_rows.specs.Histories.{RowHistory, rows_of, as_of}
use Rattle.archive_model.specs.Archives.{Archive, version_count, now_table, kept_rows}

-- the rows hold the present table of each version, and the kept rows
pub record AgreeRows (rows : RowHistory) (a : Archive) : Type 0 where
  pub last : rows.last ≡ version_count a
  pub tables : (n : ℕ) → 1 ≤ n → n ≤ version_count a → now_table a n ≡ Some (as_of rows n)
  pub kept : IsPermutation (kept_rows a) (map Some (rows_of rows))
