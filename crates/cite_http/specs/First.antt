-- The first thing in a rest. Clauses of private functions alone cite it.
use Rattle.std.specs.Prelude.{◌≡◌, ℕ, ◌≤◌, List, length, drop}
use Rattle.cite_http.specs.Heads.{begun}
use Rattle.cite_http.specs.Reading.{Reads}
use Rattle.cite_http.specs.Offsets.{meant_by}
use Rattle.cite_http.specs.Waiting.{Searched, OnUnfinished, IsFar, LiesWithin}
use Rattle.cite_http.specs.declared.first.First.{First}

-- how many bytes of line ends stand in front of it, and what it is
pub record IsFirst (rest : List ℕ) (f : First) : Type 0 where
  pub within : f.skipped ≤ length rest
  pub front : drop f.skipped rest ≡ begun rest
  pub reads : Reads (drop f.skipped rest) (meant_by (drop f.skipped rest) f.found)
  pub searched : OnUnfinished f.found (Searched (drop f.skipped rest))
  pub far : OnUnfinished f.found (IsFar (length (drop f.skipped rest)))
  pub parts : LiesWithin (drop f.skipped rest) f.found
