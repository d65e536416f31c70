-- What is counted in an archive, and how much of each there may be.
use Rattle.std.specs.Prelude.{ℕ, List, Option, length, nat_lt}
use Rattle.std.specs.List.{find}
use Rattle.archive_model.specs.Archives.{Archive, version_count, kept_rows, weight_of}

-- what is counted
pub data Counted : Type 0 where
  KeptRows : Counted
  Versions : Counted
  Citations : Counted
  Weight : Counted
  JournalBytes : Counted

-- its number in a refusal
abbrev pub limit_number : Counted → ℕ
limit_number KeptRows = 1
limit_number Versions = 2
limit_number Citations = 3
limit_number Weight = 4
limit_number JournalBytes = 5

-- the most that there may be
abbrev pub limit : Counted → ℕ
limit KeptRows = 1000000
limit Versions = 200000
limit Citations = 100000
limit Weight = 1073741824
limit JournalBytes = 1073741824

-- how much there is
abbrev pub quantity : Archive → Counted → ℕ
quantity a KeptRows = length (kept_rows a)
quantity a Versions = version_count a
quantity a Citations = length a.minted
quantity a Weight = weight_of (kept_rows a)
quantity a JournalBytes = a.journal

-- the first of some counts that is over its limit
abbrev pub first_over : Archive → List Counted → Option Counted
first_over a counts = find (λ c. nat_lt (limit c) (quantity a c)) counts

-- the most bytes that a result may have
abbrev pub result_limit : ℕ
result_limit = 67108864

-- the first moment that is no stamp: the year 10000
abbrev pub clock_end : ℕ
clock_end = 253402300800
