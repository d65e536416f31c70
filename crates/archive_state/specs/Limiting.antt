-- The limits that an entry would pass.
use Rattle.std.specs.Prelude.{ℕ, List, Option, option_map, nat_lt}
use Rattle.std.specs.List.{find}
use Rattle.archive_model.specs.Limits.{Counted, KeptRows, Versions, Citations, Weight, JournalBytes, limit, limit_number}

-- how much is counted
abbrev pub amount : (versions kept weight citations journal : ℕ) → Counted → ℕ
amount versions kept weight citations journal KeptRows = kept
amount versions kept weight citations journal Versions = versions
amount versions kept weight citations journal Citations = citations
amount versions kept weight citations journal Weight = weight
amount versions kept weight citations journal JournalBytes = journal

-- the number of the first of some counts that is over its limit
abbrev pub passed : (Counted → ℕ) → List Counted → Option ℕ
passed amounts counts = option_map limit_number (find (λ c. nat_lt (limit c) (amounts c)) counts)
