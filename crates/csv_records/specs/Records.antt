-- The records that csv reads of a text.
use Rattle.std.specs.Prelude.{◌≡◌, ◌+◌, ℕ, Bool, true, false, List, [], ◌∷◌, Option, Some, length, unwrap_or}
use Rattle.std.specs.Borrow.{Bor}
use Rattle.csv.specs.Machine.{ends_at_end}
use Rattle.csv.specs.Reading.{records, records_from, default_config, strip_bom, source_of, is_flexible, Ready}
use Rattle.csv.specs.declared.parser.State.{State}
use Rattle.csv.specs.declared.reader.Reader.{Reader}
use Rattle.csv.specs.declared.reader.Trim.TheVariants as trimming

-- the records of a text, after a byte order mark where it begins with one
abbrev pub records_of : List ℕ → List (List (List ℕ))
records_of text = records default_config (strip_bom text)

-- the records that some bytes give to a reader in this state
abbrev pub rest_of : State → List ℕ → List (List (List ℕ))
rest_of state bytes = records_from default_config (length bytes + 1) state bytes

-- the bytes that a reader over a slice has left
abbrev pub bytes_left : Reader (Bor (List ℕ)) → Option (List ℕ)
bytes_left reader = source_of (λ slice. Some slice.now) reader

-- the records that the reader has left
abbrev pub left_of : Reader (Bor (List ℕ)) → List (List (List ℕ))
left_of reader = rest_of reader.state (unwrap_or (bytes_left reader) [])

-- the reader stands between two records, takes records of any widths, and trims nothing
pub record IsReading (reader : Reader (Bor (List ℕ))) : Type 0 where
  pub plain : reader.trim ≡ trimming.None
  pub flexible : is_flexible reader ≡ true
  pub config : reader.config ≡ default_config
  pub ready : Ready reader
  pub between : ends_at_end reader.state ≡ false
  pub bytes : List ℕ
  pub known : bytes_left reader ≡ Some bytes

-- one record was taken off those that were left, or none was left
abbrev pub Reads : Bool → List (List ℕ) → List (List (List ℕ)) → List (List (List ℕ)) → Type 0
Reads true fields old new = old ≡ fields ∷ new
Reads false fields old new = old ≡ []
