-- What the parts of `apply` hand on: the kept row of a key that no version ended, and the edits that a line asks for.
use Rattle.std.specs.Prelude.{◌≡◌, ⊤, slice_get, ℕ, ◌+◌, cond, ◌&&◌, List, [], ◌∷◌, ◌++◌, Option, Some, None, nat_lt}
use Rattle.std.specs.List.{flat_map}
use Rattle.std.specs.Option.{is_none}
use Rattle.std.specs.Ordering.{is_eq}
use Rattle.std.specs.declared.cmp.Ordering.{Ordering}
use Rattle.cite_schema.specs.Tables.{key_cmp}
use Rattle.cite_schema.specs.declared.line.Line.{Line}
use Rattle.cite_schema.specs.declared.line.Line.TheVariants.{Put, Change, Remove}
use Rattle.cite_schema.specs.declared.value.Value.{Value}
use Rattle.shared_pages.specs.declared.edit.Edit.{Edit}
use Rattle.shared_pages.specs.declared.edit.Edit.TheVariants.{Put as put}
use Rattle.versioned_rows.specs.declared.rows.KeptRow.{KeptRow}
use Rattle.versioned_rows.specs.declared.fault.MapFault.{MapFault}
use Rattle.versioned_rows.specs.declared.fault.MapFault.TheVariants as maps
use Rattle.versioned_rows.specs.declared.fault.ApplyFault.{ApplyFault}
use Rattle.versioned_rows.specs.declared.fault.ApplyFault.TheVariants.{KeyTaken, KeyMissing}

-- a row with the key of a line
abbrev pub line_row : Line → List Value
line_row (Put r) = r
line_row (Change r) = r
line_row (Remove v) = v ∷ []

-- the kept row with the key of a row that no version ended
abbrev pub open_at : (List Value → List Value → Ordering) → List Value → List KeptRow → Option KeptRow
open_at key r [] = None
open_at key r (k ∷ ks) = cond (is_none k.until && is_eq (key k.row r)) (Some k) (open_at key r ks)

-- a kept row, if it has the key of a row and no version ended it
abbrev pub tested : (List Value → List Value → Ordering) → List Value → Option KeptRow → Option KeptRow
tested key r None = None
tested key r (Some k) = cond (is_none k.until && is_eq (key k.row r)) (Some k) None

-- a kept row, ended by a version
abbrev pub closed : ℕ → KeptRow → KeptRow
closed version k = record k { until = Some version }

-- a row that a version brings
abbrev pub born : ℕ → List Value → KeptRow
born version r = record { row = r; from = version; until = None }

-- the end of a kept row, if there is one
abbrev pub close : ℕ → Option KeptRow → List (Edit KeptRow)
close version None = []
close version (Some k) = put (closed version k) ∷ []

-- what a line asks for, by the row of its key that no version ended
abbrev pub edits_of : ℕ → Line → Option KeptRow → List (Edit KeptRow)
edits_of version (Put r) found = put (born version r) ∷ []
edits_of version (Change r) found = close version found ++ put (born version r) ∷ []
edits_of version (Remove v) found = close version found

-- the fault of line n, by the row of its key that no version ended
abbrev pub fault_by : ℕ → Line → Option KeptRow → Option ApplyFault
fault_by n (Put r) None = None
fault_by n (Put r) (Some k) = Some (KeyTaken n)
fault_by n (Change r) None = Some (KeyMissing n)
fault_by n (Change r) (Some k) = None
fault_by n (Remove v) None = Some (KeyMissing n)
fault_by n (Remove v) (Some k) = None

-- the first of two faults
abbrev pub or_later : Option ApplyFault → Option ApplyFault → Option ApplyFault
or_later (Some f) g = Some f
or_later None g = g

-- the first fault of lines, of which the first is line n
abbrev pub first_by : (Line → Option KeptRow) → ℕ → List Line → Option ApplyFault
first_by found n [] = None
first_by found n (l ∷ ls) = or_later (fault_by n l (found l)) (first_by found (n + 1) ls)

-- the kept row of a line's key that no version ended
abbrev pub finds : List KeptRow → Line → Option KeptRow
finds kept l = open_at key_cmp (line_row l) kept

-- what lines ask for
abbrev pub asked : ℕ → List KeptRow → List Line → List (Edit KeptRow)
asked version kept lines = flat_map (λ l. edits_of version l (finds kept l)) lines

-- how many rows a line adds to the table
abbrev pub puts : Line → ℕ
puts (Put r) = 1
puts (Change r) = 0
puts (Remove v) = 0

-- how many rows lines add
abbrev pub all_puts : List Line → ℕ
all_puts [] = 0
all_puts (l ∷ ls) = puts l + all_puts ls

-- how many rows a line takes away
abbrev pub removes : Line → ℕ
removes (Put r) = 0
removes (Change r) = 0
removes (Remove v) = 1

-- how many rows lines take away
abbrev pub all_removes : List Line → ℕ
all_removes [] = 0
all_removes (l ∷ ls) = removes l + all_removes ls

-- the first of a row that was lost, if one was, and of one that is lost behind it: the one that came in the lower version
abbrev pub earlier : Option KeptRow → KeptRow → Option KeptRow
earlier None k = Some k
earlier (Some j) k = cond (nat_lt k.from j.from) (Some k) (Some j)

-- want of memory, or the version and the key of a row that was lost
abbrev pub TellsKey : KeptRow → MapFault → Type 0
TellsKey lost maps.NoMemory = ⊤
TellsKey lost (maps.Overflow version key) = (version ≡ lost.from) × (slice_get lost.row 0 ≡ Some key)
