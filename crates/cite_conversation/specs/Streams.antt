-- What was taken of a source and put into a sink, where these tell their content.
use Rattle.std.specs.Prelude.{◌≡◌, ◌<◌, ℕ, List, [], Option, Some, None, length, take, ⊤}
use Rattle.std.specs.Io.KnownBytes.{Appends, Consumes}

-- these bytes were taken off the front
abbrev pub Taken : List ℕ → Option (List ℕ) → Option (List ℕ) → Type 0
Taken bytes old new = Consumes old new bytes

-- these bytes were left, and all of them were taken
abbrev pub AllTaken : List ℕ → Option (List ℕ) → Option (List ℕ) → Type 0
AllTaken bytes None new = ⊤
AllTaken bytes (Some left) new = (left ≡ bytes) × (new ≡ Some [])

-- these bytes were put behind what was there
abbrev pub Put : List ℕ → Option (List ℕ) → Option (List ℕ) → Type 0
Put bytes old new = Appends old new bytes

-- some of the bytes were put, and not all
abbrev pub PutsFront : List ℕ → Option (List ℕ) → Option (List ℕ) → Type 0
PutsFront bytes old new = (n : ℕ) × (n < length bytes) × Put (take n bytes) old new
