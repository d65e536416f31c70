-- What a call of a source, a sink or a clock does. The content is `None` where it is not told, and then nothing is said of
-- it, as std says nothing of it at its own readers and writers.
use Rattle.std.specs.Prelude.{◌≡◌, ◌≤◌, ◌+◌, ◌-◌, ◌^◌, ◌↔◌, ℕ, List, [], ◌∷◌, Option, Some, None, min, take, ⊤}
use Rattle.std.specs.Io.KnownBytes.{Appends, Consumes}

-- the number after this one, where a `u64` that counts stands still at its last value
abbrev pub next_count : ℕ → ℕ
next_count n = min (n + 1) (2 ^ 64 - 1)

-- a count of faults rose, or it stands at its last value
abbrev pub Rose : ℕ → ℕ → Type 0
Rose old new = next_count old ≤ new

-- what was left before is the first n bytes of `into`, and then what is left now
abbrev pub Gives : ℕ → List ℕ → Option (List ℕ) → Option (List ℕ) → Type 0
Gives n into old new = Consumes old new (take n into)

-- no byte comes exactly where none was left
abbrev pub EndsExactly : ℕ → Option (List ℕ) → Type 0
EndsExactly n None = ⊤
EndsExactly n (Some left) = (n ≡ 0) ↔ (left ≡ [])

-- what is written now is what was written before, and then this piece
abbrev pub Holds : List ℕ → Option (List ℕ) → Option (List ℕ) → Type 0
Holds piece old new = Appends old new piece

-- the moments given now are those given before, and then this one
abbrev pub Shows : ℕ → Option (List ℕ) → Option (List ℕ) → Type 0
Shows moment old new = Appends old new (moment ∷ [])
