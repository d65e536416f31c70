-- The parts of a text round a byte.
use Rattle.std.specs.Prelude.{ℕ, ◌==◌, List, [], ◌∷◌, if◌then◌else◌}

-- a byte more in front of the first part
abbrev pub grown : ℕ → List (List ℕ) → List (List ℕ)
grown b [] = (b ∷ []) ∷ []
grown b (w ∷ ws) = (b ∷ w) ∷ ws

-- what stands between the bytes c of a text: one part more than there are such bytes
abbrev pub parts : ℕ → List ℕ → List (List ℕ)
parts c [] = [] ∷ []
parts c (b ∷ rest) = if b == c then [] ∷ parts c rest else grown b (parts c rest)
