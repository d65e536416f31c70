-- Where the texts that begin with a prefix end.
use Rattle.std.specs.Prelude.{ℕ, ◌+◌, cond, nat_lt, List, [], ◌∷◌, Option, Some, None}

-- a byte before a raised text, or raised itself where no byte behind it could be
abbrev pub raised : ℕ → Option (List ℕ) → Option (List ℕ)
raised b (Some e) = Some (b ∷ e)
raised b None = cond (nat_lt b 255) (Some ((b + 1) ∷ [])) None

-- the text without its trailing bytes 255, its last remaining byte raised by one, if one remains
abbrev pub prefix_end : List ℕ → Option (List ℕ)
prefix_end [] = None
prefix_end (b ∷ bs) = raised b (prefix_end bs)
