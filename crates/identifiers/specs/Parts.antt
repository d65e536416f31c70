-- What the parts of `read` hand on to each other. Clauses of private functions alone cite it.
use Rattle.std.specs.Prelude.{◌≡◌, ℕ, ◌≤◌, List, Option, MatchOption, decimal, length, take}
use Rattle.identifiers.specs.declared.named.Named.{Named}
use Rattle.identifiers.specs.Names.{IsNumbered, IsSameText}

-- what is read of a text by the texts of what may be named
abbrev pub IsReadBy : (Named → List ℕ) → List ℕ → Option Named → Type 0
IsReadBy text_of text read = MatchOption read ((named : Named) → IsNumbered named → IsSameText (text_of named) text → ⊥) (λ named. IsNumbered named × IsSameText (text_of named) text)

-- the text begins with a front, whatever its case
abbrev pub BeginsWith : List ℕ → List ℕ → Type 0
BeginsWith front text = IsSameText front (take (length front) text)

-- the digits are those of a citation's number
abbrev pub IsNumber : List ℕ → ℕ → Type 0
IsNumber digits number = (1 ≤ number) × (number ≤ 4294967295) × (decimal number ≡ digits)
