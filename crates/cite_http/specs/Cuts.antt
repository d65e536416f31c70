-- The parts of a text that may be there. Clauses of private functions alone cite it.
use Rattle.std.specs.Prelude.{ℕ, List, [], Option, Some, None}
use Rattle.std.specs.Borrow.{Bor}
use Rattle.cite_http.specs.Parts.{parts}

-- the parts round a byte of what is left of a text, or none where nothing is left
abbrev pub parts_left : ℕ → Option (Bor (List ℕ)) → List (List ℕ)
parts_left c None = []
parts_left c (Some text) = parts c text.now
