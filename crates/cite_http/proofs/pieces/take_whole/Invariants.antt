use Rattle.std.proofs.Common.{List, ℕ, length}
use Rattle.cite_http.specs.Pieces.{Stands}
use Rattle.cite_http.proofs.pieces.take_whole.Given as goal

abbrev pub invariant-loop-message : goal.invariant-loop-message
invariant-loop-message l = (bytes : List ℕ) → Stands bytes l.initial.given l.initial.reader → Stands bytes l.given l.reader

abbrev pub decreases-loop-message : goal.decreases-loop-message
decreases-loop-message l = length l.reader.bytes
