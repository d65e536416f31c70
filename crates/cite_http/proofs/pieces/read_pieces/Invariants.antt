use Rattle.std.proofs.Common.{take, None}
use Rattle.cite_http.specs.Pieces.{Stands, joined}
use Rattle.cite_http.specs.Messages.{Gives}
use Rattle.cite_http.proofs.pieces.read_pieces.Given as goal

abbrev pub invariant-loop-piece : goal.invariant-loop-piece
invariant-loop-piece l = record { stands : Stands (joined (take l.piece-index l.pieces)) l.given l.reader; none : Gives l.reader None l.reader }
