-- A piece that is taken off the front of what is left.
use Rattle.std.proofs.Common.{◌≡◌, ℕ, ◌+◌, List, ◌++◌, length, take, drop, ap, sym, ◌∙◌}
use Rattle.std.proofs.Math.Seq.{take-append_seam}
use Rattle.std.proofs.lemmas.List.{take-append-drop, drop-drop}

-- what stands from `given` on is the piece that was copied to the front of a buffer, and then what is left behind it
pub piece_and_rest : (bytes copied behind : List ℕ) (given n : ℕ) → copied ≡ take n (drop given bytes) → length copied ≡ n → drop given bytes ≡ take n (copied ++ behind) ++ drop (given + n) bytes
piece_and_rest bytes copied behind given n is_piece is_long =
    let front : take n (copied ++ behind) ≡ copied = rw (← is_long) (take-append_seam copied behind) in
    let split : take n (drop given bytes) ++ drop (given + n) bytes ≡ drop given bytes = rw (← drop-drop n given bytes) (take-append-drop n (drop given bytes)) in
    sym (ap (λ f. f ++ drop (given + n) bytes) (front ∙ is_piece) ∙ split)
