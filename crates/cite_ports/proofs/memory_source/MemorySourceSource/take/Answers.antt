use Rattle.std.proofs.Common.{arith, ◌∙◌, ◌≤◌, ℕ, length, drop, ap, sym}
use Rattle.std.proofs.lemmas.List.{take_rest, length-take-le}
use Rattle.cite_ports.proofs.Pieces.{piece_and_rest}
use Rattle.cite_ports.proofs.memory_source.MemorySourceSource.take.Goals as goal

pub returns-clause-gives : goal.returns-clause-gives
returns-clause-gives c =
    let bytes = c.self.inside.bytes.items in
    let given = c.self.inside.given in
    let n = c.min-count.result in
    let is_piece = rw (c.deref-2.ensures.value, take_rest) at c.copy_from_slice.ensures.after in
    let count = rw (c.deref-2.ensures.value, take_rest) at c.min-count.ensures in
    let is_within : n ≤ length (drop given bytes) = omega arith in
    let is_long = ap (length {A = ℕ}) is_piece ∙ length-take-le n (drop given bytes) is_within in
    sym (ap (λ s. s.rest) c.self.view_is) ∙ piece_and_rest bytes c.copy_from_slice.new.self (drop n c.args.into.now) given n is_piece is_long
