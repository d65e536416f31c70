use Rattle.std.proofs.Common.{◌≡◌, ◌∙◌, ◌+◌, ◌<◌, ◌≤◌, ◌++◌, ℕ, List, [], get_or, take, ap, sym, subst, length, None, arith}
use Rattle.std.proofs.lemmas.List.{take_all, get_or_read}
use Rattle.cite_http.specs.Messages.{Rest, Gives, Messages, whole}
use Rattle.cite_http.specs.Pieces.{Stands, joined}
use Rattle.cite_http.specs.declared.message.Message.{Message}
use Rattle.cite_http.proofs.Steps.{stands_start, stands_fed, nothing_given, all_given, joined_more}
use Rattle.cite_http.proofs.pieces.read_pieces.Goals as goal

pub loop-piece-init : goal.loop-piece-init
loop-piece-init c =
    let P : Rest → Type 0 = λ r. Stands [] c.new-given.result r in
    let Q : List Message → Type 0 = λ l. Stands [] l (whole []) in
    let G : Rest → Type 0 = λ r. Gives r None r in
    record { stands = subst P (sym c.in_ok-reader.ensures) (subst Q (sym c.new-given.ensures) stands_start); none = subst G (sym c.in_ok-reader.ensures) nothing_given }

pub loop-piece-preserved : goal.loop-piece-preserved
loop-piece-preserved c =
    let before : List ℕ = joined (take c.loop-piece.piece-index c.args.pieces.now) in
    let lt : c.loop-piece.piece-index < length c.args.pieces.now = omega arith in
    let item : get_or c.args.pieces.now c.loop-piece.piece-index [] ≡ c.as_slice.result.now =
    sym (get_or_read c.args.pieces.now c.loop-piece.piece-index c.piece-item.result lt c.piece-item.is []) ∙ sym c.as_slice.ensures in
    let e : before ++ c.as_slice.result.now ≡ joined (take (c.loop-piece.piece-index + 1) c.args.pieces.now) =
    sym (joined_more c.args.pieces.now c.loop-piece.piece-index lt ∙ ap (λ t. before ++ t) item) in
    let R : Rest → Type 0 = λ r. Stands (before ++ c.as_slice.result.now) c.loop-piece.given r in
    let B : List ℕ → Type 0 = λ b. Stands b c.take_whole.new.given c.take_whole.new.reader in
    record {
      stands = subst B e (c.in_ok-take_whole.ensures.stands (before ++ c.as_slice.result.now)
          (subst R (sym c.in_ok-feed.ensures.ok) (stands_fed before c.as_slice.result.now c.loop-piece.given c.loop-piece.reader c.loop-piece.invariant.stands)));
      none = c.in_ok-take_whole.ensures.none;
    }

pub returns : goal.returns
returns c =
    let le : length c.args.pieces.now ≤ c.loop-piece.piece-index = omega arith in
    let P : List (List ℕ) → Type 0 = λ ps. Messages (whole (joined ps)) c.loop-piece.given c.loop-piece.reader in
    (c.loop-piece.reader, subst P (take_all c.loop-piece.piece-index c.args.pieces.now le) (all_given _ _ _ c.loop-piece.invariant.stands c.loop-piece.invariant.none))
