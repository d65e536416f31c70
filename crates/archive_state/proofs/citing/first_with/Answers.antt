use Rattle.std.proofs.Common.{◌≡◌, true, false, get_or, arith, below_more, sym, ◌∙◌}
use Rattle.archive_state.specs.Citations.{Gave}
use Rattle.archive_state.proofs.FirstMinted.{first_candidate, no_candidate}
use Rattle.archive_state.proofs.citing.first_with.Goals as goal

pub returns-then-branch : goal.returns-then-branch
returns-then-branch c = λ history a leads shows.
    first_candidate a c.store.result.now c.args.seen.now.store c.args.form.now c.args.bytes.now c.fingerprint.result c.in_ok-numbers.numbers c.as_slice-number-items.result.now shows.parts.same c.store.ensures c.fingerprint.ensures c.in_ok-numbers.ensures
    c.as_slice-number-items.ensures c.loop-number.number-index (omega arith) ((c.in_ok-gave.ensures history a leads shows).0 c.if-branch.true) (c.loop-number.invariant history a leads shows)

pub loop-number-preserved : goal.loop-number-preserved
loop-number-preserved c = λ history a leads shows.
    below_more (λ k. Gave a (get_or c.as_slice-number-items.result.now k 0) c.args.bytes.now → ⊥) c.loop-number.number-index (c.loop-number.invariant history a leads shows)
    (λ gave. let yes : c.in_ok-gave.field-0 ≡ true = (c.in_ok-gave.ensures history a leads shows).1 gave in
    let clash : true ≡ false = sym yes ∙ c.if-branch.false in absurd (cc))

pub returns : goal.returns
returns c = λ history a leads shows.
    no_candidate a c.store.result.now c.args.seen.now.store c.args.form.now c.args.bytes.now c.fingerprint.result c.in_ok-numbers.numbers c.as_slice-number-items.result.now shows.parts.same c.store.ensures c.fingerprint.ensures c.in_ok-numbers.ensures
    c.as_slice-number-items.ensures (λ k lt. c.loop-number.invariant history a leads shows k (omega arith))
