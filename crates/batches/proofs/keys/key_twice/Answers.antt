use Rattle.std.proofs.Common.{◌∙◌, sym, ap, refl, arith, Some}
use Rattle.std.proofs.lemmas.Option.{slice_get-get_or}
use Rattle.batches.proofs.LineKeys.{no_keys, keys_go_on, all_keys}
use Rattle.batches.proofs.keys.key_twice.Goals as goal

pub loop-i-init : goal.loop-i-init
loop-i-init c = no_keys c.new-keys.result c.args.lines.now (c.new-keys.ensures (λ t. t.now))

pub loop-i-preserved : goal.loop-i-preserved
loop-i-preserved c =
    let at = slice_get-get_or c.args.lines.now c.loop-i.i c.index-lines-i.result c.loop-i-test.true ∙ ap Some (sym c.index-lines-i.is) in
    keys_go_on c.loop-i.keys c.push_borrowed.new.self c.args.lines.now c.loop-i.i _ c.key_of.result.now at c.key_of.ensures c.loop-i.invariant c.in_ok-push_borrowed.ensures.ok

pub returns : goal.returns
returns c =
    let test = c.loop-i-test.false in
    let end = c.loop-i.auto.i-end in
    all_keys c.loop-i.keys c.args.lines.now c.loop-i.i c.first_again.result (omega (arith, test, end)) c.loop-i.invariant (c.first_again.ensures (λ t. t.now) c.loop-i.invariant.named (λ a b. refl) c.loop-i.invariant.held)
