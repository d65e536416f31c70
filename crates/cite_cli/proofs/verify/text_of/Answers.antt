use Rattle.std.proofs.Common.{◌≡◌, ◌∙◌, arith, length}
use Rattle.cite_cli.proofs.Verifying.{text_begun, text_more, text_ended}
use Rattle.cite_cli.proofs.verify.text_of.Goals as goal

pub loop-place-init : goal.loop-place-init
loop-place-init c history a leads shows = text_begun c.args.seen.now a c.in_ok-text.text.items c.in_ok-text.ensures shows

pub loop-place-preserved : goal.loop-place-preserved
loop-place-preserved c history a leads shows =
    text_more a c.loop-place.place c.loop-place.text.items c.push_citation.new.text.items (c.loop-place.invariant history a leads shows) (c.in_ok-push_citation.ensures history a leads shows)

pub returns : goal.returns
returns c history a leads shows =
    let all : c.loop-place.place ≡ length c.args.seen.now.store = omega (arith, c.issued-place-end.ensures, c.loop-place-test.false, c.loop-place.auto.place-end) in
    text_ended c.args.seen.now a c.loop-place.place c.from_vec.result all shows (c.from_vec.ensures ∙ c.loop-place.invariant history a leads shows)
