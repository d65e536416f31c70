use Rattle.std.proofs.Common.{◌≡◌, ◌&&◌, Some, None, ap, sym, ◌∙◌}
use Rattle.std.specs.Ordering.{is_ge}
use Rattle.cite_schema.specs.Values.{text_cmp}
use Rattle.interval_normal.specs.Spans.{has}
use Rattle.interval_normal.specs.PrefixEnds.{prefix_end}
use Rattle.interval_normal.proofs.Prefixes.{no_end, some_end}
use Rattle.interval_normal.proofs.text.prefix_set.Goals as goal

pub returns-in-None : goal.returns-in-None
returns-in-None c =
    let e : prefix_end c.args.prefix.now ≡ None = ap prefix_end (sym c.bytes.ensures.value) ∙ sym c.in_ok-prefix_end.ensures ∙ c.in-None.is in
    λ x v. c.in_ok-from.ensures x v ∙ no_end c.args.prefix.now x v e

pub returns-in_ok-both-in-Some : goal.returns-in_ok-both-in-Some
returns-in_ok-both-in-Some c =
    let e : prefix_end c.args.prefix.now ≡ Some c.in-Some.end = ap prefix_end (sym c.bytes.ensures.value) ∙ sym c.in_ok-prefix_end.ensures ∙ c.in-Some.is in
    λ x v. c.in_ok-both-in-Some.ensures x v ∙ ap (λ b. b && has text_cmp c.in_ok-below-in-Some.below x) (c.in_ok-from.ensures x v)
    ∙ ap (λ b. is_ge (text_cmp x c.args.prefix.now) && b) (c.in_ok-below-in-Some.ensures x v) ∙ some_end c.args.prefix.now x c.in-Some.end v e
