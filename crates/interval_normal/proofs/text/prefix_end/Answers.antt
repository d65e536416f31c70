use Rattle.std.proofs.Common.{◌++◌, ◌∷◌, [], ◌+◌, ◌-◌, Some, ap, sym, ◌∙◌, length, get_or}
use Rattle.interval_normal.proofs.Prefixes.{raised_last, dropped_last}
use Rattle.interval_normal.proofs.text.prefix_end.Goals as goal

pub returns-then-last-lt255 : goal.returns-then-last-lt255
returns-then-last-lt255 c =
    let front = c.loop-front.front.now in
    ap Some (c.in_ok-push.ensures.ok ∙ ap (λ l. l ++ ((get_or front (length front - 1) 0 + 1) ∷ [])) c.in_ok-end.ensures)
    ∙ sym (raised_last front c.in-len1-up.len_at_least c.if-last-lt255.true) ∙ c.loop-front.invariant

pub loop-front-preserved : goal.loop-front-preserved
loop-front-preserved c = sym (dropped_last c.loop-front.front.now c.in-len1-up.len_at_least c.if-last-lt255.false) ∙ c.loop-front.invariant
