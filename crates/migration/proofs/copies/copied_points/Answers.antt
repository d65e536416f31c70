use Rattle.std.proofs.Common.{◌≡◌, Bool, true, false, ◌||◌, List, refl, ap, ◌∙◌}
use Rattle.interval_normal.specs.Spans.{has}
use Rattle.interval_normal.specs.declared.set.Span.{Span}
use Rattle.interval_normal.proofs.Order.{IsLine}
use Rattle.interval_normal.proofs.Unique.{unique}
use Rattle.migration.proofs.copies.copied_points.Goals as goal

or_false : (b : Bool) → (b || false) ≡ b
or_false true = refl
or_false false = refl

pub returns : goal.returns
returns g c =
    let p = g.P.Point in
    let met = g.met.P.Point in
    let line : IsLine p.cmp = record { total = met.total; exact = met.exact } in
    unique p.valid p.cmp line c.in_ok-copied.copied c.args.set.now c.spans-copied_spans.ensures.canonical c.spans-spans.ensures.canonical
    (λ x v. c.in_ok-copied.ensures x v ∙ ap (λ (l : List (Span g.row.P.Denot)). has p.cmp c.args.set.now x || has p.cmp l x) c.empty-none.ensures ∙ or_false (has p.cmp c.args.set.now x))
