use Rattle.std.proofs.Common.{◌≡◌, ◌-◌, suc, ap, sym, ◌∙◌, rules, of_calls, arith, subst, ltb}
use Rattle.std.proofs.lemmas.Fn.{always_returns_same}
use Rattle.std.specs.Ordering.{is_ge}
use Rattle.interval_normal.specs.Spans.{has, IsCanonical, under}
use Rattle.interval_normal.proofs.Order.{IsLine}
use Rattle.interval_normal.proofs.Search.{AreStarted, AreLater, last_started, none_started, are_partitioned}
use Rattle.interval_normal.proofs.set.Set.has.Goals as goal

pub returns-then-started-gt0 : goal.returns-then-started-gt0
returns-then-started-gt0 g c =
    let p = g.P.Point in
    let met = g.met.P.Point in
    let line : IsLine p.cmp = record { total = met.total; exact = met.exact } in
    let x = c.args.p.now in
    let spans = c.as_slice-spans.result.now in
    let started = c.partition_point-started.result in
    let canonical : IsCanonical p.valid p.cmp spans = subst (λ l. IsCanonical p.valid p.cmp l) (sym c.as_slice-spans.ensures) c.self.invariant in
    let point = c.partition_point-started.ensures.partitioned (λ s. is_ge (p.cmp x s.low)) (always_returns_same _ _ _ (λ a r f k. search (rules, of_calls))) (are_partitioned p.valid p.cmp line spans x canonical) in
    let one : started ≡ suc (started - 1) = omega arith in
    c.is_under.ensures ∙ ap (λ s. under p.cmp s.high x) (sym c.index-spans-started.is)
    ∙ sym (last_started p.valid p.cmp line spans (started - 1) x c.index-spans-started.result canonical (omega arith) c.index-spans-started.is
    (subst (λ i. AreStarted p.valid p.cmp line x spans i) one point.0) (subst (λ i. AreLater p.valid p.cmp line x spans i) one point.1))
    ∙ ap (λ l. has p.cmp l x) (c.as_slice-spans.ensures ∙ c.self.view_is)

pub returns-else-started-gt0 : goal.returns-else-started-gt0
returns-else-started-gt0 g c =
    let p = g.P.Point in
    let met = g.met.P.Point in
    let line : IsLine p.cmp = record { total = met.total; exact = met.exact } in
    let x = c.args.p.now in
    let spans = c.as_slice-spans.result.now in
    let started = c.partition_point-started.result in
    let canonical : IsCanonical p.valid p.cmp spans = subst (λ l. IsCanonical p.valid p.cmp l) (sym c.as_slice-spans.ensures) c.self.invariant in
    let point = c.partition_point-started.ensures.partitioned (λ s. is_ge (p.cmp x s.low)) (always_returns_same _ _ _ (λ a r f k. search (rules, of_calls))) (are_partitioned p.valid p.cmp line spans x canonical) in
    let none : started ≡ 0 = omega arith in
    ap (λ n. ltb 0 n) none ∙ sym (none_started p.valid p.cmp line spans x (subst (λ i. AreLater p.valid p.cmp line x spans i) none point.1)) ∙ ap (λ l. has p.cmp l x) (c.as_slice-spans.ensures ∙ c.self.view_is)
