use Rattle.std.proofs.Common.{ap, sym, ◌∙◌, arith}
use Rattle.interval_normal.specs.Ends.{farther, reaches}
use Rattle.interval_normal.proofs.Order.{IsLine}
use Rattle.std.proofs.lemmas.List.{nil_from_length}
use Rattle.interval_normal.proofs.Joining.{widened, put_behind, put_first}
use Rattle.interval_normal.proofs.merge.join_last.Goals as goal
use Rattle.interval_normal.proofs.merge.join_last.Goals.{in-Some+then-reaches, in-Some+else-reaches+in_ok-push, in_default}

pub returns : goal.returns
returns g c =
    let p = g.P.Point in
    let met = g.met.P.Point in
    let line : IsLine p.cmp = record { total = met.total; exact = met.exact } in
    let low = c.in_ok-copy.ensures.same in
    let high = c.in_ok-copied.ensures in
    c.in_ok-push-2.ensures ∙ elim c.match-pop.branch [
      | in-Some+then-reaches w ↦ widened p.valid p.cmp line c.args.out.now.items c.pop.new.self.items c.match-pop.out.items c.pop.result w.in-Some.last c.args.span.now c.match-pop.next
          c.pop.ensures.items w.in-Some.is (ap (λ v. v.items) w.out-is)
          (w.next-is ∙ ap (λ h. record { low = w.in-Some.last.low; high = h }) (w.farther_of-high.ensures ∙ ap (farther p.cmp w.in-Some.last.high) high))
          (ap (reaches p.cmp w.in-Some.last.high) (sym low) ∙ sym w.reaches.ensures ∙ w.if-reaches.true)
      | in-Some+else-reaches+in_ok-push w ↦ put_behind p.valid p.cmp line c.args.out.now.items c.pop.new.self.items c.match-pop.out.items c.pop.result w.in-Some.last c.args.span.now c.match-pop.next
          c.pop.ensures.items w.in-Some.is (ap (λ v. v.items) w.out-is ∙ w.in_ok-push.ensures)
          (w.next-is ∙ (λ i. record { low = low i; high = high i }))
          (ap (reaches p.cmp w.in-Some.last.high) (sym low) ∙ sym w.reaches.ensures ∙ w.if-reaches.false)
      | in_default w ↦ put_first p.valid p.cmp line c.args.out.now.items c.match-pop.out.items c.args.span.now c.match-pop.next
          (nil_from_length c.args.out.now.items (omega (arith, w.in_default.ensures.cases.0))) (ap (λ v. v.items) w.out-is ∙ nil_from_length c.pop.new.self.items (omega (arith, w.in_default.ensures.cases.1))) (w.next-is ∙ (λ i. record { low = low i; high = high i }))
    ]
