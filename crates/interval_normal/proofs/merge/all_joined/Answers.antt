use Rattle.std.proofs.Common.{◌≡◌, ap, subst, sym, ◌∙◌, drop, arith, rules}
use Rattle.interval_normal.specs.Joined.{join_all}
use Rattle.interval_normal.proofs.Order.{IsLine}
use Rattle.interval_normal.proofs.Places.{whole_rest}
use Rattle.interval_normal.proofs.Joining.{Joins, step_left, step_right, left_done, right_done}
use Rattle.interval_normal.proofs.merge.all_joined.Goals as goal
use Rattle.interval_normal.proofs.merge.all_joined.Goals.{then-loop-i-test+else-j-right, else-loop-i-test}

pub loop-i-preserved-then-is_lt : goal.loop-i-preserved-then-is_lt
loop-i-preserved-then-is_lt g c =
    let p = g.P.Point in
    let met = g.met.P.Point in
    let line : IsLine p.cmp = record { total = met.total; exact = met.exact } in
    record {
      left_within = omega arith;
      right_within = c.loop-i.invariant.right_within;
      merges = step_left p.valid p.cmp line c.args.left.now c.args.right.now c.loop-i.out.items c.join_last.new.out.items c.loop-i.i c.loop-i.j c.index-left-i.result c.index-right-j.result
          c.loop-i-test.true c.index-left-i.is c.if-j-right.true c.index-right-j.is (search rules) c.in_ok-join_last.ensures c.loop-i.invariant.merges;
    }

pub loop-i-preserved : goal.loop-i-preserved
loop-i-preserved g c =
    let p = g.P.Point in
    let met = g.met.P.Point in
    let line : IsLine p.cmp = record { total = met.total; exact = met.exact } in
    record {
      left_within = c.loop-i.invariant.left_within;
      right_within = omega arith;
      merges = step_right p.valid p.cmp line c.args.left.now c.args.right.now c.loop-i.out.items c.join_last-else-is_lt.new.out.items c.loop-i.i c.loop-i.j c.index-left-i.result c.index-right-j.result
          c.loop-i-test.true c.index-left-i.is c.if-j-right.true c.index-right-j.is (search rules) c.in_ok-join_last-2.ensures c.loop-i.invariant.merges;
    }

-- the written list joins the two
done : (g : _) (c : goal.After-from_vec g) → Joins g.P.Point.valid g.P.Point.cmp c.from_vec.result c.args.left.now c.args.right.now
done g c =
    let p = g.P.Point in
    let met = g.met.P.Point in
    let line : IsLine p.cmp = record { total = met.total; exact = met.exact } in
    let left = c.args.left.now in
    let right = c.args.right.now in
    let is : c.from_vec.result ≡ join_all p.cmp (join_all p.cmp c.loop-i.out.items (drop c.loop-i.i left)) (drop c.loop-i.j right) =
    c.from_vec.ensures ∙ c.in_ok-join_all-2.ensures ∙ ap (join_all p.cmp c.join_all.new.out.items) (whole_rest right c.loop-i.j)
    ∙ ap (λ l. join_all p.cmp l (drop c.loop-i.j right)) (c.in_ok-join_all.ensures ∙ ap (join_all p.cmp c.loop-i.out.items) (whole_rest left c.loop-i.i)) in
    subst (λ l. Joins p.valid p.cmp l left right) (sym is) (elim c.loop-i-test.branch [
      | then-loop-i-test+else-j-right w ↦ right_done p.valid p.cmp line left right c.loop-i.out.items c.loop-i.i c.loop-i.j w.if-j-right.false c.loop-i.invariant.merges
      | else-loop-i-test w ↦ left_done p.valid p.cmp line left right c.loop-i.out.items c.loop-i.i c.loop-i.j w.loop-i-test.false c.loop-i.invariant.merges
    ])

pub returns-clause-canonical : goal.returns-clause-canonical
returns-clause-canonical g c = (done g c).canonical

pub returns-clause-values : goal.returns-clause-values
returns-clause-values g c = (done g c).values
