use Rattle.std.proofs.Common.{sym, ◌∙◌}
use Rattle.interval_normal.specs.Cross.{cross}
use Rattle.interval_normal.proofs.Order.{IsLine}
use Rattle.interval_normal.proofs.Meeting.{step_first, step_second, left_done, right_done}
use Rattle.interval_normal.proofs.intersection.all_common.Goals as goal
use Rattle.interval_normal.proofs.intersection.all_common.Goals.{then-loop-i-test+else-j-right, else-loop-i-test}

pub loop-i-preserved-then-ends_before : goal.loop-i-preserved-then-ends_before
loop-i-preserved-then-ends_before g c =
    let p = g.P.Point in
    let met = g.met.P.Point in
    let line : IsLine p.cmp = record { total = met.total; exact = met.exact } in
    step_first p.valid p.cmp line c.args.left.now c.args.right.now c.loop-i.out c.write_piece.new.out (cross p.cmp c.args.left.now c.args.right.now) c.loop-i.i c.loop-i.j c.index-left-i.result c.index-right-j.result
    c.requires.left c.requires.right c.loop-i-test.true c.index-left-i.is c.if-j-right.true c.index-right-j.is (sym c.ends_before.ensures ∙ c.if-ends_before.true) c.in_ok-write_piece.ensures c.loop-i.invariant

pub loop-i-preserved : goal.loop-i-preserved
loop-i-preserved g c =
    let p = g.P.Point in
    let met = g.met.P.Point in
    let line : IsLine p.cmp = record { total = met.total; exact = met.exact } in
    step_second p.valid p.cmp line c.args.left.now c.args.right.now c.loop-i.out c.write_piece.new.out (cross p.cmp c.args.left.now c.args.right.now) c.loop-i.i c.loop-i.j c.index-left-i.result c.index-right-j.result
    c.requires.left c.requires.right c.loop-i-test.true c.index-left-i.is c.if-j-right.true c.index-right-j.is (sym c.ends_before.ensures ∙ c.if-ends_before.false) c.in_ok-write_piece.ensures c.loop-i.invariant

pub returns : goal.returns
returns g c =
    let p = g.P.Point in
    let met = g.met.P.Point in
    let line : IsLine p.cmp = record { total = met.total; exact = met.exact } in
    elim c.loop-i-test.branch [
      | then-loop-i-test+else-j-right w ↦ right_done p.valid p.cmp line c.args.left.now c.args.right.now c.loop-i.out (cross p.cmp c.args.left.now c.args.right.now) c.loop-i.i c.loop-i.j w.if-j-right.false c.loop-i.invariant
      | else-loop-i-test w ↦ left_done p.valid p.cmp line c.args.left.now c.args.right.now c.loop-i.out (cross p.cmp c.args.left.now c.args.right.now) c.loop-i.i c.loop-i.j w.loop-i-test.false c.loop-i.invariant
    ]
