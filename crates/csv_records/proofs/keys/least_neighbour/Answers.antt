use Rattle.std.proofs.Common.{◌+◌, ℕ, Option, take, sym, subst, arith}
use Rattle.csv_records.specs.Keys.{ComesAgain, IsLeast}
use Rattle.csv_records.proofs.FirstAgain.{one_alone, grown_next, all_looked_at}
use Rattle.csv_records.proofs.keys.least_neighbour.Goals as goal

pub loop-i-init : goal.loop-i-init
loop-i-init g c = one_alone g.K.Ord.cmp g.met.K.Ord.total c.args.held.now

pub loop-i-preserved : goal.loop-i-preserved
loop-i-preserved g c =
    let test = c.loop-i-test.true in
    let low = c.loop-i.auto.i in
    subst (λ (o : Option ℕ). IsLeast (ComesAgain g.K.Ord.cmp (take (c.loop-i.i + 1) c.args.held.now)) o) (sym c.lesser-least.ensures)
    (grown_next g.K.Ord.cmp g.met.K.Ord.total c.args.held.now c.requires c.loop-i.i low test c.index-held-i.result c.index-held-i-in-loop-i.result c.index-held-i.is c.index-held-i-in-loop-i.is c.loop-i.least c.line_again.result c.loop-i.invariant c.line_again.ensures)

pub returns : goal.returns
returns g c = all_looked_at g.K.Ord.cmp g.met.K.Ord.total c.args.held.now c.loop-i.i c.loop-i.least (let test = c.loop-i-test.false in omega (arith, test)) c.loop-i.invariant
