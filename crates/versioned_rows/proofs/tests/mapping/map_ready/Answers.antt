use Rattle.std.proofs.Common.{refl, arith}
use Rattle.std.specs.Fn.{FnReturnsAt}
use Rattle.std.proofs.lemmas.List.{length-map}
use Rattle.versioned_rows.specs.Histories.{rows_of}
use Rattle.versioned_rows.proofs.Ready.{turned_light}
use Rattle.versioned_rows.proofs.tests.mapping.map_ready.Goals as goal

pub map_rows-requires-clause-weight : goal.map_rows-requires-clause-weight
map_rows-requires-clause-weight g c rows z =
    let light = turned_light (FnReturnsAt g.F.Fn c.args.f) (rows_of c.args.rows.now) rows z c.requires.light in
    let few = length-map c.args.rows.now.kept (λ k. k.row) in
    let room = c.if-stay_light.ensures refl in
    omega arith

pub map_rows-requires-clause-keeps : goal.map_rows-requires-clause-keeps
map_rows-requires-clause-keeps g c r t i k = (c.requires.light r t k).0
