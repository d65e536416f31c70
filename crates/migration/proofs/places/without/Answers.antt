use Rattle.std.proofs.Common.{◌≤◌, ◌<◌, length, sym, ap, ◌∙◌, arith}
use Rattle.migration.specs.Places.{without}
use Rattle.migration.proofs.Placed.{removed, none_removed}
use Rattle.migration.proofs.places.without.Goals as goal

pub returns-then-place-len : goal.returns-then-place-len
returns-then-place-len g c =
    let items = c.into_vec-items.result.items in
    let behind : length items ≤ c.args.place = omega arith in
    c.from_vec.ensures ∙ sym (none_removed c.args.place items behind) ∙ ap (without c.args.place) c.into_vec-items.ensures

pub returns : goal.returns
returns g c =
    let items = c.into_vec-items.result.items in
    let there : c.args.place < length items = omega arith in
    c.from_vec-2.ensures ∙ c.remove.ensures.items ∙ removed c.args.place items there ∙ ap (without c.args.place) c.into_vec-items.ensures
