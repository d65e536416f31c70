use Rattle.std.proofs.Common.{◌≤◌, ◌<◌, length, slice_set, sym, ap, ◌∙◌, arith}
use Rattle.cite_schema.specs.declared.schema.Column.{Column}
use Rattle.migration.specs.Places.{changed}
use Rattle.migration.proofs.Placed.{set_changed, none_changed}
use Rattle.migration.proofs.columns.renamed.Goals as goal

pub returns-then-place-len : goal.returns-then-place-len
returns-then-place-len c =
    let items = c.into_vec-columns.result.items in
    let to = λ (column : Column). record column { name = c.args.name } in
    let behind : length items ≤ c.args.place = omega arith in
    c.from_vec.ensures ∙ sym (none_changed to c.args.place items behind) ∙ ap (changed to c.args.place) c.into_vec-columns.ensures

pub returns : goal.returns
returns c =
    let items = c.into_vec-columns.result.items in
    let to = λ (column : Column). record column { name = c.args.name } in
    let there : c.args.place < length items = omega arith in
    c.from_vec-2.ensures ∙ ap (λ (column : Column). slice_set items c.args.place (to column)) c.index.ensures
    ∙ set_changed to c.args.place items c.index.result.now there ∙ ap (changed to c.args.place) c.into_vec-columns.ensures
