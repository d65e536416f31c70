use Rattle.std.proofs.Common.{◌≤◌, ◌<◌, Some, length, slice_set, sym, ap, ◌∙◌, arith}
use Rattle.migration.specs.Places.{changed_if}
use Rattle.migration.specs.Rows.{value_after}
use Rattle.migration.proofs.Placed.{set_changed_if, not_changed_if, none_changed_if, set_again}
use Rattle.migration.proofs.row.changed_at.Goals as goal

pub returns-then-place-len : goal.returns-then-place-len
returns-then-place-len c =
    let items = c.into_vec-values.result.items in
    let after = value_after c.args.step.now in
    let behind : length items ≤ c.args.place = omega arith in
    ap Some c.from_vec.ensures ∙ sym (none_changed_if after c.args.place items behind) ∙ ap (changed_if after c.args.place) c.into_vec-values.ensures

pub returns-in-Some : goal.returns-in-Some
returns-in-Some c =
    let items = c.into_vec-values.result.items in
    let after = value_after c.args.step.now in
    let there : c.args.place < length items = omega arith in
    ap Some (c.from_vec-in-Some.ensures ∙ set_again c.args.place items c.replace-value.new.dest c.in-Some.value)
    ∙ sym (set_changed_if after c.args.place items c.index_mut.result.now c.in-Some.value there
    (ap after (sym c.index_mut.ensures.value ∙ sym c.replace-value.ensures.value) ∙ sym c.in_ok-value.ensures ∙ c.in-Some.is))
    ∙ ap (changed_if after c.args.place) c.into_vec-values.ensures

pub returns-in-None : goal.returns-in-None
returns-in-None c =
    let items = c.into_vec-values.result.items in
    let after = value_after c.args.step.now in
    let there : c.args.place < length items = omega arith in
    sym (not_changed_if after c.args.place items c.index_mut.result.now there
    (ap after (sym c.index_mut.ensures.value ∙ sym c.replace-value.ensures.value) ∙ sym c.in_ok-value.ensures ∙ c.in-None.is))
    ∙ ap (changed_if after c.args.place) c.into_vec-values.ensures
