use Rattle.std.proofs.Common.{ap, ◌∙◌}
use Rattle.migration.specs.Rows.{row_at_all}
use Rattle.migration.proofs.AtPlaces.{rows_at_places}
use Rattle.migration.proofs.row.carry_row.Goals as goal

pub returns : goal.returns
returns c =
    c.in_ok-carried.ensures ∙ ap (λ ps. row_at_all ps c.args.steps.now c.args.row.now) c.in_ok-places.ensures ∙ rows_at_places c.args.schema.now.columns c.args.steps.now c.args.row.now
