use Rattle.std.proofs.Common.{ap, ◌∙◌}
use Rattle.migration.specs.Harmless.{printed_of}
use Rattle.migration.specs.Columns.{step_places}
use Rattle.migration.specs.Naming.{all_harmless_at}
use Rattle.migration.proofs.AtPlaces.{harmless_at_places}
use Rattle.migration.proofs.harm.harmless.Goals as goal

pub returns : goal.returns
returns c =
    let printed = printed_of c.args.normal.now in
    c.are_harmless.ensures ∙ ap (λ ps. all_harmless_at ps c.as_slice-2.result.now printed) (c.as_slice.ensures ∙ c.in_ok-places.ensures)
    ∙ ap (λ xs. all_harmless_at (step_places c.args.schema.now.columns c.args.steps.now) xs printed) c.as_slice-2.ensures
    ∙ harmless_at_places c.args.schema.now.columns c.args.steps.now printed
