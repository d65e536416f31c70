use Rattle.std.proofs.Common.{List, map, ap, ◌∙◌}
use Rattle.cite_schema.specs.declared.schema.Column.{Column}
use Rattle.migration.specs.Naming.{named_places}
use Rattle.migration.proofs.Naming.{named_is}
use Rattle.migration.proofs.named.step_places.Goals as goal

pub returns : goal.returns
returns c =
    c.in_ok-places.ensures ∙ ap (λ (cs : List Column). named_places (map (λ (d : Column). d.name) cs) c.as_slice-2.result.now) (c.as_slice.ensures ∙ c.columns.ensures.value)
    ∙ ap (named_places (map (λ (d : Column). d.name) c.args.schema.now.columns)) c.as_slice-2.ensures
    ∙ named_is c.args.schema.now.columns c.args.steps.now
