use Rattle.query_json.proofs.NameLaws.{NamesRise-read}
use Rattle.query_json.proofs.query.read_column_conditions.Goals as goal

pub returns-clause-names_rise : goal.returns-clause-names_rise
returns-clause-names_rise c =
    NamesRise-read c.args.members.now.entries c.loop-name.name-iterator c.loop-name.conditions c.iter-name-items.ensures.ordered c.loop-name.invariant c.in-None.ensures.steps.0
