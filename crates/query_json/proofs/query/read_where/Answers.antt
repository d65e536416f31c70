use Rattle.query_json.proofs.NameLaws.{NamesRise-empty}
use Rattle.query_json.proofs.query.read_where.Goals as goal

pub returns-in-None-clause-names_rise : goal.returns-in-None-clause-names_rise
returns-in-None-clause-names_rise c = NamesRise-empty c.new.result c.new.ensures
