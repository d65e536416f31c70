use Rattle.cite_schema.proofs.Answered.{always_gives, gives_once}
use Rattle.cite_schema.proofs.laws.answers_exist_and_are_unique.Goals as goal

pub returns-clause-exists : goal.returns-clause-exists
returns-clause-exists c = always_gives

pub returns-clause-unique : goal.returns-clause-unique
returns-clause-unique c = gives_once
