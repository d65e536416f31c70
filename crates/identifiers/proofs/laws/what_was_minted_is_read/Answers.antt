use Rattle.identifiers.proofs.Spellings.{minted_is_read, superset_is_read}
use Rattle.identifiers.proofs.laws.what_was_minted_is_read.Goals as goal

pub returns-clause-number : goal.returns-clause-number
returns-clause-number c = minted_is_read

pub returns-clause-superset : goal.returns-clause-superset
returns-clause-superset c = superset_is_read
