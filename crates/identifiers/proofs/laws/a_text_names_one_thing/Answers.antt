use Rattle.identifiers.proofs.Spellings.{read_once}
use Rattle.identifiers.proofs.laws.a_text_names_one_thing.Goals as goal

pub returns : goal.returns
returns c = read_once
