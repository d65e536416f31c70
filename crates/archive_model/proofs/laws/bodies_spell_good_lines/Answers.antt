use Rattle.archive_model.proofs.BatchLines.{good_lines}
use Rattle.archive_model.proofs.laws.bodies_spell_good_lines.Goals as goal

pub returns : goal.returns
returns c = good_lines
