use Rattle.cite_schema.proofs.TableTexts.{spells_once, spells_table}
use Rattle.cite_schema.proofs.laws.a_table_text_spells_at_most_one_table.Goals as goal

pub returns-clause-once : goal.returns-clause-once
returns-clause-once c = spells_once

pub returns-clause-table : goal.returns-clause-table
returns-clause-table c = spells_table
