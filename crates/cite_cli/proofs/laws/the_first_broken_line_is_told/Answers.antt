use Rattle.cite_cli.proofs.FirstLines.{first_broken_is_told, tables_break_none}
use Rattle.cite_cli.proofs.laws.the_first_broken_line_is_told.Goals as goal

pub returns-clause-first : goal.returns-clause-first
returns-clause-first c = first_broken_is_told

pub returns-clause-none : goal.returns-clause-none
returns-clause-none c = tables_break_none
