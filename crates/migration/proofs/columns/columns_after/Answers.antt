use Rattle.std.proofs.Common.{sym, ap, ◌∙◌}
use Rattle.migration.specs.Columns.{columns_after}
use Rattle.migration.proofs.Placed.{itself}
use Rattle.migration.proofs.columns.columns_after.Goals as goal

pub returns-in-Scale : goal.returns-in-Scale
returns-in-Scale c = sym (ap (columns_after c.args.columns) c.in-Scale.is ∙ itself _ c.args.columns)

pub returns-in-Recode : goal.returns-in-Recode
returns-in-Recode c = sym (ap (columns_after c.args.columns) c.in-Recode.is ∙ itself _ c.args.columns)
