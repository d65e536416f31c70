use Rattle.std.proofs.Common.{sym, ap, ◌∙◌}
use Rattle.migration.specs.Rows.{row_at}
use Rattle.migration.proofs.Placed.{renamed_row}
use Rattle.migration.proofs.row.values_after.Goals as goal

pub returns-in-Rename : goal.returns-in-Rename
returns-in-Rename c = sym (ap (λ step. row_at c.args.place step c.args.values) c.in-Rename.is ∙ renamed_row c.in-Rename.column c.in-Rename.to c.args.place c.args.values)
