use Rattle.std.proofs.Common.{◌≡◌, map, take}
use Rattle.cite_cli.proofs.asking.all_columns.Given as goal

abbrev pub invariant-loop-column : goal.invariant-loop-column
invariant-loop-column l = l.items ≡ map (λ c. record { column = c.name; label = c.name }) (take l.column-index l.columns)
