use Rattle.std.proofs.Common.{◌≡◌, take, map}
use Rattle.migration.proofs.named.names_of.Given as goal

abbrev pub invariant-loop-column : goal.invariant-loop-column
invariant-loop-column l = map (λ n. n.now) l.names.items ≡ map (λ c. c.name) (take l.column-index l.columns)
