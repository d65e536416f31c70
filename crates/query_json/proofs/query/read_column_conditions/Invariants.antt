use Rattle.std.proofs.Common.{◌≡◌, option_map, ◌++◌}
use Rattle.serde_json.specs.View.{members_view}
use Rattle.query_json.specs.Queries.{column_conditions}
use Rattle.query_json.proofs.query.read_column_conditions.Given as goal

abbrev pub invariant-loop-name : goal.invariant-loop-name
invariant-loop-name l = option_map (λ more. l.conditions ++ more) (column_conditions (members_view l.name-iterator)) ≡ column_conditions (members_view l.members.entries)
