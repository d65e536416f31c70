-- What the walks over conditions count and test, for private functions alone.
use Rattle.std.specs.Prelude.{ℕ, ◌-◌, Bool, Option, Some, None, nat_le, if◌then◌else◌}
use Rattle.cite_schema.specs.Tables.{is_short}
use Rattle.cite_schema.specs.declared.value.Value.{Value}
use Rattle.subset_query.specs.Checks.{is_of_kind}
use Rattle.subset_query.specs.declared.checks.ValueRule.{ValueRule}
use Rattle.subset_query.specs.declared.checks.ValueRule.TheVariants.{Short, OfKind}

-- what is left of a budget after a number is taken from it, where it is large enough
abbrev pub left_of : ℕ → ℕ → Option ℕ
left_of budget n = if nat_le n budget then Some (budget - n) else None

-- the value passes the rule
abbrev pub passes : ValueRule → Value → Bool
passes Short v = is_short v
passes (OfKind kind) v = is_of_kind kind v
