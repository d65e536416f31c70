-- The values of a row, however the row holds them.
use Rattle.std.specs.Prelude.{List}
use Rattle.cite_schema.specs.declared.value.Value.{Value}
use Rattle.cite_schema.specs.declared.row.Held.{Held}
use Rattle.cite_schema.specs.declared.row.Held.TheVariants.{Owned, Shared}

-- the values, as they are seen
abbrev pub held_values : Held → List Value
held_values (Owned values) = values
held_values (Shared values) = values
