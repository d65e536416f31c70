-- Rows that their keys tell apart.
use Rattle.std.specs.Prelude.{◌≢◌, List, AllPairs}
use Rattle.std.specs.declared.cmp.Ordering.TheVariants.{Equal}
use Rattle.cite_schema.specs.Tables.{key_cmp}
use Rattle.cite_schema.specs.declared.value.Value.{Value}

-- no two of the rows have the same key, as it is in every table
abbrev pub HaveOwnKeys : List (List Value) → Type 0
HaveOwnKeys rows = AllPairs (λ r t. key_cmp r t ≢ Equal) rows
