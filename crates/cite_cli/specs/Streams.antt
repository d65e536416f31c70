-- Why the input of a command was not read to its end.
use Rattle.std.specs.Prelude.{◌≡◌, ◌≤◌, ◌+◌, ℕ, List, Option, length, ⊤}
use Rattle.cite_ports.specs.Ports.{Rose}
use Rattle.cite_conversation.specs.Streams.{Taken}
use Rattle.cite_cli.specs.declared.input.Stop.{Stop}
use Rattle.cite_cli.specs.declared.input.Stop.TheVariants as stop

-- why an input was not read to its end
abbrev pub StopsBecause : ℕ → Option (List ℕ) → Option (List ℕ) → ℕ → ℕ → Stop → Type 0
StopsBecause limit old new before after stop.Failed = (bytes : List ℕ) × Taken bytes old new × (length bytes ≤ limit) × Rose before after
StopsBecause limit old new before after stop.TooLong = (bytes : List ℕ) × Taken bytes old new × (length bytes ≡ limit + 1)
StopsBecause limit old new before after stop.NoMemory = ⊤
