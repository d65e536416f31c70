-- What a refusal to lay out a result tells.
use Rattle.std.specs.Prelude.{◌≡◌, ◌<◌, ℕ, ⊤}
use Rattle.result_bytes.specs.declared.fault.LayFault.{LayFault}
use Rattle.result_bytes.specs.declared.fault.LayFault.TheVariants.{TooLarge, NoMemory}

-- a refusal for its size tells the size of the result, which is over the limit; want of memory tells nothing
abbrev pub TellsSize : (limit size : ℕ) → LayFault → Type 0
TellsSize limit size (TooLarge bytes) = (limit < size) × (bytes ≡ size)
TellsSize limit size NoMemory = ⊤
