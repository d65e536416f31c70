-- What executing a form tells.
use Rattle.std.specs.Prelude.{◌≡◌, ◌<◌, ℕ, zero, suc, slice_get, List, Option, Some, None, Result, Ok, Err, length, ⊤}
use Rattle.cite_schema.specs.Answers.{Plan, Gives}
use Rattle.cite_schema.specs.declared.value.Value.{Value}
use Rattle.result_bytes.specs.declared.fault.LayFault.{LayFault}
use Rattle.result_bytes.specs.declared.fault.LayFault.TheVariants.{TooLarge, NoMemory}
use Rattle.archive_model.specs.Archives.{Archive, Minted}
use Rattle.archive_state.specs.declared.snapshot.LookFault.{LookFault}
use Rattle.archive_state.specs.declared.snapshot.LookFault.TheVariants as looks

-- the bytes that the plan gives on the table are so many, over the limit
pub record IsOver (p : Plan) (table : List (List Value)) (size : ℕ) : Type 0 where
  pub bytes : List ℕ
  pub gives : Gives p table bytes
  pub size_is : size ≡ length bytes
  pub over : 67108864 < size

-- a fault of executing: a result that is too large, or want of memory
abbrev pub TellsOver : Plan → List (List Value) → LayFault → Type 0
TellsOver p table (TooLarge size) = IsOver p table size
TellsOver p table NoMemory = ⊤

-- the citation with a number; they are counted from 1
abbrev pub minted_as : Archive → ℕ → Option Minted
minted_as a zero = None
minted_as a (suc n) = slice_get a.minted n

-- what a number resolves to: the bytes that were minted with it, or how many were issued where none was minted with it; or memory was wanting
abbrev pub Resolved : Archive → ℕ → Result (List ℕ) LookFault → Type 0
Resolved a number (Ok bytes) = (m : Minted) × (minted_as a number ≡ Some m) × (bytes ≡ m.bytes)
Resolved a number (Err (looks.NotIssued issued)) = (minted_as a number ≡ None) × (issued ≡ length a.minted)
Resolved a number (Err looks.NoMemory) = ⊤
