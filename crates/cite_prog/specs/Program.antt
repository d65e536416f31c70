-- How the program reads its words, and what it does with them.
use Rattle.std.specs.Prelude.{◌≡◌, ◌<◌, ℕ, List, ◌∷◌, map, length, string_bytes, ⊤}
use Rattle.cite_cli.specs.Seen.{Seen, OnDisk, IsUntaken, IsSilent}
use Rattle.cite_cli.specs.Run.{IsApart, Answers}
use Rattle.cite_prog.specs.declared.words.Words.{Words}
use Rattle.cite_prog.specs.declared.words.Words.TheVariants.{Command, NoFile, Unreadable, NoMemory}

-- what the arguments say, of which the first is the program's name and the second FILE; want of memory says nothing
abbrev pub Says : List (List ℕ) → (file : List ℕ) → Words → Type 0
Says args file (Command words) = (program : List ℕ) × (args ≡ program ∷ file ∷ map string_bytes words.items)
Says args file NoFile = length args < 2
Says args file Unreadable = ⊥
Says args file NoMemory = ⊤

-- nothing was taken, written or asked for
pub record IsUntouched (seen : Seen) (disk : OnDisk) : Type 0 where
  pub untaken : IsUntaken seen
  pub silent : IsSilent seen
  pub apart : IsApart seen disk

-- what the program does, by its words: what the command of these words does, or nothing
abbrev pub Ends : Words → Seen → OnDisk → ℕ → Type 0
Ends (Command words) seen disk status = Answers (map string_bytes words.items) seen disk status
Ends NoFile seen disk status = (status ≡ 2) × IsUntouched seen disk
Ends Unreadable seen disk status = (status ≡ 2) × IsUntouched seen disk
Ends NoMemory seen disk status = (status ≡ 8) × IsUntouched seen disk
