use Rattle.std.proofs.Common.{◌≡◌, map, take}
use Rattle.std.specs.Prelude.{string_bytes}
use Rattle.cite_cli.specs.Init.{said_column}
use Rattle.cite_cli.proofs.init.read_columns.Given as goal

abbrev pub invariant-loop-word : goal.invariant-loop-word
invariant-loop-word l = l.columns ≡ map (λ w. said_column (string_bytes w)) (take l.word-index l.words)
