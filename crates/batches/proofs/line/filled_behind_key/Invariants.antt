use Rattle.std.proofs.Common.{◌≡◌, ◌≤◌, ◌<◌, ℕ, [], get_or}
use Rattle.csv.specs.Records.{fields_of}
use Rattle.batches.proofs.line.filled_behind_key.Given as goal

abbrev pub invariant-loop-at : goal.invariant-loop-at
invariant-loop-at l = (2 ≤ l.at) × ((k : ℕ) → 2 ≤ k → k < l.at → get_or (fields_of l.fields) k [] ≡ [])
