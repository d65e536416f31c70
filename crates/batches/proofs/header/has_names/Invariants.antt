use Rattle.std.proofs.Common.{◌≡◌, take, drop, map}
use Rattle.csv.specs.Records.{fields_of}
use Rattle.batches.proofs.header.has_names.Given as goal

abbrev pub invariant-loop-i : goal.invariant-loop-i
invariant-loop-i l = take l.i (drop 1 (fields_of l.head)) ≡ take l.i (map (λ c. c.name) l.columns)
