use Rattle.std.proofs.Common.{◌≡◌, ◌++◌, codes, take}
use Rattle.std.specs.List.{flat_map}
use Rattle.datacite_meta.proofs.citation.put_further.Given as goal

abbrev pub invariant-loop-name : goal.invariant-loop-name
invariant-loop-name l = l.text.items ≡ l.initial.text.items ++ flat_map (λ name. codes "; " ++ name) (take l.name-index l.names)
