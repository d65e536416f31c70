use Rattle.std.proofs.Common.{◌≡◌, ◌++◌, drop}
use Rattle.std.specs.Prelude.{codes}
use Rattle.std.specs.List.{flat_map}
use Rattle.std.specs.String.{string_bytes}
use Rattle.subset_query.specs.Printed.{label_line}
use Rattle.subset_query.proofs.print.labels_text.Given as goal

abbrev pub invariant-loop-label : goal.invariant-loop-label
invariant-loop-label l = string_bytes l.out ++ flat_map label_line (drop l.label-index l.labels) ≡ codes "none\n" ++ flat_map label_line l.labels
