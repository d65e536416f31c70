use Rattle.std.proofs.Common.{◌≡◌, ◌++◌, drop}
use Rattle.std.specs.List.{flat_map}
use Rattle.std.specs.String.{string_bytes}
use Rattle.subset_query.specs.Printed.{span_text}
use Rattle.subset_query.proofs.print.write_spans.Given as goal

abbrev pub invariant-loop-span : goal.invariant-loop-span
invariant-loop-span g l = string_bytes l.out ++ flat_map (span_text g.P.Spelled.spelling) (drop l.span-index l.span-items) ≡ string_bytes l.initial.out ++ flat_map (span_text g.P.Spelled.spelling) l.span-items
