use Rattle.std.proofs.Common.{◌≡◌, take}
use Rattle.std.specs.List.{flat_map}
use Rattle.std.specs.Option.{option_to_list}
use Rattle.migration.specs.Sets.{span_image}
use Rattle.migration.proofs.spans.span_images.Given as goal

abbrev pub invariant-loop-span : goal.invariant-loop-span
invariant-loop-span l = l.images ≡ flat_map (λ s. option_to_list (span_image l.by l.plus s)) (take l.span-index l.spans)
