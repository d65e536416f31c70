use Rattle.std.proofs.Common.{ℤ, List, take, ap, ◌∙◌}
use Rattle.std.specs.Int.{w64, cast_signed, cast_unsigned}
use Rattle.std.specs.List.{flat_map}
use Rattle.std.specs.Option.{option_to_list}
use Rattle.std.proofs.lemmas.Int.{to_z-of_z}
use Rattle.std.proofs.lemmas.List.{take_all}
use Rattle.interval_normal.specs.declared.set.Span.{Span}
use Rattle.migration.specs.Sets.{span_image}
use Rattle.migration.proofs.spans.span_images.Goals as goal

images : ℤ → ℤ → List (Span ℤ) → List (Span ℤ)
images by plus spans = flat_map (λ s. option_to_list (span_image by plus s)) spans

pub returns : goal.returns
unfolding images
returns c =
    let front = take c.loop-span.span-index c.args.spans.now in
    c.loop-span.invariant ∙ ap (λ (by : ℤ). images by (cast_signed w64 (cast_unsigned w64 c.args.plus)) front) (to_z-of_z w64 c.args.by c.ranges.by) ∙ ap (λ (plus : ℤ). images c.args.by plus front) (to_z-of_z w64 c.args.plus c.ranges.plus)
    ∙ ap (images c.args.by c.args.plus) (take_all c.loop-span.span-index c.args.spans.now c.loop-span-test.false)
