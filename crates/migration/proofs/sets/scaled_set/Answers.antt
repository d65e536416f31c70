use Rattle.std.proofs.Common.{◌≡◌, ℤ, List, IsTrue, sym, ap, ◌∙◌, subst}
use Rattle.std.specs.Int.{w64, cast_signed, cast_unsigned}
use Rattle.std.specs.List.{flat_map}
use Rattle.std.specs.Option.{option_to_list}
use Rattle.std.specs.Ordering.{int_cmp}
use Rattle.std.proofs.lemmas.Int.{to_z-of_z}
use Rattle.cite_schema.specs.Values.{is_number}
use Rattle.interval_normal.specs.declared.set.Span.{Span}
use Rattle.interval_normal.specs.Spans.{IsCanonical}
use Rattle.migration.specs.Sets.{span_image}
use Rattle.migration.proofs.ScaledSpans.{scaled_canonical}
use Rattle.migration.proofs.sets.scaled_set.Goals as goal

images : ℤ → ℤ → List (Span ℤ) → List (Span ℤ)
images by plus spans = flat_map (λ s. option_to_list (span_image by plus s)) spans

pub from_spans-requires : goal.from_spans-requires
unfolding images
from_spans-requires c =
    let is : c.in_ok-images.images ≡ images c.args.by c.args.plus c.args.numbers.now =
    c.in_ok-images.ensures
    ∙ ap (λ (by : ℤ). images by (cast_signed w64 (cast_unsigned w64 c.args.plus)) c.as_slice.result.now) (to_z-of_z w64 c.args.by c.ranges.by)
    ∙ ap (λ (plus : ℤ). images c.args.by plus c.as_slice.result.now) (to_z-of_z w64 c.args.plus c.ranges.plus)
    ∙ ap (images c.args.by c.args.plus) (c.as_slice.ensures ∙ c.spans.ensures.value) in
    subst (IsCanonical (λ z. IsTrue (is_number z)) int_cmp) (sym is) (scaled_canonical c.args.by c.args.plus c.args.numbers.now c.requires c.spans.ensures.canonical)
