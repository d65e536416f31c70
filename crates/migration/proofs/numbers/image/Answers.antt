use Rattle.std.proofs.Common.{◌≡◌, ℤ, ◌+ℤ◌, ◌*ℤ◌, ◌^◌, ap, ◌∙◌, arith}
use Rattle.std.specs.Int.{w64, cast_signed, cast_unsigned}
use Rattle.std.proofs.lemmas.Int.{to_z-of_z}
use Rattle.migration.proofs.Products.{number_within, wide, sum_within}
use Rattle.migration.proofs.numbers.image.Goals as goal

pub overflow_add-result : goal.overflow_add-result
overflow_add-result c =
    let plus_fits = c.ranges.plus in
    let plus = number_within c.args.plus plus_fits in
    let small = c.product.ensures.small in
    let plus_wide = wide c.args.plus (omega (arith, plus)) in
    let product_wide = wide c.product.result (omega (arith, small)) in
    let sum_wide = wide (c.product.result +ℤ c.args.plus) (sum_within c.product.result c.args.plus (2 ^ 126) (2 ^ 63) small plus) in
    simp to_z-of_z sum_wide

pub returns : goal.returns
returns c =
    let by_fits = c.ranges.by in
    let number_fits = c.ranges.number in
    let plus_fits = c.ranges.plus in
    let plus = number_within c.args.plus plus_fits in
    let small = c.product.ensures.small in
    let value : c.product.result ≡ c.args.by *ℤ c.args.number =
    c.product.ensures.value ∙ ap (λ (z : ℤ). z *ℤ cast_signed w64 (cast_unsigned w64 c.args.number)) (to_z-of_z w64 c.args.by by_fits) ∙ ap (λ (z : ℤ). c.args.by *ℤ z) (to_z-of_z w64 c.args.number number_fits) in
    let plus_wide = wide c.args.plus (omega (arith, plus)) in
    let product_wide = wide c.product.result (omega (arith, small)) in
    let sum_wide = wide (c.product.result +ℤ c.args.plus) (sum_within c.product.result c.args.plus (2 ^ 126) (2 ^ 63) small plus) in
    simp to_z-of_z (ap (λ (z : ℤ). z +ℤ c.args.plus) value)
