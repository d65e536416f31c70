use Rattle.std.proofs.Common.{◌*ℤ◌, ◌≤◌, ◌^◌, subst, sym, arith}
use Rattle.std.specs.Prelude.{unsigned_abs}
use Rattle.std.proofs.lemmas.Int.{to_z-of_z}
use Rattle.migration.proofs.Products.{number_within, wide, product_within}
use Rattle.migration.proofs.numbers.product.Goals as goal

pub returns-clause-value : goal.returns-clause-value
returns-clause-value c =
    let by_fits = c.ranges.by in
    let number_fits = c.ranges.number in
    let by = number_within c.args.by by_fits in
    let number = number_within c.args.number number_fits in
    let within = product_within c.args.by c.args.number (2 ^ 63) (2 ^ 63) by number in
    let by_wide = wide c.args.by (omega (arith, by)) in
    let number_wide = wide c.args.number (omega (arith, number)) in
    let product_wide = wide (c.args.by *ℤ c.args.number) (omega (arith, within)) in
    simp to_z-of_z

pub returns-clause-small : goal.returns-clause-small
returns-clause-small c =
    let within = product_within c.args.by c.args.number (2 ^ 63) (2 ^ 63) (number_within c.args.by c.ranges.by) (number_within c.args.number c.ranges.number) in
    subst (λ z. unsigned_abs z ≤ 2 ^ 126) (sym (returns-clause-value c)) (omega (arith, within))
