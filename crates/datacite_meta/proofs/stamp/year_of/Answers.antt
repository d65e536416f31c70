use Rattle.std.proofs.Common.{◌≡◌, ◌∙◌, ap, arith, FitsSigned, pos, ◌≤◌, unsigned_abs}
use mir.Syntax.{w16}
use Rattle.std.proofs.lemmas.Int.{to_z-of_z}
use Rattle.jiff.proofs.SpanFacts.{signed_arith}
use Rattle.datacite_meta.specs.Stamps.{year_of}
use Rattle.datacite_meta.proofs.StampLaws.{year_is}
use Rattle.datacite_meta.proofs.stamp.year_of.Goals as goal

pub overflow_cast-result : goal.overflow_cast-result
overflow_cast-result c =
    let is = year_is c.args.stamp c.date_of.result c.date_of.ensures in
    let year : c.year-year.result ≡ pos (year_of c.args.stamp) = c.year-year.ensures ∙ is in
    let most : year_of c.args.stamp ≤ 9999 = omega (arith, signed_arith, c.date_of.result.year_in.1, is) in
    let fits : FitsSigned w16 c.year-year.result = omega (arith, signed_arith) in
    let size : unsigned_abs c.year-year.result ≡ year_of c.args.stamp = ap unsigned_abs year in
    simp to_z-of_z (omega (arith, signed_arith, size))

pub returns : goal.returns
returns c =
    let is = year_is c.args.stamp c.date_of.result c.date_of.ensures in
    let year : c.year-year.result ≡ pos (year_of c.args.stamp) = c.year-year.ensures ∙ is in
    let most : year_of c.args.stamp ≤ 9999 = omega (arith, signed_arith, c.date_of.result.year_in.1, is) in
    let fits : FitsSigned w16 c.year-year.result = omega (arith, signed_arith) in
    simp to_z-of_z (ap unsigned_abs year)
