use Rattle.std.proofs.Common.{sym, ap, ◌∙◌}
use Rattle.std.specs.Int.{w64}
use Rattle.std.proofs.lemmas.Int.{to_z-of_z}
use Rattle.migration.specs.Sets.{one_span}
use Rattle.migration.proofs.Scaled.{told_read, told_number, told_none, told_fits}
use Rattle.migration.proofs.spans.one_image.Goals as goal

pub returns-in-Some : goal.returns-in-Some
returns-in-Some c =
    let told = told_read c.args.by c.args.plus c.args.number c.scaled.result c.ranges.by c.ranges.plus c.ranges.number c.scaled.ensures in
    let found = sym c.in-Some.is ∙ told in
    c.one_span.ensures ∙ ap one_span (to_z-of_z w64 c.in-Some.image (told_fits c.args.by c.args.plus c.args.number c.in-Some.image found))
    ∙ ap one_span (told_number c.args.by c.args.plus c.args.number c.in-Some.image found)

pub returns-in-None : goal.returns-in-None
returns-in-None c =
    let told = told_read c.args.by c.args.plus c.args.number c.scaled.result c.ranges.by c.ranges.plus c.ranges.number c.scaled.ensures in
    told_none c.args.by c.args.plus c.args.number (sym c.in-None.is ∙ told)
