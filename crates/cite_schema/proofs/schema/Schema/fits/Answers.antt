use Rattle.std.proofs.Common.{◌≡◌, ◌∙◌, sym, ap, arith, length, ◌<◌}
use Rattle.cite_schema.proofs.Fitting.{fits_other_width, fits_from, after_fitting, after_misfit}
use Rattle.cite_schema.proofs.schema.Schema.fits.Goals as goal

pub returns-then-columns-values : goal.returns-then-columns-values
returns-then-columns-values c =
    let differ = λ (e : length c.args.self.now.columns ≡ length c.args.row.now).
    c.if-columns-values.true (ap length c.as_slice-columns.ensures ∙ ap (λ h. length h.columns) c.self.view_is ∙ e ∙ ap length (sym c.values.ensures) ∙ ap length (sym c.as_slice-values.ensures)) in
    sym (after_misfit _ _ (fits_other_width c.args.self.now.columns c.args.row.now differ))

pub loop-i-preserved : goal.loop-i-preserved
loop-i-preserved c =
    let less : c.loop-i.i < length c.as_slice-values.result.now = omega arith in
    c.loop-i.invariant
    ∙ fits_from c.as_slice-columns.result.now c.as_slice-values.result.now c.loop-i.i c.index-columns-i.result c.index-values-i.result c.loop-i-test.true less c.index-values-i.is
    ∙ after_fitting _ _ (sym c.fits_column.ensures ∙ c.if-not-fits_column.false)
