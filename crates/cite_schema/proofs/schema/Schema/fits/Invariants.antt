use Rattle.std.proofs.Common.{◌≡◌, ◌&&◌, drop}
use Rattle.cite_schema.specs.Tables.{fits, is_short_row}
use Rattle.cite_schema.proofs.schema.Schema.fits.Given as goal

abbrev pub invariant-loop-i : goal.invariant-loop-i
invariant-loop-i l = (fits l.columns l.values && is_short_row l.values) ≡ (fits (drop l.i l.columns) (drop l.i l.values) && is_short_row (drop l.i l.values))
