use Rattle.std.proofs.Common.{◌≡◌, true, ap, ◌∙◌}
use Rattle.cite_schema.specs.Headings.{is_heading}
use Rattle.migration.proofs.SchemaColumns.{carried_headings}
use Rattle.migration.proofs.Headed.{no_fault}
use Rattle.migration.proofs.schema.carry_schema.Goals as goal

pub unreachable-requires : goal.unreachable-requires
unreachable-requires c =
    let first : c.in_ok-columns.columns ≡ c.args.schema.now.columns = c.in_ok-columns.ensures ∙ c.as_slice.ensures ∙ c.columns.ensures.value in
    let heading : is_heading c.in_ok-columns.columns ≡ true = ap is_heading first ∙ c.columns.ensures.heading in
    no_fault c.in_ok-carried.carried c.in-Err.field-0 (carried_headings 1 c.in_ok-columns.columns c.in_ok-carried.carried c.as_slice-2.result.now c.in_ok-carried.ensures.columns heading) c.in-Err.ensures.fault
