use Rattle.std.proofs.Common.{◌-◌, ◌^◌, ◌<◌, sym, subst}
use Rattle.cite_schema.specs.Headings.{Heading}
use Rattle.archive_state.proofs.MoveSchemas.{number_rises}
use Rattle.archive_state.proofs.migrating.schema_after.Goals as goal

pub carry_schema-requires : goal.carry_schema-requires
carry_schema-requires c = subst (λ (h : Heading). h.number < 2 ^ 32 - 1) (sym c.schema.ensures) (number_rises c.args.seen.now c.requires)
