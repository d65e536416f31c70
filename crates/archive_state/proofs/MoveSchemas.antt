-- The numbers of schemas are small.
use Rattle.std.proofs.Common.{◌+◌, ◌-◌, ◌^◌, ◌<◌, ◌≤◌, List, [], ◌∷◌, length, ap, arith}
use Rattle.cite_schema.specs.Headings.{Heading}
use Rattle.archive_model.specs.Archives.{Version, Maker, ByFounding, ByBatch, ByMigration}
use Rattle.archive_model.specs.Limits.{Versions}
use Rattle.archive_model.specs.ArchiveLaws.{migrations_by, migrations_in}
use Rattle.archive_model.proofs.Counted.{counts_keep_their_limits}
use Rattle.archive_state.specs.declared.snapshot.Snapshot.{Snapshot}
use Rattle.archive_state.specs.Standing.{IsSeen}

one_at_most : (m : Maker) → migrations_by m ≤ 1
one_at_most ByFounding = omega arith
one_at_most (ByBatch curator number digest lines) = omega arith
one_at_most (ByMigration steps) = omega arith

-- there are no more migrations than versions
few_migrations : (v : Version) (ws : List Version) → migrations_in v ws ≤ length ws + 1
few_migrations v [] = one_at_most v.maker
few_migrations v (w ∷ ws) = let here = one_at_most v.maker in let rest = few_migrations w ws in omega (arith, here, rest)

-- so the number of the schema that readers see can rise
pub number_rises : (s : Snapshot) → IsSeen s → s.schema.number < 2 ^ 32 - 1
number_rises s seen =
    let counts = counts_keep_their_limits seen.history seen.archive seen.leads in
    let few = few_migrations seen.archive.last seen.archive.older in
    let number = ap (λ (h : Heading). h.number) seen.shows.schema_is in
    omega (arith, counts.schema, few, number, counts.limits Versions)
