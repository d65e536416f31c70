-- A migration of steps that are harmless for a citation's form does not harm the citation.
use Rattle.std.proofs.Common.{◌≡◌, ℕ, List, [], ◌∷◌, Option, Some, None, IsTrue, slice_get, refl, sym, ap, ◌∙◌, subst}
use Rattle.std.specs.Prelude.{Ok, ◌==◌}
use Rattle.cite_schema.specs.Tables.{is_table}
use Rattle.cite_schema.specs.declared.value.Value.{Value}
use Rattle.cite_schema.specs.declared.step.Step.{Step}
use Rattle.cite_schema.proofs.Results.{demanded, unfaulted, gave}
use Rattle.migration.specs.Columns.{carry_schema}
use Rattle.migration.specs.Harmless.{printed_of, all_harmless}
use Rattle.migration.proofs.HarmlessCarry.{harmless_carry}
use Rattle.archive_model.specs.declared.answers.Refused.TheVariants as refusals
use Rattle.archive_model.specs.Archives.{Archive, Minted, columns_of}
use Rattle.archive_model.specs.Limits.{Versions}
use Rattle.archive_model.specs.Outcomes.{over}
use Rattle.archive_model.specs.Migrating.{with_migration, overflow, new_migration, IsCarried, Stays}
use Rattle.archive_model.specs.ArchiveLaws.{HasTable, Resolves, HarmlessMigrationsHarmNone}
use Rattle.archive_model.proofs.Sound.{citations_resolve, columns_carried, rows_carried}
use Rattle.archive_model.proofs.InStep.{all_there}

pub harm_none : HarmlessMigrationsHarmNone
harm_none history a next schema steps now place m leads made at harmless =
    let sound = citations_resolve history a leads in
    let r = all_there (Resolves a.last a.older) a.minted place m sound.citations at in
    let (number, e1) = demanded (schema == a.last.schema.number) _ _ next made in
    let (carried, is, e2) = gave (carry_schema a.last.schema steps) refusals.Steps _ next e1 in
    let (few, e3) = unfaulted (over (with_migration a carried steps now) (Versions ∷ [])) _ next e2 in
    let (none, e4) = unfaulted (overflow a steps) _ next e3 in
    let h = sound.tables m.issue.version r.from r.to in
    let same : Some h.table ≡ Some r.table = sym h.is ∙ r.is in
    let one : h.table ≡ r.table = cc in
    let own : HasTable a.last a.older m.issue.version = record { table = r.table; is = r.is; fits = subst (λ t. IsTrue (is_table (columns_of a) t)) one h.fits } in
    let (t, rows) = rows_carried a sound steps none m.issue.version own r.from r.to in
    let (form, carries, gives) = harmless_carry 1 (columns_of a) carried.columns steps m.form r.table t m.bytes sound.heading (columns_carried a.last.schema carried steps is) own.fits r.settled harmless rows r.gives in
    (form, record { carries = carries; old = r.table; old_is = r.is; table = t; table_is = rows; gives = gives })
