use Rattle.std.proofs.Common.{Result, sym, ap, ◌∙◌, subst}
use Rattle.std.specs.Prelude.{Err}
use Rattle.std.proofs.lemmas.Result.{err_from_is_err_and}
use Rattle.cite_schema.specs.Headings.{Heading}
use Rattle.entry_codec.specs.Spellable.{IsPrintable}
use Rattle.archive_model.specs.declared.answers.Refused.{Refused}
use Rattle.archive_state.specs.declared.migrating.Moving.{Moving}
use Rattle.archive_state.proofs.MoveBegins.{Begins}
use Rattle.archive_state.proofs.MoveReady.{begun, begun_printable, rows_told, full_told, made_told}
use Rattle.archive_state.proofs.present.Present.moving.Goals as goal

pub returns-in_err-rows : goal.returns-in_err-rows
returns-in_err-rows c =
    let p = err_from_is_err_and c.from_residual-in_err-rows.result c.from_residual-in_err-rows.ensures.1 in
    subst (λ (r : Result Moving Refused). Begins c.args.self.now c.args.schema c.args.steps.now c.args.now r) (sym (p.1 ∙ ap (λ (x : Refused). Err x) p.2))
    (rows_told c.args.self.now c.args.schema c.args.steps.now c.args.now c.in_ok-carried.carried c.seen-seen.result.now c.seen-seen.ensures
    (begun c.args.self.now c.args.schema c.args.steps.now c.args.now c.in_ok-carried.carried c.seen-seen.result.now c.seen-seen.ensures
    (c.if-schema-current.false ∙ c.number-current.ensures ∙ ap (λ (h : Heading). h.number) c.schema.ensures) c.in_ok-carried.ensures c.version.result c.version.ensures c.if-version-ge-VERSIONS.false)
    c.in_err-rows.field-0.0 c.in_err-rows.ensures)

pub known_entry-requires : goal.known_entry-requires
known_entry-requires c = subst IsPrintable (sym c.in-Ok-migrate_entry.ensures) (begun_printable c.args.self.now c.args.schema c.args.steps.now c.in_ok-carried.carried c.seen-seen.result.now c.stamped-stamp.result c.requires c.seen-seen.ensures c.in_ok-carried.ensures)

pub journal_with-journal-requires : goal.journal_with-journal-requires
journal_with-journal-requires c = subst IsPrintable (sym c.in-Ok-migrate_entry.ensures) (begun_printable c.args.self.now c.args.schema c.args.steps.now c.in_ok-carried.carried c.seen-seen.result.now c.stamped-stamp.result c.requires c.seen-seen.ensures c.in_ok-carried.ensures)

pub returns-in-Some : goal.returns-in-Some
returns-in-Some c =
    full_told c.args.self.now c.args.schema c.args.steps.now c.args.now c.in_ok-carried.carried c.seen-seen.result.now c.seen-seen.ensures
    (begun c.args.self.now c.args.schema c.args.steps.now c.args.now c.in_ok-carried.carried c.seen-seen.result.now c.seen-seen.ensures
    (c.if-schema-current.false ∙ c.number-current.ensures ∙ ap (λ (h : Heading). h.number) c.schema.ensures) c.in_ok-carried.ensures c.version.result c.version.ensures c.if-version-ge-VERSIONS.false)
    c.in_ok-rows.rows c.in_ok-rows.ensures c.stamped-stamp.result c.in-Ok-migrate_entry.entry c.journal_with-journal.result c.stamped-stamp.ensures c.in-Ok-migrate_entry.ensures c.journal_with-journal.ensures c.in-Some.limit c.weight.result c.weight.ensures c.in-Some.ensures

pub returns : goal.returns
returns c =
    made_told c.args.self.now c.args.schema c.args.steps.now c.args.now c.in_ok-carried.carried c.seen-seen.result.now c.seen-seen.ensures
    (begun c.args.self.now c.args.schema c.args.steps.now c.args.now c.in_ok-carried.carried c.seen-seen.result.now c.seen-seen.ensures
    (c.if-schema-current.false ∙ c.number-current.ensures ∙ ap (λ (h : Heading). h.number) c.schema.ensures) c.in_ok-carried.ensures c.version.result c.version.ensures c.if-version-ge-VERSIONS.false)
    c.in_ok-rows.rows c.in_ok-rows.ensures c.stamped-stamp.result c.in-Ok-migrate_entry.entry c.journal_with-journal.result c.stamped-stamp.ensures c.in-Ok-migrate_entry.ensures c.journal_with-journal.ensures
    c.in-Ok.places c.weight.result c.schema-2.result.now c.schema-2.ensures c.in-Ok.ensures c.known_entry.ensures c.weight.ensures c.in_default-passed_by_migration.ensures
