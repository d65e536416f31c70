use Rattle.std.proofs.Common.{[], ◌∷◌, Some, None, Result, sym, ap, ◌∙◌, subst}
use Rattle.std.specs.Prelude.{Err}
use Rattle.std.proofs.lemmas.Result.{err_from_is_err_and}
use Rattle.cite_schema.specs.Headings.{Heading}
use Rattle.shared_pages.specs.Edits.{edited}
use Rattle.shared_pages.specs.declared.edit.Edit.TheVariants.{Put}
use Rattle.entry_codec.specs.declared.entry.Entry.{Entry}
use Rattle.entry_codec.specs.Payloads.{payload}
use Rattle.entry_codec.specs.Spellable.{FitsEntry, IsPrintable}
use Rattle.archive_model.specs.declared.answers.Refused.{Refused}
use Rattle.archive_model.specs.declared.answers.Stored.{Stored}
use Rattle.archive_state.specs.declared.plan.Made.{Made}
use Rattle.archive_state.specs.declared.snapshot.Snapshot.{Snapshot}
use Rattle.archive_state.specs.declared.used.UsedNumber.{UsedNumber}
use Rattle.archive_state.specs.Standing.{IsSeen}
use Rattle.archive_state.specs.Used.{used_cmp}
use Rattle.archive_state.proofs.BatchCases.{AnswersBatch, stored_in, printable, other_schema_case, full_case, late_case, made_case, rows_told, counting, passed_by}
use Rattle.archive_state.proofs.BatchRoom.{stands_seen, entries_fit}
use Rattle.archive_state.proofs.present.Present.new_batch.Goals as goal

pub returns-then-ask-current : goal.returns-then-ask-current
returns-then-ask-current c =
    other_schema_case c.args.self.now c.args.ask.now c.args.now c.number-current.result
    (c.number-current.ensures ∙ ap (λ (h : Heading). h.number) c.schema.ensures ∙ ap (λ (s : Snapshot). s.schema.number) c.seen-seen.ensures) c.if-ask-current.true

pub next_rows-requires : goal.next_rows-requires
next_rows-requires c = subst (λ (s : Snapshot). IsSeen s) (sym c.seen-seen.ensures) (stands_seen c.args.self.now c.requires.stands)

pub returns-in_err-rows : goal.returns-in_err-rows
returns-in_err-rows c =
    let p = err_from_is_err_and c.from_residual.result c.from_residual.ensures.1 in
    subst (λ (r : Result (Made Stored) Refused). AnswersBatch c.args.self.now c.args.ask.now c.args.now r) (sym (p.1 ∙ ap (λ (x : Refused). Err x) p.2))
    (rows_told c.args.self.now c.args.ask.now c.args.now c.seen-seen.result.now c.as_slice.result.now c.seen-seen.ensures c.as_slice.ensures c.in_err-rows.field-0.0 (c.if-ask-current.false ∙ c.number-current.ensures ∙ ap (λ (h : Heading). h.number) c.schema.ensures) c.in_err-rows.ensures)

pub known_entry-requires : goal.known_entry-requires
known_entry-requires c = subst (λ (e : Entry). IsPrintable e) (sym c.in-Ok.ensures) (printable c.args.ask.now c.stamped-stamp.result c.requires.asked)

pub journal_with-journal-requires : goal.journal_with-journal-requires
journal_with-journal-requires c = subst (λ (e : Entry). IsPrintable e) (sym c.in-Ok.ensures) (printable c.args.ask.now c.stamped-stamp.result c.requires.asked)

pub print_entry-requires : goal.print_entry-requires
print_entry-requires c = subst (λ (e : Entry). IsPrintable e) (sym c.in-Ok.ensures) (printable c.args.ask.now c.stamped-stamp.result c.requires.asked)

pub with_version-requires : goal.with_version-requires
with_version-requires c = entries_fit c.args.self.now c.requires.stands

pub returns-in-Some : goal.returns-in-Some
returns-in-Some c =
    full_case c.args.self.now c.args.ask.now c.args.now c.in_ok-rows.rows c.stamped-stamp.result c.journal_with-journal.result
    (counting c.args.self.now c.args.ask.now c.args.now c.seen-seen.result.now c.as_slice.result.now c.seen-seen.ensures c.as_slice.ensures c.in_ok-rows.rows c.stamped-stamp.result c.journal_with-journal.result c.in-Ok.entry (c.if-ask-current.false ∙ c.number-current.ensures ∙ ap (λ (h : Heading). h.number) c.schema.ensures) c.in_ok-rows.ensures c.stamped-stamp.ensures c.in-Ok.ensures c.journal_with-journal.ensures) c.in-Some.limit
    (passed_by c.in_ok-rows.rows c.last-version.result c.kept.result c.weight.result c.journal_with-journal.result (Some c.in-Some.limit) c.last-version.ensures c.kept.ensures c.weight.ensures c.in-Some.ensures)

pub returns-then-now-ge-CLOCK_END : goal.returns-then-now-ge-CLOCK_END
returns-then-now-ge-CLOCK_END c =
    late_case c.args.self.now c.args.ask.now c.args.now c.in_ok-rows.rows c.stamped-stamp.result c.journal_with-journal.result
    (counting c.args.self.now c.args.ask.now c.args.now c.seen-seen.result.now c.as_slice.result.now c.seen-seen.ensures c.as_slice.ensures c.in_ok-rows.rows c.stamped-stamp.result c.journal_with-journal.result c.in-Ok.entry (c.if-ask-current.false ∙ c.number-current.ensures ∙ ap (λ (h : Heading). h.number) c.schema.ensures) c.in_ok-rows.ensures c.stamped-stamp.ensures c.in-Ok.ensures c.journal_with-journal.ensures)
    (passed_by c.in_ok-rows.rows c.last-version.result c.kept.result c.weight.result c.journal_with-journal.result None c.last-version.ensures c.kept.ensures c.weight.ensures c.in_default-passed_by_version.ensures) c.if-now-ge-CLOCK_END.true

pub returns-in-Ok-with_version : goal.returns-in-Ok-with_version
returns-in-Ok-with_version c =
    let made : Made Stored = record { reply = stored_in c.last-version.result; payload = c.in-Ok-print_entry.payload; next = c.in-Ok-with_version.next } in
    made_case c.args.self.now c.args.ask.now c.args.now c.in_ok-rows.rows c.stamped-stamp.result c.journal_with-journal.result
    (counting c.args.self.now c.args.ask.now c.args.now c.seen-seen.result.now c.as_slice.result.now c.seen-seen.ensures c.as_slice.ensures c.in_ok-rows.rows c.stamped-stamp.result c.journal_with-journal.result c.in-Ok.entry (c.if-ask-current.false ∙ c.number-current.ensures ∙ ap (λ (h : Heading). h.number) c.schema.ensures) c.in_ok-rows.ensures c.stamped-stamp.ensures c.in-Ok.ensures c.journal_with-journal.ensures)
    made (passed_by c.in_ok-rows.rows c.last-version.result c.kept.result c.weight.result c.journal_with-journal.result None c.last-version.ensures c.kept.ensures c.weight.ensures c.in_default-passed_by_version.ensures) c.if-now-ge-CLOCK_END.false c.requires.asked
    (subst (λ (e : Entry). FitsEntry e) c.in-Ok.ensures c.known_entry.ensures)
    (ap stored_in c.last-version.ensures) (c.in-Ok-print_entry.ensures ∙ ap payload c.in-Ok.ensures) (record {
      seen = c.in-Ok-with_version.ensures.seen;
      used_is = c.in-Ok-with_version.ensures.used ∙ ap (λ (u : UsedNumber). edited used_cmp c.args.self.now.used (Put u ∷ [])) c.requires.used;
      stamp_is = c.in-Ok-with_version.ensures.counts.0;
      entries_are = c.in-Ok-with_version.ensures.counts.1;
      journal_is = c.in-Ok-with_version.ensures.counts.2;
    })
