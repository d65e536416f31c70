use Rattle.std.proofs.Common.{◌≡◌, ◌+◌, length, arith, refl, sym, ap, ◌∙◌, subst}
use Rattle.std.specs.Arc.{arc_value}
use Rattle.std.proofs.lemmas.Result.{err_from_is_err_and}
use Rattle.entry_codec.specs.Spellable.{IsPrintable}
use Rattle.archive_state.specs.declared.snapshot.Snapshot.{Snapshot}
use Rattle.archive_state.proofs.CiteMinted.{cite_printable, few_citations, few_entries}
use Rattle.archive_state.proofs.CiteReady.{IsReady, ready_refused, ready_made}
use Rattle.archive_state.proofs.present.Present.new_citation.Goals as goal

pub overflow_add-number : goal.overflow_add-number
overflow_add-number c =
    let few = few_citations c.args.self.now c.requires.stands in
    let same : c.issued-number.result ≡ length (arc_value c.args.self.now.snapshot).store = c.issued-number.ensures ∙ ap (λ (s : Snapshot). length s.store) c.seen-seen.ensures in
    omega (arith, few, same)

pub known_entry-requires : goal.known_entry-requires
known_entry-requires c =
    subst IsPrintable (sym c.in-Ok.ensures)
    (cite_printable c.args.self.now c.args.ask.now c.args.form c.stamped-stamp.result (c.issued-number.result + 1) c.version.result c.fingerprint-result_sha.result c.requires.stands c.requires.form)

pub journal_with-journal-requires : goal.journal_with-journal-requires
journal_with-journal-requires c =
    subst IsPrintable (sym c.in-Ok.ensures)
    (cite_printable c.args.self.now c.args.ask.now c.args.form c.stamped-stamp.result (c.issued-number.result + 1) c.version.result c.fingerprint-result_sha.result c.requires.stands c.requires.form)

pub judge-requires : goal.judge-requires
judge-requires c =
    subst IsPrintable (sym c.in-Ok.ensures)
    (cite_printable c.args.self.now c.args.ask.now c.args.form c.stamped-stamp.result (c.issued-number.result + 1) c.version.result c.fingerprint-result_sha.result c.requires.stands c.requires.form)

pub print_entry-requires : goal.print_entry-requires
print_entry-requires c =
    subst IsPrintable (sym c.in-Ok.ensures)
    (cite_printable c.args.self.now c.args.ask.now c.args.form c.stamped-stamp.result (c.issued-number.result + 1) c.version.result c.fingerprint-result_sha.result c.requires.stands c.requires.form)

pub returns-in_err-judge : goal.returns-in_err-judge
returns-in_err-judge c = λ history a stands.
    let ready : IsReady c.args.self.now c.args.ask.now c.args.now c.args.bytes.now c.seen-seen.result.now c.issued-number.result c.stamped-stamp.result c.version.result c.fingerprint-result_sha.result c.in-Ok.entry =
    record { seen_is = c.seen-seen.ensures; issued_is = c.issued-number.ensures; stamp_is = c.stamped-stamp.ensures; version_is = c.version.ensures; digest_is = c.fingerprint-result_sha.ensures; entry_is = c.in-Ok.ensures } in
    let q = err_from_is_err_and c.from_residual.result c.from_residual.ensures.1 in
    rw (q.1, q.2) (
    ready_refused c.args.self.now c.args.ask.now c.args.now c.args.bytes.now c.seen-seen.result.now c.issued-number.result c.stamped-stamp.result c.version.result c.fingerprint-result_sha.result c.in-Ok.entry ready c.journal_with-journal.result c.journal_with-journal.ensures
    history a stands c.args.form c.in_err-judge.field-0.0 c.in_err-judge.ensures)

pub with_citation-requires-clause-entries : goal.with_citation-requires-clause-entries
with_citation-requires-clause-entries c =
    let few = few_entries c.args.self.now c.requires.stands in
    omega (arith, few)

pub returns-in-Ok-with_citation : goal.returns-in-Ok-with_citation
returns-in-Ok-with_citation c = λ history a stands.
    let ready : IsReady c.args.self.now c.args.ask.now c.args.now c.args.bytes.now c.seen-seen.result.now c.issued-number.result c.stamped-stamp.result c.version.result c.fingerprint-result_sha.result c.in-Ok.entry =
    record { seen_is = c.seen-seen.ensures; issued_is = c.issued-number.ensures; stamp_is = c.stamped-stamp.ensures; version_is = c.version.ensures; digest_is = c.fingerprint-result_sha.ensures; entry_is = c.in-Ok.ensures } in
    ready_made c.args.self.now c.args.ask.now c.args.now c.args.bytes.now c.seen-seen.result.now c.issued-number.result c.stamped-stamp.result c.version.result c.fingerprint-result_sha.result c.in-Ok.entry ready c.journal_with-journal.result c.journal_with-journal.ensures
    history a stands c.args.form c.in-Ok-citation_of.citation _ c.in_ok-judge.ensures c.in-Ok-citation_of.ensures c.in-Ok-with_citation.ensures.seen c.in-Ok-with_citation.ensures.used c.in-Ok-with_citation.ensures.counts.0 c.in-Ok-with_citation.ensures.counts.1
    c.in-Ok-with_citation.ensures.counts.2 refl c.in-Ok-print_entry.ensures c.known_entry.ensures
