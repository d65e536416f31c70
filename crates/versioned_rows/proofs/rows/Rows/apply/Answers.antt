use Rattle.std.proofs.Common.{◌+◌, List, sym, subst}
use Rattle.std.proofs.lemmas.Result.{err_from_is_err_and}
use Rattle.stable_order.specs.Rows.{ToldApart}
use Rattle.shared_pages.specs.Edits.{places}
use Rattle.cite_schema.specs.declared.line.Line.{Line}
use Rattle.versioned_rows.specs.ChangeLaws.{NameOwnKeys, HaveKeys}
use Rattle.versioned_rows.specs.Histories.{RowHistory}
use Rattle.versioned_rows.specs.Keeping.{kept_cmp}
use Rattle.versioned_rows.specs.Nexts.{IsNextByLines, TellsLine}
use Rattle.versioned_rows.proofs.Versions.{asked_apart, counts_fit, counts_room, next_by_lines, next_of, next_rows, room_seen, tells_line, weight_seen}
use Rattle.versioned_rows.proofs.rows.Rows.apply.Goals as goal

pub returns-in_err-edits-clause-fault : goal.returns-in_err-edits-clause-fault
returns-in_err-edits-clause-fault c =
    let p = err_from_is_err_and c.from_residual.result c.from_residual.ensures.1 in
    rw (p.1, p.2) (
    subst (λ (l : List Line). TellsLine l c.args.self.now c.in_err-edits.field-0.0) c.as_slice-lines.ensures (
    subst (λ (s : RowHistory). TellsLine c.as_slice-lines.result.now s c.in_err-edits.field-0.0) c.self.view_is
    (tells_line c.self.inside.kept c.self.inside.last c.as_slice-lines.result.now c.in_err-edits.field-0.0 c.self.invariant.history (subst NameOwnKeys (sym c.as_slice-lines.ensures) c.requires.apart) c.in_err-edits.ensures)))

pub counted-alive-requires-clause-room : goal.counted-alive-requires-clause-room
counted-alive-requires-clause-room c =
    counts_room c.self.inside.kept c.self.inside.last c.self.inside.alive c.self.inside.weight c.as_slice-lines.result.now c.self.invariant
    (room_seen (record { last = c.self.inside.last; kept = c.self.inside.kept }) c.args.self.now c.as_slice-lines.result.now c.args.lines.now c.self.view_is c.as_slice-lines.ensures c.requires.kept)

pub counted-alive-requires-clause-there : goal.counted-alive-requires-clause-there
counted-alive-requires-clause-there c =
    counts_fit c.self.inside.kept c.self.inside.last c.self.inside.alive c.self.inside.weight c.as_slice-lines.result.now c.self.invariant (subst NameOwnKeys (sym c.as_slice-lines.ensures) c.requires.apart)
    (subst HaveKeys (sym c.as_slice-lines.ensures) c.requires.keys) c.in_ok-edits.ensures.0

pub edit_in_any_order-requires : goal.edit_in_any_order-requires
edit_in_any_order-requires c =
    subst (ToldApart (places kept_cmp)) (sym c.in_ok-edits.ensures.1)
    (asked_apart c.self.inside.kept c.self.inside.last c.as_slice-lines.result.now c.self.invariant.history (subst NameOwnKeys (sym c.as_slice-lines.ensures) c.requires.apart) c.in_ok-edits.ensures.0)

pub invariant_of-result : goal.invariant_of-result
invariant_of-result c =
    next_rows c.self.inside.kept c.in_ok-kept.kept c.self.inside.last c.self.inside.alive c.self.inside.weight c.counted-alive.result c.weighed-weight.result c.as_slice-lines.result.now c.self.invariant
    (next_of c.self.inside.kept c.in_ok-kept.kept c.self.inside.last c.as_slice-lines.result.now c.args.lines.now c.in_ok-edits.edits c.self.invariant.history c.as_slice-lines.ensures c.requires.apart c.requires.keys c.in_ok-edits.ensures.0 c.in_ok-edits.ensures.1
    c.in_ok-kept.ensures) c.counted-alive.ensures c.weighed-weight.ensures
    (weight_seen (record { last = c.self.inside.last; kept = c.self.inside.kept }) c.args.self.now c.as_slice-lines.result.now c.args.lines.now c.self.view_is c.as_slice-lines.ensures c.requires.weight)

pub returns-clause-next : goal.returns-clause-next
returns-clause-next c =
    subst (λ (l : List Line). IsNextByLines l c.args.self.now (record { last = c.self.inside.last + 1; kept = c.in_ok-kept.kept })) c.as_slice-lines.ensures (
    subst (λ (s : RowHistory). IsNextByLines c.as_slice-lines.result.now s (record { last = c.self.inside.last + 1; kept = c.in_ok-kept.kept })) c.self.view_is
    (next_by_lines c.self.inside.kept c.in_ok-kept.kept c.self.inside.last c.as_slice-lines.result.now c.self.invariant.history (subst NameOwnKeys (sym c.as_slice-lines.ensures) c.requires.apart) c.in_ok-edits.ensures.0
    (next_of c.self.inside.kept c.in_ok-kept.kept c.self.inside.last c.as_slice-lines.result.now c.args.lines.now c.in_ok-edits.edits c.self.invariant.history c.as_slice-lines.ensures c.requires.apart c.requires.keys c.in_ok-edits.ensures.0 c.in_ok-edits.ensures.1
    c.in_ok-kept.ensures)))
