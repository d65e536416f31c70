use Rattle.std.proofs.Common.{sym}
use Rattle.archive_state.proofs.ResolveMinted.{IsKept, kept_known, resolved_there, never_over}
use Rattle.archive_state.proofs.snapshot.Snapshot.resolve.Goals as goal

pub execute-requires-clause-first : goal.execute-requires-clause-first
execute-requires-clause-first c =
    let known : IsKept c.args.rows.now c.in-Some.citation.now = kept_known c.args.rows.now c.args.store.now c.args.number c.in-Some.citation.now c.requires (sym c.in-Some.ensures) in
    known.first

pub execute-requires-clause-last : goal.execute-requires-clause-last
execute-requires-clause-last c =
    let known : IsKept c.args.rows.now c.in-Some.citation.now = kept_known c.args.rows.now c.args.store.now c.args.number c.in-Some.citation.now c.requires (sym c.in-Some.ensures) in
    known.last

pub execute-requires-clause-items : goal.execute-requires-clause-items
execute-requires-clause-items c =
    let known : IsKept c.args.rows.now c.in-Some.citation.now = kept_known c.args.rows.now c.args.store.now c.args.number c.in-Some.citation.now c.requires (sym c.in-Some.ensures) in
    known.items

pub unreachable-requires : goal.unreachable-requires
unreachable-requires c =
    let over = rw c.in-Err-TooLarge.field-0-is at c.in-Err-TooLarge.ensures.fault in
    never_over c.args.rows.now c.args.store.now c.args.number c.in-Some.citation.now c.in-Err-TooLarge.field-0-0 c.requires (sym c.in-Some.ensures) over

pub returns-in-Ok : goal.returns-in-Ok
returns-in-Ok c = λ history a leads agree.
    resolved_there history a c.args.rows.now c.args.store.now c.args.number c.in-Some.citation.now c.in-Ok.bytes leads agree (sym c.in-Some.ensures) c.in-Ok.ensures.given
