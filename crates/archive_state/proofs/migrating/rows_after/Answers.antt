use Rattle.std.proofs.Common.{rules, ◌≡◌, Some, sym, subst}
use Rattle.migration.specs.Rows.{carry_row, row_at_all}
use Rattle.versioned_rows.specs.Histories.{RowHistory, rows_of, as_of, first_version, lost_key}
use Rattle.versioned_rows.specs.Nexts.{IsNextByRule}
use Rattle.archive_state.proofs.MoveRows.{zip_so, at_places, read_keys, read_light, read_last}
use Rattle.archive_state.proofs.migrating.rows_after.Goals as goal

pub map_rows-carried-requires-clause-keeps : goal.map_rows-carried-requires-clause-keeps
map_rows-carried-requires-clause-keeps c r t there says =
    let told : Some t ≡ row_at_all c.args.places.now c.args.steps.now r = search rules in
    read_keys c.args.seen.now c.requires.seen c.table-rows.result.now c.table-rows.ensures c.known_rows.ensures c.args.steps.now c.requires.steps r t there
    (at_places c.args.seen.now.schema.columns c.args.steps.now c.args.places.now r (Some t) c.requires.places told)

pub map_rows-carried-requires-clause-weight : goal.map_rows-carried-requires-clause-weight
map_rows-carried-requires-clause-weight c rows zip =
    read_light c.args.seen.now c.requires.seen c.table-rows.result.now c.table-rows.ensures c.known_rows.ensures c.args.steps.now c.requires.steps rows
    (zip_so _ (λ r t. carry_row c.args.seen.now.schema.columns c.args.steps.now r ≡ Some t) (λ r t says.
    let told : Some t ≡ row_at_all c.args.places.now c.args.steps.now r = search rules in
    sym (at_places c.args.seen.now.schema.columns c.args.steps.now c.args.places.now r (Some t) c.requires.places told)) (rows_of c.table-rows.result.now) rows zip)

pub map_rows-carried-requires-clause-last : goal.map_rows-carried-requires-clause-last
map_rows-carried-requires-clause-last c = read_last c.args.seen.now c.requires.seen c.table-rows.result.now c.table-rows.ensures c.known_rows.ensures c.args.steps.now c.requires.steps

pub returns-in-Ok : goal.returns-in-Ok
returns-in-Ok c =
    subst (λ (h : RowHistory). IsNextByRule (carry_row c.args.seen.now.schema.columns c.args.steps.now) h c.in-Ok.carried) c.table-rows.ensures
    (c.in-Ok.ensures.next_by_rule (carry_row c.args.seen.now.schema.columns c.args.steps.now) (λ r o says.
    let told : o ≡ row_at_all c.args.places.now c.args.steps.now r = search rules in
    at_places c.args.seen.now.schema.columns c.args.steps.now c.args.places.now r o c.requires.places told))

pub returns-in-Err-Overflow : goal.returns-in-Err-Overflow
returns-in-Err-Overflow c =
    let lost = rw c.in-Err-Overflow.field-0-is at c.in-Err-Overflow.ensures.fault_by_rule (carry_row c.args.seen.now.schema.columns c.args.steps.now) (λ r o says.
    let told : o ≡ row_at_all c.args.places.now c.args.steps.now r = search rules in
    at_places c.args.seen.now.schema.columns c.args.steps.now c.args.places.now r o c.requires.places told) in
    subst (λ (h : RowHistory). first_version h.last (λ v. lost_key (carry_row c.args.seen.now.schema.columns c.args.steps.now) (as_of h v)) ≡ Some (c.in-Err-Overflow.version, c.in-Err-Overflow.key)) c.table-rows.ensures lost
