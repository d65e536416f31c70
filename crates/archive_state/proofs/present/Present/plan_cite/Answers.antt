use Rattle.std.proofs.lemmas.Result.{err_from_is_err_and}
use Rattle.archive_state.proofs.CiteRead.{read_form_refused, read_bytes_refused, read_repeat, read_refusal, read_new}
use Rattle.archive_state.proofs.present.Present.plan_cite.Goals as goal

pub returns-in_err-form : goal.returns-in_err-form
returns-in_err-form c = λ history a stands.
    let q = err_from_is_err_and c.from_residual.result c.from_residual.ensures.1 in
    rw (q.1, q.2) (
    read_form_refused c.args.self.now c.args.ask.now c.args.now c.seen-seen.result.now c.schema.result.now c.seen-seen.ensures c.schema.ensures history a stands c.in_err-form.field-0.0 c.in_err-form.ensures)

pub returns-in_err-bytes : goal.returns-in_err-bytes
returns-in_err-bytes c = λ history a stands.
    let q = err_from_is_err_and c.from_residual-in_err-bytes.result c.from_residual-in_err-bytes.ensures.1 in
    rw (q.1, q.2) (
    read_bytes_refused c.args.self.now c.args.ask.now c.args.now c.seen-seen.result.now c.schema.result.now c.seen-seen.ensures c.schema.ensures history a stands c.in_ok-form.form c.in_ok-form.ensures c.table.result.now c.table.ensures
    c.in_err-bytes.field-0.0 c.in_err-bytes.ensures)

pub returns-in_err-made-in-Ok-None : goal.returns-in_err-made-in-Ok-None
returns-in_err-made-in-Ok-None c = λ history a stands.
    let q = err_from_is_err_and c.from_residual-in_err-made-in-Ok-None.result c.from_residual-in_err-made-in-Ok-None.ensures.1 in
    rw (q.1, q.2) (
    read_refusal c.args.self.now c.args.ask.now c.args.now c.seen-seen.result.now c.schema.result.now c.seen-seen.ensures c.schema.ensures history a stands c.in_ok-form.form c.in_ok-form.ensures c.table.result.now c.table.ensures
    c.in_ok-bytes.bytes c.in_ok-bytes.ensures c.as_slice.result.now c.as_slice.ensures c.in-Ok-None.field-0 c.in-Ok-None.ensures c.in-Ok-None.field-0-is
    c.as_slice-in-Ok-None.result.now c.as_slice-in-Ok-None.ensures c.in_err-made-in-Ok-None.field-0.0 c.in_err-made-in-Ok-None.ensures)

pub returns-in-Ok-Some : goal.returns-in-Ok-Some
returns-in-Ok-Some c = λ history a stands.
    read_repeat c.args.self.now c.args.ask.now c.args.now c.seen-seen.result.now c.schema.result.now c.seen-seen.ensures c.schema.ensures history a stands c.in_ok-form.form c.in_ok-form.ensures c.table.result.now c.table.ensures
    c.in_ok-bytes.bytes c.in_ok-bytes.ensures c.as_slice.result.now c.as_slice.ensures c.in-Ok-Some.field-0 c.in-Ok-Some.ensures c.in-Ok-Some.number c.in-Ok-Some.field-0-is

pub returns-in_ok-made-in-Ok-None : goal.returns-in_ok-made-in-Ok-None
returns-in_ok-made-in-Ok-None c = λ history a stands.
    read_new c.args.self.now c.args.ask.now c.args.now c.seen-seen.result.now c.schema.result.now c.seen-seen.ensures c.schema.ensures history a stands c.in_ok-form.form c.in_ok-form.ensures c.table.result.now c.table.ensures
    c.in_ok-bytes.bytes c.in_ok-bytes.ensures c.as_slice.result.now c.as_slice.ensures c.in-Ok-None.field-0 c.in-Ok-None.ensures c.in-Ok-None.field-0-is
    c.as_slice-in-Ok-None.result.now c.as_slice-in-Ok-None.ensures c.in_ok-made-in-Ok-None.made c.in_ok-made-in-Ok-None.ensures
