use Rattle.std.proofs.Common.{◌≡◌, ℕ, Bool, true, false, inl, inr, List, Option, Some, None, Result, refl, sym, ap, ◌∙◌, subst, arith}
use Rattle.std.specs.Prelude.{Ok, Err, IfOk, is_ok}
use Rattle.entry_codec.specs.declared.entry.Entry.{Entry}
use Rattle.archive_model.specs.Archives.{Archive}
use Rattle.archive_state.specs.declared.snapshot.Snapshot.{Snapshot}
use Rattle.archive_state.specs.Standing.{Shows}
use Rattle.cite_http.specs.declared.ask.Ask.TheVariants as asks
use Rattle.cite_answer.specs.Fates.{TakesIf, deed_of}
use Rattle.cite_schema.specs.declared.step.Step.{Step}
use Rattle.query_json.specs.declared.fault.JsonFault.{JsonFault}
use Rattle.query_json.specs.declared.fault.JsonFault.TheVariants as requests
use Rattle.query_json.specs.Steps.{steps_in}
use Rattle.archive_model.specs.Migrating.{MigrateStep}
use Rattle.cite_http.specs.declared.reply.Reply.{Reply}
use Rattle.cite_answer.specs.Replies.{unread_reply}
use Rattle.cite_answer.specs.Messages.{Migrates}
use Rattle.cite_answer.proofs.Faring.{told_so, unread_told, ok_is_none, other_fault}
use Rattle.cite_answer.proofs.Telling.{TellsMoved, migrate_told}
use Rattle.cite_answer.proofs.answering.migrate.Goals as goal

pub returns-in-Ok-clause-fares : goal.returns-in-Ok-clause-fares
returns-in-Ok-clause-fares g c = λ history a stands.
    let steps = c.in-Ok.steps in
    let read : steps_in c.args.body.now ≡ Ok steps = sym (c.in-Ok.ensures (ok_is_none steps requests.NoMemory) ∙ ap steps_in c.as_slice.ensures) in
    let d = g.D.Disk in
    let now = c.now-now.result in
    told_so a (record { ask = asks.Migrate c.args.schema c.args.body.now; closing = c.args.closing }) now history
    (deed_of d.honest d.images d.fault_count c.args.disk.now c.migrate-told.new.disk c.args.desk.now c.migrate-told.new.self (g.C.Clock.given c.args.clock.now) (g.C.Clock.given c.now-now.new.self))
    (MigrateStep a c.args.schema steps now) (TellsMoved c.args.closing) (migrate_told a c.args.schema c.args.body.now steps c.args.closing now read) (subst (λ (r : Result (List Step) JsonFault). TakesIf (is_ok r) now (deed_of d.honest d.images d.fault_count c.args.disk.now c.migrate-told.new.disk c.args.desk.now c.migrate-told.new.self (g.C.Clock.given c.args.clock.now) (g.C.Clock.given c.now-now.new.self))) (sym read) c.now-now.ensures) (inr (now, ap (λ (r : Result (List Step) JsonFault). is_ok r) read, c.now-now.ensures)) stands c.migrate-told.result c.tell_moved.result c.migrate-told.ensures.cause (c.migrate-told.ensures.answer history a stands)
    (subst (λ (s : Snapshot). IfOk c.tell_moved.result (λ r. (b : Archive) → Shows s b → (TellsMoved c.args.closing) b c.migrate-told.result r)) (c.deref.ensures ∙ c.snapshot.ensures.value) c.tell_moved.ensures.told)

pub returns-in-Err : goal.returns-in-Err
returns-in-Err g c = record {
  fares = λ history a stands.
      let d = g.D.Disk in
      let body = c.args.body.now in
      let fault = c.in-Err.fault in
      let closing = c.args.closing in
      unread_told a (record { ask = asks.Migrate c.args.schema body; closing = closing }) history
      (deed_of d.honest d.images d.fault_count c.args.disk.now c.args.disk.now c.args.desk.now c.args.desk.now (g.C.Clock.given c.args.clock.now) (g.C.Clock.given c.args.clock.now))
      refl refl refl (λ e k. k.1) fault
      (λ other r e.
      let read : steps_in body ≡ Err fault = sym (c.in-Err.ensures (other_fault fault requests.NoMemory other) ∙ ap steps_in c.as_slice.ensures) in (
        subst (λ (w : Result (List Step) JsonFault). Migrates a c.args.schema w closing 0 (record { reply = r; entry = None; after = a })) (sym read) (record { none = refl; same = refl }, e),
        ap (λ (w : Result (List Step) JsonFault). is_ok w) read,
      ))
      c.unread_reply.result c.unread_reply.ensures.value;
  reply = c.unread_reply.ensures.reply;
  kept = c.requires.kept;
  later = omega arith;
}
