use Rattle.std.proofs.Common.{◌≡◌, ℕ, Bool, true, false, inl, inr, List, Option, Some, None, Result, refl, sym, ap, ◌∙◌, subst, arith}
use Rattle.std.specs.Prelude.{Ok, Err, IfOk, is_ok}
use Rattle.entry_codec.specs.declared.entry.Entry.{Entry}
use Rattle.archive_model.specs.Archives.{Archive}
use Rattle.archive_state.specs.declared.snapshot.Snapshot.{Snapshot}
use Rattle.archive_state.specs.Standing.{Shows}
use Rattle.cite_http.specs.declared.ask.Ask.TheVariants as asks
use Rattle.cite_answer.specs.Fates.{TakesIf, deed_of}
use Rattle.archive_model.specs.Histories.{LeadsTo}
use Rattle.cite_http.specs.declared.message.Message.{Message}
use Rattle.cite_http.specs.declared.reply.Reply.{Reply}
use Rattle.cite_answer.specs.Fates.{Fares}
use Rattle.cite_answer.specs.Reads.{Reads}
use Rattle.cite_answer.proofs.Faring.{read_told, message_is}
use Rattle.cite_answer.proofs.Finding.{ok_into}
use Rattle.cite_answer.proofs.answering.answer.Goals as goal

pub returns-in-Batch-clause-fares : goal.returns-in-Batch-clause-fares
returns-in-Batch-clause-fares g c = λ history a stands.
    let d = g.D.Disk in
    let deed = deed_of d.honest d.images d.fault_count c.args.disk.now c.store.new.disk c.args.desk.now c.store.new.desk (g.C.Clock.given c.args.clock.now) (g.C.Clock.given c.store.new.clock) in
    subst (λ (m : Message). (x : Reply) × Fares a m history deed x × IfOk c.store.result (λ r. r ≡ x)) (message_is c.args.message.now (asks.Batch c.in-Batch.ask) c.in-Batch.is) (c.store.ensures.fares history a stands)

pub returns-in-Cite-clause-fares : goal.returns-in-Cite-clause-fares
returns-in-Cite-clause-fares g c = λ history a stands.
    let d = g.D.Disk in
    let deed = deed_of d.honest d.images d.fault_count c.args.disk.now c.cite.new.disk c.args.desk.now c.cite.new.desk (g.C.Clock.given c.args.clock.now) (g.C.Clock.given c.cite.new.clock) in
    subst (λ (m : Message). (x : Reply) × Fares a m history deed x × IfOk c.cite.result (λ r. r ≡ x)) (message_is c.args.message.now (asks.Cite c.in-Cite.body) c.in-Cite.is) (c.cite.ensures.fares history a stands)

pub returns-in-Migrate-clause-fares : goal.returns-in-Migrate-clause-fares
returns-in-Migrate-clause-fares g c = λ history a stands.
    let d = g.D.Disk in
    let deed = deed_of d.honest d.images d.fault_count c.args.disk.now c.migrate.new.disk c.args.desk.now c.migrate.new.desk (g.C.Clock.given c.args.clock.now) (g.C.Clock.given c.migrate.new.clock) in
    subst (λ (m : Message). (x : Reply) × Fares a m history deed x × IfOk c.migrate.result (λ r. r ≡ x)) (message_is c.args.message.now (asks.Migrate c.in-Migrate.schema c.in-Migrate.body) c.in-Migrate.is) (c.migrate.ensures.fares history a stands)

pub returns-in_default : goal.returns-in_default
returns-in_default g c = record {
  fares = λ history a stands.
      let d = g.D.Disk in
      let m = c.args.message.now in
      let shows : Shows c.deref.result.now a = subst (λ (s : Snapshot). Shows s a) (sym (c.deref.ensures ∙ c.snapshot.ensures.value)) stands.agrees.shows in
      read_told a m history
      (deed_of d.honest d.images d.fault_count c.args.disk.now c.args.disk.now c.args.desk.now c.args.desk.now (g.C.Clock.given c.args.clock.now) (g.C.Clock.given c.args.clock.now))
      refl refl refl (λ e k. k.1) c.read.result
      (ok_into (λ r. (h : List Entry) (b : Archive) → LeadsTo h b → Shows c.deref.result.now b → Reads b m.ask m.closing r) (λ r. Reads a m.ask m.closing r) c.read.result
      (λ r k. k history a stands.leads shows) c.read.ensures.reads);
  reply = c.read.ensures.reply;
  kept = c.requires.kept;
  later = omega arith;
}
