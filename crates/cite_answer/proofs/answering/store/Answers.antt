use Rattle.std.proofs.Common.{◌≡◌, ℕ, Bool, true, false, inl, inr, List, Option, Some, None, Result, refl, sym, ap, ◌∙◌, subst, arith}
use Rattle.std.specs.Prelude.{Ok, Err, IfOk, is_ok}
use Rattle.entry_codec.specs.declared.entry.Entry.{Entry}
use Rattle.archive_model.specs.Archives.{Archive}
use Rattle.archive_state.specs.declared.snapshot.Snapshot.{Snapshot}
use Rattle.archive_state.specs.Standing.{Shows}
use Rattle.cite_http.specs.declared.ask.Ask.TheVariants as asks
use Rattle.cite_answer.specs.Fates.{TakesIf, deed_of}
use Rattle.archive_model.specs.declared.answers.Stored.{Stored}
use Rattle.archive_model.specs.Outcomes.{Outcome}
use Rattle.archive_model.specs.Batching.{batch_step}
use Rattle.cite_answer.proofs.Faring.{told_so}
use Rattle.cite_answer.proofs.Telling.{TellsStored, batch_told}
use Rattle.cite_answer.proofs.answering.store.Goals as goal

pub returns-clause-fares : goal.returns-clause-fares
returns-clause-fares g c = λ history a stands.
    let d = g.D.Disk in
    let now = c.now-now.result in
    told_so a (record { ask = asks.Batch c.args.ask.now; closing = c.args.closing }) now history
    (deed_of d.honest d.images d.fault_count c.args.disk.now c.batch-told.new.disk c.args.desk.now c.batch-told.new.self (g.C.Clock.given c.args.clock.now) (g.C.Clock.given c.now-now.new.self))
    (λ (o : Outcome Stored). o ≡ batch_step a c.args.ask.now now) (TellsStored c.args.closing) (batch_told a c.args.ask.now c.args.closing now) (c.now-now.ensures) (inr (now, refl, c.now-now.ensures)) stands c.batch-told.result c.tell_stored.result c.batch-told.ensures.cause (c.batch-told.ensures.answer history a stands)
    (subst (λ (s : Snapshot). IfOk c.tell_stored.result (λ r. (b : Archive) → Shows s b → (TellsStored c.args.closing) b c.batch-told.result r)) (c.deref.ensures ∙ c.snapshot.ensures.value) c.tell_stored.ensures.told)
