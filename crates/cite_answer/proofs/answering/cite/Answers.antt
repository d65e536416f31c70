use Rattle.std.proofs.Common.{◌≡◌, ℕ, Bool, true, false, inl, inr, List, Option, Some, None, Result, refl, sym, ap, ◌∙◌, subst, arith}
use Rattle.std.specs.Prelude.{Ok, Err, IfOk, is_ok}
use Rattle.entry_codec.specs.declared.entry.Entry.{Entry}
use Rattle.archive_model.specs.Archives.{Archive}
use Rattle.archive_state.specs.declared.snapshot.Snapshot.{Snapshot}
use Rattle.archive_state.specs.Standing.{Shows}
use Rattle.cite_http.specs.declared.ask.Ask.TheVariants as asks
use Rattle.cite_answer.specs.Fates.{TakesIf, deed_of}
use Rattle.cite_schema.specs.declared.query.CiteAsk.{CiteAsk}
use Rattle.query_json.specs.declared.fault.JsonFault.{JsonFault}
use Rattle.query_json.specs.declared.fault.JsonFault.TheVariants as requests
use Rattle.query_json.specs.Requests.{request_in}
use Rattle.query_store.specs.Citations.{numbered}
use Rattle.query_store.specs.declared.citation.Citation.{Citation}
use Rattle.archive_model.specs.Citing.{CiteStep}
use Rattle.cite_http.specs.declared.reply.Reply.{Reply}
use Rattle.cite_answer.specs.Replies.{unread_reply}
use Rattle.cite_answer.specs.Messages.{Cites}
use Rattle.cite_answer.proofs.Faring.{told_so, unread_told, ok_is_none, other_fault}
use Rattle.cite_answer.proofs.Telling.{TellsCitation, cite_told}
use Rattle.cite_answer.proofs.answering.cite.Goals as goal

pub tell_cited-requires-clause-there : goal.tell_cited-requires-clause-there
tell_cited-requires-clause-there g c =
    subst (λ (s : Snapshot). IfOk c.cite-told.result (λ cited. (kept : Citation) × (numbered s.store cited.number ≡ Some kept))) (sym (c.deref.ensures ∙ c.snapshot.ensures.value)) c.cite-told.ensures.there

pub returns-in-Ok-clause-fares : goal.returns-in-Ok-clause-fares
returns-in-Ok-clause-fares g c = λ history a stands.
    let ask = c.in-Ok.ask in
    let read : request_in c.args.body.now ≡ Ok ask = sym (c.in-Ok.ensures.request (ok_is_none ask requests.NoMemory) ∙ ap request_in c.as_slice.ensures) in
    let d = g.D.Disk in
    let now = c.now-now.result in
    told_so a (record { ask = asks.Cite c.args.body.now; closing = c.args.closing }) now history
    (deed_of d.honest d.images d.fault_count c.args.disk.now c.cite-told.new.disk c.args.desk.now c.cite-told.new.self (g.C.Clock.given c.args.clock.now) (g.C.Clock.given c.now-now.new.self))
    (CiteStep a ask now) (TellsCitation c.args.closing) (cite_told a c.args.body.now ask c.args.closing now read) (subst (λ (r : Result CiteAsk JsonFault). TakesIf (is_ok r) now (deed_of d.honest d.images d.fault_count c.args.disk.now c.cite-told.new.disk c.args.desk.now c.cite-told.new.self (g.C.Clock.given c.args.clock.now) (g.C.Clock.given c.now-now.new.self))) (sym read) c.now-now.ensures) (inr (now, ap (λ (r : Result CiteAsk JsonFault). is_ok r) read, c.now-now.ensures)) stands c.cite-told.result c.tell_cited.result c.cite-told.ensures.cause (c.cite-told.ensures.answer history a stands)
    (subst (λ (s : Snapshot). IfOk c.tell_cited.result (λ r. (b : Archive) → Shows s b → (TellsCitation c.args.closing) b c.cite-told.result r)) (c.deref.ensures ∙ c.snapshot.ensures.value) c.tell_cited.ensures.told)

pub returns-in-Err : goal.returns-in-Err
returns-in-Err g c = record {
  fares = λ history a stands.
      let d = g.D.Disk in
      let body = c.args.body.now in
      let fault = c.in-Err.fault in
      let closing = c.args.closing in
      unread_told a (record { ask = asks.Cite body; closing = closing }) history
      (deed_of d.honest d.images d.fault_count c.args.disk.now c.args.disk.now c.args.desk.now c.args.desk.now (g.C.Clock.given c.args.clock.now) (g.C.Clock.given c.args.clock.now))
      refl refl refl (λ e k. k.1) fault
      (λ other r e.
      let read : request_in body ≡ Err fault = sym (c.in-Err.ensures.request (other_fault fault requests.NoMemory other) ∙ ap request_in c.as_slice.ensures) in (
        subst (λ (w : Result CiteAsk JsonFault). Cites a w closing 0 (record { reply = r; entry = None; after = a })) (sym read) (record { none = refl; same = refl }, e),
        ap (λ (w : Result CiteAsk JsonFault). is_ok w) read,
      ))
      c.unread_reply.result c.unread_reply.ensures.value;
  reply = c.unread_reply.ensures.reply;
  kept = c.requires.kept;
  later = omega arith;
}
