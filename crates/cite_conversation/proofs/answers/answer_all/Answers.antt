use Rattle.std.proofs.Common.{◌++◌, ◌∙◌, Option, Some, None, sym, subst, refl, arith}
use Rattle.cite_http.specs.Messages.{Gives}
use Rattle.cite_http.proofs.Steps.{none_stays}
use Rattle.cite_http.specs.declared.message.Message.{Message}
use Rattle.cite_conversation.specs.Turns.{entries_in}
use Rattle.cite_conversation.proofs.Faring.{world_of}
use Rattle.cite_conversation.proofs.Askable.{gives_askable}
use Rattle.cite_conversation.proofs.Passing.{some_nothing, some_waits, none_closing, one_ends, one_closes, one_goes, stays_unclosed}
use Rattle.cite_conversation.proofs.answers.answer_all.Goals as goal

pub messages-init : goal.messages-init
messages-init g c = record {
  went = λ history a s. some_nothing _ _ _ _ _ a history s;
  unclosed = c.requires.unclosed;
  kept = c.requires.kept;
  later = omega arith;
  never_falls = omega arith;
}

pub returns-in_default-next-clause-went : goal.returns-in_default-next-clause-went
returns-in_default-next-clause-went g c = λ history a s.
    let G : Option Message → Type 0 = λ o. Gives c.messages.reader o c.next.new.self in
    some_waits _ _ _ _ _ c.messages.reader c.next.new.self a history (c.messages.invariant.went history a s) (subst G c.in_default-next.is c.in-Ok.ensures.ok)

pub returns-in_default-next-clause-waits : goal.returns-in_default-next-clause-waits
returns-in_default-next-clause-waits g c =
    let G : Option Message → Type 0 = λ o. Gives c.messages.reader o c.next.new.self in
    let none : Gives c.messages.reader None c.next.new.self = subst G c.in_default-next.is c.in-Ok.ensures.ok in
    record { none = none_stays c.messages.reader c.next.new.self none; unclosed = none_closing c.messages.reader c.next.new.self none ∙ c.messages.invariant.unclosed }

pub answer_one-end-requires-clause-askable : goal.answer_one-end-requires-clause-askable
answer_one-end-requires-clause-askable g c =
    let G : Option Message → Type 0 = λ o. Gives c.messages.reader o c.next.new.self in
    gives_askable c.messages.reader c.next.new.self c.in-Some.message (subst G c.in-Some.is c.in-Ok.ensures.ok)

pub returns-in-Some-end-clause-went : goal.returns-in-Some-end-clause-went
returns-in-Some-end-clause-went g c = λ history a s.
    let G : Option Message → Type 0 = λ o. Gives c.messages.reader o c.next.new.self in
    let p = c.messages.invariant.went history a s in
    one_ends _ _ _ (world_of g.D.Disk.images g.D.Disk.fault_count c.answer_one-end.new.disk c.answer_one-end.new.desk (g.C.Clock.given c.answer_one-end.new.clock))
    _ _ (g.K.Sink.written c.answer_one-end.new.sink) _ _ (g.K.Sink.faults_of c.answer_one-end.new.sink) c.args.reader.now c.messages.reader c.next.new.self a history c.in-Some.message
    p (subst G c.in-Some.is c.in-Ok.ensures.ok) c.messages.invariant.never_falls (Some c.in-Some-end.fault) c.in-Some-end.fault refl
    (c.in-Some-end.ensures.went (history ++ entries_in p.turns) p.moves.after p.moves.stands)

pub returns-in-Some-last-clause-went : goal.returns-in-Some-last-clause-went
returns-in-Some-last-clause-went g c = λ history a s.
    let G : Option Message → Type 0 = λ o. Gives c.messages.reader o c.next.new.self in
    let p = c.messages.invariant.went history a s in
    one_closes _ _ _ (world_of g.D.Disk.images g.D.Disk.fault_count c.answer_one-end.new.disk c.answer_one-end.new.desk (g.C.Clock.given c.answer_one-end.new.clock))
    _ _ (g.K.Sink.written c.answer_one-end.new.sink) _ _ (g.K.Sink.faults_of c.answer_one-end.new.sink) c.args.reader.now c.messages.reader c.next.new.self a history c.in-Some.message
    p (subst G c.in-Some.is c.in-Ok.ensures.ok) c.answer_one-end.result c.in_default-end.is
    (c.answer_one-end.ensures.went (history ++ entries_in p.turns) p.moves.after p.moves.stands) c.in-Some-last.closed (sym c.closing_end-last.ensures ∙ c.in-Some-last.is)

pub messages-preserved : goal.messages-preserved
messages-preserved g c =
    let G : Option Message → Type 0 = λ o. Gives c.messages.reader o c.next.new.self in
    let gives : Gives c.messages.reader (Some c.in-Some.message) c.next.new.self = subst G c.in-Some.is c.in-Ok.ensures.ok in
    record {
      went = λ history a s.
          let p = c.messages.invariant.went history a s in
          one_goes _ _ _ (world_of g.D.Disk.images g.D.Disk.fault_count c.answer_one-end.new.disk c.answer_one-end.new.desk (g.C.Clock.given c.answer_one-end.new.clock))
          _ _ (g.K.Sink.written c.answer_one-end.new.sink) _ _ (g.K.Sink.faults_of c.answer_one-end.new.sink) c.args.reader.now c.messages.reader c.next.new.self a history c.in-Some.message
          p gives c.answer_one-end.result c.in_default-end.is (c.answer_one-end.ensures.went (history ++ entries_in p.turns) p.moves.after p.moves.stands);
      unclosed = stays_unclosed c.messages.reader c.next.new.self c.in-Some.message gives (sym c.closing_end-last.ensures ∙ c.in_default-last.is);
      kept = c.answer_one-end.ensures.kept;
      later = omega (arith, c.answer_one-end.ensures.later);
      never_falls = omega (arith, c.answer_one-end.ensures.never_falls);
    }
