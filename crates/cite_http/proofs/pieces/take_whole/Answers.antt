use Rattle.std.proofs.Common.{List, sym, subst, Option}
use Rattle.cite_http.specs.Messages.{Gives}
use Rattle.cite_http.specs.Pieces.{Stands}
use Rattle.cite_http.specs.declared.message.Message.{Message}
use Rattle.cite_http.proofs.Steps.{stands_given, stands_waits, none_stays}
use Rattle.cite_http.proofs.pieces.take_whole.Goals as goal

pub loop-message-preserved : goal.loop-message-preserved
loop-message-preserved c = λ bytes st.
    let G : Option Message → Type 0 = λ o. Gives c.loop-message.reader o c.next.new.self in
    let P : List Message → Type 0 = λ l. Stands bytes l c.next.new.self in
    subst P (sym c.in_ok-push.ensures.ok)
    (stands_given bytes c.loop-message.given c.loop-message.reader c.next.new.self c.in-Some.message (c.loop-message.invariant bytes st) (subst G c.in-Some.is c.in_ok-message.ensures.ok))

pub returns-clause-stands : goal.returns-clause-stands
returns-clause-stands c = λ bytes st.
    let G : Option Message → Type 0 = λ o. Gives c.loop-message.reader o c.next.new.self in
    stands_waits bytes c.loop-message.given c.loop-message.reader c.next.new.self (c.loop-message.invariant bytes st) (subst G c.in_default.is c.in_ok-message.ensures.ok)

pub returns-clause-none : goal.returns-clause-none
returns-clause-none c =
    let G : Option Message → Type 0 = λ o. Gives c.loop-message.reader o c.next.new.self in
    none_stays c.loop-message.reader c.next.new.self (subst G c.in_default.is c.in_ok-message.ensures.ok)
