use Rattle.std.proofs.Common.{◌≡◌, sym, ap, subst, ◌∙◌, Some, None, List, ℕ, ◌+◌, drop, true}
use Rattle.cite_http.specs.Messages.{Rest, Gives, message_of, size_of}
use Rattle.cite_http.specs.Offsets.{meant_by}
use Rattle.cite_http.specs.First.{IsFirst}
use Rattle.cite_http.specs.declared.found.Found.{Found}
use Rattle.cite_http.specs.declared.ask.Ask.TheVariants.{Bad}
use Rattle.cite_http.proofs.Giving.{gives_closed, gives_none, gives_some}
use Rattle.cite_http.proofs.reader.Reader.next.Goals as goal

pub returns-then-self-clause-ok : goal.returns-then-self-clause-ok
returns-then-self-clause-ok c = gives_closed c.args.self.now (ap (λ (r : Rest). r.closed) (sym c.self.view_is) ∙ c.if-self.true)

pub returns-in-Unfinished-clause-ok : goal.returns-in-Unfinished-clause-ok
returns-in-Unfinished-clause-ok c =
    let P : Rest → Type 0 = λ r. Gives r None (record { bytes = drop (c.self.inside.start + c.find_first-first.result.skipped) c.self.inside.bytes.items; closed = c.self.inside.closed }) in
    let I : List ℕ → Type 0 = λ xs. IsFirst xs c.find_first-first.result in
    let e : c.rest_from-rest.result.now ≡ drop c.self.inside.start c.self.inside.bytes.items = c.rest_from-rest.ensures ∙ ap (drop c.self.inside.start) c.deref.ensures.value in
    let text : List ℕ = drop c.find_first-first.result.skipped (drop c.self.inside.start c.self.inside.bytes.items) in
    subst P c.self.view_is (gives_none c.self.inside.bytes.items c.self.inside.start c.self.inside.closed c.find_first-first.result c.if-self.false
    (subst I e c.find_first-first.ensures) (ap (meant_by text) c.in-Unfinished.is))

pub returns-in-Refused-clause-ok : goal.returns-in-Refused-clause-ok
returns-in-Refused-clause-ok c =
    let P : Rest → Type 0 = λ r. Gives r (Some (record { ask = Bad c.in-Refused.status; closing = true })) (record { bytes = drop (c.self.inside.start + (c.find_first-first.result.skipped + c.in-Refused.size)) c.self.inside.bytes.items; closed = true }) in
    let I : List ℕ → Type 0 = λ xs. IsFirst xs c.find_first-first.result in
    let e : c.rest_from-rest.result.now ≡ drop c.self.inside.start c.self.inside.bytes.items = c.rest_from-rest.ensures ∙ ap (drop c.self.inside.start) c.deref.ensures.value in
    let text : List ℕ = drop c.find_first-first.result.skipped (drop c.self.inside.start c.self.inside.bytes.items) in
    subst P c.self.view_is (gives_some c.self.inside.bytes.items c.self.inside.start c.in-Refused.size c.self.inside.closed c.find_first-first.result _ c.if-self.false
    (subst I e c.find_first-first.ensures) (ap (λ (f : Found). message_of (meant_by text f)) c.in-Refused.is) (ap (λ (f : Found). size_of (meant_by text f)) c.in-Refused.is))

pub returns-in_ok-message-in-Whole-clause-ok : goal.returns-in_ok-message-in-Whole-clause-ok
returns-in_ok-message-in-Whole-clause-ok c =
    let m = c.in_ok-message-in-Whole.message in
    let P : Rest → Type 0 = λ r. Gives r (Some m) (record { bytes = drop (c.self.inside.start + (c.find_first-first.result.skipped + c.in-Whole.frame.end)) c.self.inside.bytes.items; closed = m.closing }) in
    let I : List ℕ → Type 0 = λ xs. IsFirst xs c.find_first-first.result in
    let e : c.rest_from-rest.result.now ≡ drop c.self.inside.start c.self.inside.bytes.items = c.rest_from-rest.ensures ∙ ap (drop c.self.inside.start) c.deref.ensures.value in
    let text : List ℕ = drop c.find_first-first.result.skipped (drop c.self.inside.start c.self.inside.bytes.items) in
    let o = rw (c.rest_from-text.ensures, e) at c.in_ok-message-in-Whole.ensures in
    subst P c.self.view_is (gives_some c.self.inside.bytes.items c.self.inside.start c.in-Whole.frame.end c.self.inside.closed c.find_first-first.result m c.if-self.false
    (subst I e c.find_first-first.ensures) (ap (λ (f : Found). message_of (meant_by text f)) c.in-Whole.is ∙ o) (ap (λ (f : Found). size_of (meant_by text f)) c.in-Whole.is))
