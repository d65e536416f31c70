use Rattle.std.proofs.Common.{ap, subst, refl, List, ℕ, drop, arith, length-drop, true}
use Rattle.cite_http.specs.Messages.{message_of, size_of}
use Rattle.cite_http.specs.Offsets.{meant_by}
use Rattle.cite_http.specs.First.{IsFirst}
use Rattle.cite_http.specs.Waiting.{LiesWithin, IsFrame}
use Rattle.cite_http.specs.declared.found.Found.{Found}
use Rattle.cite_http.specs.declared.ask.Ask.TheVariants.{Bad}
use Rattle.cite_http.proofs.Giving.{ends_waiting, ends_closing, goes_on}
use Rattle.cite_http.proofs.laws.texts_have_messages.Goals as goal

pub returns-in-Unfinished : goal.returns-in-Unfinished
returns-in-Unfinished c =
    let I : List ℕ → Type 0 = λ xs. IsFirst xs c.find_first-first.result in
    let text : List ℕ = drop c.find_first-first.result.skipped (drop c.loop-frame.start c.args.text.now) in
    c.loop-frame.invariant.leads (ends_waiting c.args.text.now c.loop-frame.start c.find_first-first.result (subst I c.rest_from.ensures c.find_first-first.ensures) (ap (meant_by text) c.in-Unfinished.is))

pub returns-in-Refused : goal.returns-in-Refused
returns-in-Refused c =
    let I : List ℕ → Type 0 = λ xs. IsFirst xs c.find_first-first.result in
    let text : List ℕ = drop c.find_first-first.result.skipped (drop c.loop-frame.start c.args.text.now) in
    c.loop-frame.invariant.leads (ends_closing c.args.text.now c.loop-frame.start c.in-Refused.field-1 c.find_first-first.result (record { ask = Bad c.in-Refused.field-0; closing = true })
    (subst I c.rest_from.ensures c.find_first-first.ensures) (ap (λ (f : Found). message_of (meant_by text f)) c.in-Refused.is) (ap (λ (f : Found). size_of (meant_by text f)) c.in-Refused.is) refl)

pub returns-then-frame : goal.returns-then-frame
returns-then-frame c =
    let I : List ℕ → Type 0 = λ xs. IsFirst xs c.find_first-first.result in
    let text : List ℕ = drop c.find_first-first.result.skipped (drop c.loop-frame.start c.args.text.now) in
    c.loop-frame.invariant.leads (ends_closing c.args.text.now c.loop-frame.start c.in-Whole.frame.end c.find_first-first.result _
    (subst I c.rest_from.ensures c.find_first-first.ensures) (ap (λ (f : Found). message_of (meant_by text f)) c.in-Whole.is) (ap (λ (f : Found). size_of (meant_by text f)) c.in-Whole.is) c.if-frame.true)

pub loop-frame-preserved : goal.loop-frame-preserved
loop-frame-preserved c =
    let I : List ℕ → Type 0 = λ xs. IsFirst xs c.find_first-first.result in
    let text : List ℕ = drop c.find_first-first.result.skipped (drop c.loop-frame.start c.args.text.now) in
    let i : IsFirst (drop c.loop-frame.start c.args.text.now) c.find_first-first.result = subst I c.rest_from.ensures c.find_first-first.ensures in
    let W : Found → Type 0 = λ f. LiesWithin text f in
    let w : IsFrame text c.in-Whole.frame = subst W c.in-Whole.is i.parts in
    record {
      within = omega (arith, w.end, i.within, c.loop-frame.invariant.within, length-drop c.find_first-first.result.skipped (drop c.loop-frame.start c.args.text.now), length-drop c.loop-frame.start c.args.text.now);
      leads = λ h. c.loop-frame.invariant.leads (goes_on c.args.text.now c.loop-frame.start c.in-Whole.frame.end c.find_first-first.result _
          (subst I c.rest_from.ensures c.find_first-first.ensures) (ap (λ (f : Found). message_of (meant_by text f)) c.in-Whole.is) (ap (λ (f : Found). size_of (meant_by text f)) c.in-Whole.is) c.if-frame.false h);
    }
