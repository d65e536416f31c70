use Rattle.std.proofs.Common.{sym, subst}
use Rattle.cite_http.specs.Reading.{ReadsHead, Good, Bad, Found}
use Rattle.cite_http.proofs.Searching.{unfinished_map, head_waits}
use Rattle.cite_http.proofs.reading.with_head.Goals as goal

pub returns-in-Some-clause-found : goal.returns-in-Some-clause-found
returns-in-Some-clause-found c =
    let x = c.in-Some.ensures.some in
    let P : Found → Type 0 = λ f. ReadsHead c.args.text.now c.args.n f in
    subst P (sym (c.answer.ensures.found x.0 x.1)) (Good x.0 x.1.fits)

pub returns-in-None-clause-found : goal.returns-in-None-clause-found
returns-in-None-clause-found c = Bad c.in-None.ensures.none

pub returns-in-Some-clause-waits : goal.returns-in-Some-clause-waits
returns-in-Some-clause-waits c =
    let x = c.in-Some.ensures.some in
    unfinished_map c.answer.result (λ progress w other. head_waits c.args.text.now other c.args.n progress.wanted x.0 x.1.fits (w x.0 x.1)) c.answer.ensures.waits
