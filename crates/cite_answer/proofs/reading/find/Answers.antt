use Rattle.std.proofs.Common.{◌≡◌, ℕ, List, Option, Some, None, ap, ◌∙◌, subst}
use Rattle.cite_schema.specs.declared.dataset.Dataset.{Dataset}
use Rattle.identifiers.specs.Names.{IsReading}
use Rattle.identifiers.specs.declared.named.Named.{Named}
use Rattle.cite_answer.specs.Reads.{NotAName}
use Rattle.cite_answer.proofs.Finding.{means_read, found_there, found_nowhere}
use Rattle.cite_answer.proofs.reading.find.Goals as goal

pub returns-in-None : goal.returns-in-None
returns-in-None c = λ a shows.
    let same = c.as_slice.ensures ∙ ap (λ (d : Dataset). d.prefix) c.dataset.ensures in
    let reading = subst (λ (r : Option Named). IsReading c.as_slice.result.now c.args.text.now r) c.in-None.is c.read.ensures in
    (NotAName, means_read c.args.seen.now a c.as_slice.result.now c.args.text.now None shows same reading, tt)

pub returns-in-Ok : goal.returns-in-Ok
returns-in-Ok c = λ a shows.
    let same = c.as_slice.ensures ∙ ap (λ (d : Dataset). d.prefix) c.dataset.ensures in
    let reading = subst (λ (r : Option Named). IsReading c.as_slice.result.now c.args.text.now r) (c.in-Some-Subset.is ∙ ap Some c.in-Some-Subset.field-0-is) c.read.ensures in
    found_there c.args.seen.now a c.as_slice.result.now c.args.text.now c.in-Some-Subset.number c.in-Ok.citation shows same reading c.in-Ok.ensures.found

pub returns-in-Err : goal.returns-in-Err
returns-in-Err c = λ a shows.
    let same = c.as_slice.ensures ∙ ap (λ (d : Dataset). d.prefix) c.dataset.ensures in
    let reading = subst (λ (r : Option Named). IsReading c.as_slice.result.now c.args.text.now r) (c.in-Some-Subset.is ∙ ap Some c.in-Some-Subset.field-0-is) c.read.ensures in
    found_nowhere c.args.seen.now a c.as_slice.result.now c.args.text.now c.in-Some-Subset.number shows same reading c.in-Err.ensures.fault.0
