use Rattle.std.proofs.Common.{◌≤◌, ℕ, List, arith, sym, ◌∙◌, subst, IsUtf8}
use Rattle.std.proofs.lemmas.List.{length-take}
use Rattle.cite_http.proofs.Bodies.{answer_whole, range_taken}
use Rattle.cite_http.proofs.reading.answer.Goals as goal

pub returns-clause-found : goal.returns-clause-found
returns-clause-found c =
    λ h at.
    let fits : c.args.spans.len ≤ c.args.n = omega (arith, c.requires.within.section.len_fits, length-take c.args.n c.args.text.now) in
    answer_whole c.args.text.now c.args.n c.in-Some.length c.is_last-closing.result h c.args.spans c.args.headers.now c.requires.within fits at
    (sym c.has_field.ensures ∙ c.if-has_field.false) (sym c.body_length.ensures ∙ c.in-Some.is) (omega arith) (omega arith) c.is_last-closing.ensures

pub returns-clause-within : goal.returns-clause-within
returns-clause-within c =
    let within = c.requires.within in
    let fits : c.args.spans.len ≤ c.args.n = omega (arith, within.section.len_fits, length-take c.args.n c.args.text.now) in
    let P : List ℕ → Type 0 = λ t. IsUtf8 t in
    record {
      method = (within.method.0, omega (arith, within.method.1, fits, c.requires.room));
      target = (within.path.0, omega (arith, within.path.1, fits, c.requires.room));
      target_text = subst P (range_taken c.args.text.now c.args.n c.args.spans.path.start c.args.spans.path.end within.path.0 (omega (arith, within.path.1, fits))) c.requires.target;
      some = omega arith;
      body = omega arith;
      end = omega arith;
    }
