use Rattle.std.proofs.Common.{SFits, rules, w64, ℤ, [], ◌∷◌, ◌++◌, refl, ap, ◌∙◌, sym}
use Rattle.cite_schema.specs.declared.value.Value.TheVariants.{Text}
use Rattle.std.proofs.lemmas.Int.{to_z-of_z}
use Rattle.csv_records.proofs.FirstAgain.{number_put, text_put, still_held}
use Rattle.csv_records.proofs.keys.Keys+Vec+u8.push_copy.Goals as goal

pub returns-in_err-push-in-Int-clause-err : goal.returns-in_err-push-in-Int-clause-err
returns-in_err-push-in-Int-clause-err c = search (rules, still_held)

pub returns-in_err-push-in-Text-clause-err : goal.returns-in_err-push-in-Text-clause-err
returns-in_err-push-in-Text-clause-err c = search (rules, still_held)

pub returns-in_ok-push-in-Int-clause-ok : goal.returns-in_ok-push-in-Int-clause-ok
returns-in_ok-push-in-Int-clause-ok c keys next are =
    let fits : SFits w64 c.in-Int.number = search rules in
    number_put (λ t. t.items) c.args.self.now _ keys c.args.key.now c.args.line next are c.in-Int.number c.in-Int.is
    (c.in_ok-push-in-Int.ensures.items ∙ ap (λ (z : ℤ). c.args.self.now.numbers.items ++ (z, c.args.line) ∷ []) (to_z-of_z w64 c.in-Int.number fits)) refl

pub returns-in_ok-push-in-Text-clause-ok : goal.returns-in_ok-push-in-Text-clause-ok
returns-in_ok-push-in-Text-clause-ok c keys next are =
    text_put (λ t. t.items) c.args.self.now _ keys c.args.key.now c.args.line next are c.into_vec.result (c.in-Text.is ∙ ap Text (sym (c.into_vec.ensures ∙ c.in_ok-copy-in-Text.ensures))) refl c.in_ok-push-in-Text.ensures.items
