use Rattle.std.proofs.Common.{arith, ap, ◌∙◌}
use Rattle.cite_schema.specs.Numbers.{number_of}
use Rattle.cite_schema.proofs.NumberTexts.{parsed_is, too_long, no_text}
use Rattle.cite_schema.proofs.number.read_int.Goals as goal

pub returns-then-digit_count-gt32 : goal.returns-then-digit_count-gt32
returns-then-digit_count-gt32 c = too_long _ (omega arith)

pub returns-in-Ok : goal.returns-in-Ok
returns-in-Ok c =
    let at = parsed_is _ _ c.parse.ensures.value.0 (rw (c.in-Ok.ensures.cases.0, ← c.digit_count.ensures) (omega arith)) in
    c.ok.ensures.value ∙ at ∙ ap number_of c.in-Ok.ensures.cases.0

pub returns-in-Err : goal.returns-in-Err
returns-in-Err c = no_text _ c.in-Err.ensures.cases.0
