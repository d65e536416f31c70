use Rattle.std.proofs.Common.{◌∙◌, sym, ap}
use Rattle.std.specs.Result.{result_ok}
use Rattle.identifiers.proofs.Digits.{number_is_text, number_is_parsed}
use Rattle.identifiers.proofs.reading.parse_number.Goals as goal

pub returns-in-Err : goal.returns-in-Err
returns-in-Err c n number = absurd (c.in-Err.ensures.cases.0 (number_is_text n c.args.digits.now number))

pub returns-in-Ok : goal.returns-in-Ok
returns-in-Ok c n number =
    c.ok.ensures.value
    ∙ ap result_ok (number_is_parsed n c.in-Ok.digits.now c.parse.result (number.0, number.1, number.2 ∙ sym c.in-Ok.ensures.cases.0) c.parse.ensures.value.0)
