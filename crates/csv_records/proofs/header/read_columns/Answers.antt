use Rattle.std.proofs.Common.{◌∙◌, sym, ap, Some}
use Rattle.csv.specs.Records.{fields_of}
use Rattle.cite_schema.specs.TableTexts.{column_in}
use Rattle.cite_schema.proofs.TableTexts.{some_more, some_stop}
use Rattle.csv_records.proofs.header.read_columns.Goals as goal

pub returns-in-None : goal.returns-in-None
returns-in-None c =
    let none = sym (c.in_ok-column.ensures) ∙ c.in-None.is in
    sym (some_stop column_in (fields_of c.args.head.now) c.loop-i.i c.field.result.now c.field.ensures none)

pub loop-i-preserved : goal.loop-i-preserved
loop-i-preserved c =
    let is = sym (c.in_ok-column.ensures) ∙ c.in-Some.is in
    some_more column_in (fields_of c.args.head.now) c.loop-i.i c.field.result.now c.in-Some.column c.loop-i.columns c.field.ensures is c.loop-i.invariant
    ∙ ap Some (sym c.in_ok-push-in-Some.ensures.ok)
