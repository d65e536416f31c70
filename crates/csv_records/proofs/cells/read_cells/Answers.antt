use Rattle.std.proofs.Common.{◌<◌, ◌∙◌, sym, ap, arith, Some, length, drop}
use Rattle.std.proofs.lemmas.Option.{slice_get-get_or}
use Rattle.csv.specs.Records.{fields_of}
use Rattle.cite_schema.proofs.TableTexts.{cell_more, bad_cell_at}
use Rattle.csv_records.proofs.Fields.{slice_get-drop}
use Rattle.csv_records.proofs.cells.read_cells.Goals as goal

pub returns-in-None : goal.returns-in-None
returns-in-None c =
    let none = sym (c.in_ok-value.ensures) ∙ c.in-None.is in
    let test = c.loop-i-test.true in
    let wide = c.len.ensures in
    let width = c.requires.width in
    let within : c.loop-i.i < length c.args.columns.now = omega (arith, test, wide, width) in
    let here = slice_get-get_or c.args.columns.now c.loop-i.i c.index-columns-i.result within in
    let there = slice_get-drop c.args.from (fields_of c.args.line.now) c.loop-i.i ∙ c.field.ensures in
    bad_cell_at c.args.columns.now (drop c.args.from (fields_of c.args.line.now)) c.loop-i.i _ _ c.loop-i.values here there none c.loop-i.invariant

pub loop-i-preserved : goal.loop-i-preserved
loop-i-preserved c =
    let is = sym (c.in_ok-value.ensures) ∙ c.in-Some.is in
    let test = c.loop-i-test.true in
    let wide = c.len.ensures in
    let width = c.requires.width in
    let within : c.loop-i.i < length c.args.columns.now = omega (arith, test, wide, width) in
    let here = slice_get-get_or c.args.columns.now c.loop-i.i c.index-columns-i.result within in
    let there = slice_get-drop c.args.from (fields_of c.args.line.now) c.loop-i.i ∙ c.field.ensures in
    cell_more c.args.columns.now (drop c.args.from (fields_of c.args.line.now)) c.loop-i.i _ _ c.in-Some.value c.loop-i.values here there is c.loop-i.invariant
    ∙ ap Some (sym c.in_ok-push-in-Some.ensures.ok)
