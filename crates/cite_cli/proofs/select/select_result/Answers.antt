use Rattle.std.proofs.Common.{◌∙◌, sym, ap, subst, arith, length, inr, refl, List, ℕ}
use Rattle.cite_schema.specs.declared.schema.Column.{Column}
use Rattle.cite_schema.specs.Layout.{laid_out}
use Rattle.subset_query.specs.Forms.{formed}
use Rattle.csv_records.specs.Records.{left_of}
use Rattle.cite_cli.specs.Parts.{IsHeader, ArePicked}
use Rattle.cite_cli.specs.declared.refusal.Refusal.TheVariants.{ResultTooLarge}
use Rattle.csv_records.proofs.RecordSteps.{few_records}
use Rattle.cite_cli.proofs.Results.{some_items, picked_apart, is_result}
use Rattle.cite_cli.proofs.select.select_result.Goals as goal

pub read_rows-requires-clause-few : goal.read_rows-requires-clause-few
read_rows-requires-clause-few c =
    let header = c.in_ok-schema.ensures.ok in
    let few = few_records c.args.text.now in
    let whole = ap length (sym c.records_in-reader.ensures.left ∙ header.records_are) in
    omega (arith, few, whole, c.requires)

pub rows-requires : goal.rows-requires
rows-requires c = picked_apart _ _ _ c.in_ok-rows.rows c.in_ok-rows.ensures.ok

pub lay_out-requires : goal.lay_out-requires
lay_out-requires c =
    let some = some_items c.in_ok-schema.schema.columns c.in_ok-form.form c.in_ok-form.ensures.settled in
    omega (arith, some, ap length c.in_ok-items.ensures)

pub returns-in-Ok-clause-ok : goal.returns-in-Ok-clause-ok
returns-in-Ok-clause-ok c =
    let header = subst (λ (records : List (List (List ℕ))). IsHeader c.in_ok-schema.schema.columns records (left_of c.read_header.new.reader)) c.records_in-reader.ensures.left c.in_ok-schema.ensures.ok in
    let picked = subst (λ (columns : List Column). ArePicked columns (formed c.in_ok-form.form).keeps (left_of c.read_header.new.reader) c.in_ok-rows.rows) (c.as_slice.ensures ∙ c.columns.ensures.value) c.in_ok-rows.ensures.ok in (
      is_result c.args.column.now c.args.bounds.now c.args.text.now c.in_ok-schema.schema.columns (left_of c.read_header.new.reader) c.in_ok-form.form c.in_ok-rows.rows header c.in_ok-form.ensures.good c.in_ok-form.ensures.alike picked
          c.in_ok-items.items c.in_ok-rows-2.rows c.in-Ok.bytes c.in_ok-rows-2.ensures c.in_ok-items.ensures c.in-Ok.ensures.ok,
      omega (arith, c.in-Ok.ensures.within, ap length c.in-Ok.ensures.ok),
    )

pub returns-in-Err-TooLarge-clause-why : goal.returns-in-Err-TooLarge-clause-why
returns-in-Err-TooLarge-clause-why c =
    let header = subst (λ (records : List (List (List ℕ))). IsHeader c.in_ok-schema.schema.columns records (left_of c.read_header.new.reader)) c.records_in-reader.ensures.left c.in_ok-schema.ensures.ok in
    let picked = subst (λ (columns : List Column). ArePicked columns (formed c.in_ok-form.form).keeps (left_of c.read_header.new.reader) c.in_ok-rows.rows) (c.as_slice.ensures ∙ c.columns.ensures.value) c.in_ok-rows.ensures.ok in
    let size = rw c.in-Err-TooLarge.field-0-is at c.in-Err-TooLarge.ensures.too_large in
    inr (record {
      bytes = laid_out c.in_ok-items.items c.in_ok-rows-2.rows;
      result = is_result c.args.column.now c.args.bounds.now c.args.text.now c.in_ok-schema.schema.columns (left_of c.read_header.new.reader) c.in_ok-form.form c.in_ok-rows.rows header c.in_ok-form.ensures.good c.in_ok-form.ensures.alike picked
          c.in_ok-items.items c.in_ok-rows-2.rows (laid_out c.in_ok-items.items c.in_ok-rows-2.rows) c.in_ok-rows-2.ensures c.in_ok-items.ensures refl;
      large = size.0;
      refusal_is = ap ResultTooLarge size.1;
    })
