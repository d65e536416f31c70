use Rattle.std.proofs.Common.{◌≡◌, ◌+◌, ◌∙◌, sym, ap, arith, Some, map, drop, slice_get}
use Rattle.std.specs.Prelude.{option_map}
use Rattle.std.proofs.lemmas.Option.{slice_get-get_or, slice_get-map}
use Rattle.std.proofs.lemmas.List.{length-map, length-drop}
use Rattle.csv.specs.Records.{fields_of}
use Rattle.cite_schema.specs.declared.schema.Column.{Column}
use Rattle.csv_records.proofs.Fields.{slice_get-drop}
use Rattle.batches.proofs.Headers.{name_more, name_other, all_names}
use Rattle.batches.proofs.header.has_names.Goals as goal

pub returns-then-not-is_text : goal.returns-then-not-is_text
returns-then-not-is_text c =
    let next : 1 + c.loop-i.i ≡ c.loop-i.i + 1 = omega arith in
    let at = slice_get-drop 1 (fields_of c.args.head.now) c.loop-i.i ∙ ap (λ k. slice_get (fields_of c.args.head.now) k) next ∙ c.field.ensures in
    let there = slice_get-map (λ (k : Column). k.name) c.args.columns.now c.loop-i.i ∙ ap (option_map (λ (k : Column). k.name)) (slice_get-get_or c.args.columns.now c.loop-i.i c.index-columns-i.result c.loop-i-test.true) ∙ ap Some (sym c.as_slice.ensures) in
    (λ wrong. absurd (cc), λ same. absurd (name_other (drop 1 (fields_of c.args.head.now)) (map (λ (k : Column). k.name) c.args.columns.now) c.loop-i.i _ _ at there (λ e. let true_too = c.if-not-is_text.ensures.1 e in absurd (cc)) same))

pub loop-i-preserved : goal.loop-i-preserved
loop-i-preserved c =
    let next : 1 + c.loop-i.i ≡ c.loop-i.i + 1 = omega arith in
    let at = slice_get-drop 1 (fields_of c.args.head.now) c.loop-i.i ∙ ap (λ k. slice_get (fields_of c.args.head.now) k) next ∙ c.field.ensures in
    let there = slice_get-map (λ (k : Column). k.name) c.args.columns.now c.loop-i.i ∙ ap (option_map (λ (k : Column). k.name)) (slice_get-get_or c.args.columns.now c.loop-i.i c.index-columns-i.result c.loop-i-test.true) ∙ ap Some (sym c.as_slice.ensures) in
    name_more (drop 1 (fields_of c.args.head.now)) (map (λ (k : Column). k.name) c.args.columns.now) c.loop-i.i _ _ at there (c.is_text.ensures.0 c.if-not-is_text.false) c.loop-i.invariant

pub returns : goal.returns
returns c =
    let test = c.loop-i-test.false in
    let end = c.loop-i.auto.i-end in
    let width = c.requires.width in
    let shorter = length-drop 1 (fields_of c.args.head.now) in
    let names = length-map c.args.columns.now (λ (k : Column). k.name) in
    (λ yes_. all_names (drop 1 (fields_of c.args.head.now)) (map (λ (k : Column). k.name) c.args.columns.now) c.loop-i.i (omega (arith, test, end, width, shorter)) (omega (arith, test, end, names)) c.loop-i.invariant, λ same. cc)
