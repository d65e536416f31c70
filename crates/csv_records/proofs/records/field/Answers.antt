use Rattle.std.proofs.Common.{◌∙◌, sym, []}
use Rattle.std.proofs.lemmas.Option.{slice_get-get_or}
use Rattle.csv.specs.Records.{fields_of}
use Rattle.csv_records.proofs.Fields.{field_at_is}
use Rattle.csv_records.proofs.records.field.Goals as goal

pub unreachable-requires : goal.unreachable-requires
unreachable-requires c =
    let none = c.in-None.ensures.value ∙ field_at_is (fields_of c.args.line.now) c.args.at in
    let some = slice_get-get_or (fields_of c.args.line.now) c.args.at [] c.requires in
    cc

pub returns : goal.returns
returns c = sym (field_at_is (fields_of c.args.line.now) c.args.at) ∙ sym c.in-Some.ensures.value
