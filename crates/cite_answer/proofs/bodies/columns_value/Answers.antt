use Rattle.std.proofs.Common.{◌∙◌}
use Rattle.std.specs.Str.{is_utf8}
use Rattle.cite_answer.proofs.Texts.{column_is_utf8}
use Rattle.cite_answer.proofs.bodies.columns_value.Goals as goal

pub string_of-requires : goal.string_of-requires
string_of-requires c = rw c.as_slice.ensures (column_is_utf8 c.args.columns.now c.loop-column.column-index c.column-item.result c.requires c.loop-column-test.true c.column-item.is)
