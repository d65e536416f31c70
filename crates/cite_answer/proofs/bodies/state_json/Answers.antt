use Rattle.std.proofs.Common.{refl}
use Rattle.cite_answer.proofs.Texts.{columns_have_no_float}
use Rattle.cite_answer.proofs.bodies.state_json.Goals as goal

pub print-requires : goal.print-requires
print-requires c = rw (c.in_ok-value.ensures, c.in_ok-columns.ensures, columns_have_no_float c.as_slice.result.now) refl
