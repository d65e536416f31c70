use Rattle.stable_order.proofs.Arranged.{rows_rise}
use Rattle.stable_order.proofs.laws.rows_stand_as_in_answers.Goals as goal

pub returns : goal.returns
returns c = λ order rows h. rows_rise order rows h
