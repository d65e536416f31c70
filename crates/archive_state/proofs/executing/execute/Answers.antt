use Rattle.std.proofs.Common.{ap, arith, length}
use Rattle.archive_state.proofs.ExecuteGives.{keyed_own}
use Rattle.archive_state.proofs.executing.execute.Goals as goal

pub rows-requires : goal.rows-requires
rows-requires c = keyed_own c.in_ok-table.table c.in_ok-table.ensures.keyed

pub lay_out-requires : goal.lay_out-requires
lay_out-requires c = omega (arith, c.requires.items, ap length c.in_ok-items.ensures)
