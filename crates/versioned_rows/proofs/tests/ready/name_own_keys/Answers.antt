use Rattle.std.proofs.Common.{refl}
use Rattle.versioned_rows.proofs.Ready.{rising_apart}
use Rattle.versioned_rows.proofs.tests.ready.name_own_keys.Goals as goal

pub returns-then-are_rising : goal.returns-then-are_rising
returns-then-are_rising c = λ t. rising_apart c.args.lines.now (c.if-are_rising.ensures refl)
