use Rattle.std.proofs.Common.{[]}
use Rattle.archive_journal.proofs.tests.open_and_add.Goals as goal

pub add-requires-clause-stands : goal.add-requires-clause-stands
add-requires-clause-stands g c = λ honest. (c.in-Ok.field-0-1.items, [], c.in-Ok.ensures.stands honest [])
