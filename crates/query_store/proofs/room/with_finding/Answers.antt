use Rattle.std.specs.List.Sorted.{IsStrictlySortedBy}
use Rattle.query_store.proofs.room.with_finding.Goals as goal

pub edit-requires : goal.edit-requires
unfolding IsStrictlySortedBy
edit-requires c = (tt, tt)
