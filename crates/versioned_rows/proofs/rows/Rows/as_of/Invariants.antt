use Rattle.std.proofs.Common.{◌≡◌, ◌++◌}
use Rattle.std.specs.List.{flat_map}
use Rattle.shared_pages.specs.Walks.{to_come}
use Rattle.versioned_rows.proofs.Tables.{shown, table_of}
use Rattle.versioned_rows.proofs.rows.Rows.as_of.Given as goal

abbrev pub invariant-loop-kept : goal.invariant-loop-kept
invariant-loop-kept l =
    goal.iterator-loop-kept.can_next l.kept-iterator
    × goal.iterator-loop-kept.is_finite l.kept-iterator
    × (l.table ++ flat_map (shown l.version) (to_come l.kept-iterator) ≡ table_of l.version l.self.kept)
