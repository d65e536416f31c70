use Rattle.std.proofs.Common.{◌≡◌, ◌+◌, length}
use Rattle.shared_pages.specs.Walks.{to_come}
use Rattle.shared_pages.proofs.Walking.{branch_turns, trunk_turns}
use Rattle.shared_pages.proofs.walk.ItemsIterator.next.Given as goal

abbrev pub invariant-loop-first : goal.invariant-loop-first
invariant-loop-first g l = to_come l.self ≡ to_come l.initial.self

abbrev pub decreases-loop-first : goal.decreases-loop-first
decreases-loop-first g l = length l.self.leaves.now + branch_turns l.self.branches.now + trunk_turns l.self.trunks.now
