use Rattle.std.proofs.Common.{take}
use Rattle.std.specs.List.{flat_map}
use Rattle.shared_pages.specs.Edits.{given}
use Rattle.shared_pages.specs.Nodes.{Adds}
use Rattle.shared_pages.specs.Singles.{single_item, IsSingle}
use Rattle.shared_pages.proofs.node.put_all.Given as goal

abbrev pub invariant-loop-edit : goal.invariant-loop-edit
invariant-loop-edit g l = Adds single_item IsSingle l.initial.out.items l.out.items (flat_map given (take l.edit-index l.edits))
