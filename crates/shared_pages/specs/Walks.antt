-- What is left of a walk.
use Rattle.std.specs.Prelude.{◌≡◌, List, ◌++◌}
use Rattle.std.specs.List.{flat_map}
use Rattle.std.specs.List.Sorted.{IsStrictlySortedBy}
use Rattle.std.specs.declared.cmp.Ordering.{Ordering}
use Rattle.shared_pages.specs.declared.walk.Items.{Items}
use Rattle.shared_pages.specs.Singles.{single_item}
use Rattle.shared_pages.specs.Probes.{all_from}
use Rattle.shared_pages.specs.Sequences.{leaf_items, branch_items, trunk_items}

-- the items that are still to come
abbrev pub to_come : {T : Type 0} → Items T → List T
to_come s = flat_map single_item s.items.now ++ (flat_map leaf_items s.leaves.now ++ (flat_map branch_items s.branches.now ++ flat_map trunk_items s.trunks.now))

-- the items from a probe on are those of one node, and all items of the nodes behind it
pub record IsFrom {T N : Type 0} (cmp : T → T → Ordering) (items : N → List T) (whole : N → Type 0) (probe : T) (nodes : List N) (node : N) (rest : List N) : Type 0 where
  pub well_formed : whole node
  pub sorted : IsStrictlySortedBy cmp (items node)
  pub from : all_from cmp probe (flat_map items nodes) ≡ all_from cmp probe (items node) ++ flat_map items rest
