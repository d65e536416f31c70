-- The levels of a sequence: pages of items, pages of those, and pages of those again.
use Rattle.std.specs.Prelude.{◌≡◌, ℕ, List, length}
use Rattle.std.specs.List.{AllByRecursion, flat_map}
use Rattle.std.specs.List.Sorted.{IsStrictlySortedBy}
use Rattle.std.specs.declared.cmp.Ordering.{Ordering}
use Rattle.shared_pages.specs.declared.node.Single.{Single}
use Rattle.shared_pages.specs.declared.page.Page.{Page}
use Rattle.shared_pages.specs.Singles.{single_item, IsSingle}
use Rattle.shared_pages.specs.Pages.{page_items, IsPage}

-- the items of a leaf
abbrev pub leaf_items : {T : Type 0} → Page (Single T) → List T
leaf_items leaf = page_items single_item leaf

-- the items of a branch
abbrev pub branch_items : {T : Type 0} → Page (Page (Single T)) → List T
branch_items branch = page_items leaf_items branch

-- the items of a trunk
abbrev pub trunk_items : {T : Type 0} → Page (Page (Page (Single T))) → List T
trunk_items trunk = page_items branch_items trunk

-- a leaf of items
abbrev pub IsLeaf : {T : Type 0} → Page (Single T) → Type 0
IsLeaf leaf = IsPage single_item IsSingle leaf

-- a branch of leaves
abbrev pub IsBranch : {T : Type 0} → Page (Page (Single T)) → Type 0
IsBranch branch = IsPage leaf_items IsLeaf branch

-- a trunk of branches
abbrev pub IsTrunk : {T : Type 0} → Page (Page (Page (Single T))) → Type 0
IsTrunk trunk = IsPage branch_items IsBranch trunk

-- trunks that hold so many items, in order
pub record IsSequence {T : Type 0} (cmp : T → T → Ordering) (trunks : List (Page (Page (Page (Single T))))) (count : ℕ) : Type 0 where
  pub whole : AllByRecursion IsTrunk trunks
  pub sorted : IsStrictlySortedBy cmp (flat_map trunk_items trunks)
  pub counted : count ≡ length (flat_map trunk_items trunks)
