-- Nodes put into pages.
use Rattle.std.proofs.Common.{◌≡◌, ℕ, ◌≤◌, List, ◌++◌, length}
use Rattle.std.specs.List.{AllByRecursion, flat_map}
use Rattle.shared_pages.specs.declared.page.Page.{Page}
use Rattle.shared_pages.specs.Pages.{page_items, IsPage}

module _ {N T : Type 0} (items : N → List T) (whole : N → Type 0) where
  -- some nodes are in pages behind others, some on a page, and some left
  pub record IsPaging (old new : List (Page N)) (all page left : List N) (size : ℕ) : Type 0 where
    pub holds : flat_map (page_items items) new ++ (flat_map items page ++ flat_map items left) ≡ flat_map (page_items items) old ++ flat_map items all
    pub kept : AllByRecursion (IsPage items whole) old → AllByRecursion (IsPage items whole) new
    pub page_whole : AllByRecursion whole page
    pub left_whole : AllByRecursion whole left
    pub small : length page ≤ size
