-- Pages: nodes in one page.
use Rattle.std.specs.Prelude.{◌≡◌, ◌<◌, ◌≤◌, List, length}
use Rattle.std.specs.List.{AllByRecursion, flat_map}
use Rattle.shared_pages.specs.declared.page.TheConstants.{CAPACITY}
use Rattle.shared_pages.specs.declared.page.Page.{Page}

-- the items of a page, by what its nodes hold
abbrev pub page_items : {N T : Type 0} → (N → List T) → Page N → List T
page_items items s = flat_map items s.nodes.items

-- a page holds 1 to CAPACITY nodes, all well formed, and knows the number of its items
pub record IsPage {N T : Type 0} (items : N → List T) (whole : N → Type 0) (s : Page N) : Type 0 where
  pub some : 0 < length s.nodes.items
  pub few : length s.nodes.items ≤ CAPACITY
  pub nodes : AllByRecursion whole s.nodes.items
  pub counted : s.count ≡ length (flat_map items s.nodes.items)
