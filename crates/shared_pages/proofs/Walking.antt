-- The pages that a walk has still to turn.
use Rattle.std.proofs.Common.{ℕ, ◌+◌, List, [], ◌∷◌, length}
use Rattle.shared_pages.specs.declared.node.Single.{Single}
use Rattle.shared_pages.specs.declared.page.Page.{Page}

-- branches and their leaves
abbrev pub branch_turns : {T : Type 0} → List (Page (Page (Single T))) → ℕ
branch_turns [] = 0
branch_turns (b ∷ bs) = length b.nodes.items + branch_turns bs + 1

-- trunks, their branches and their leaves
abbrev pub trunk_turns : {T : Type 0} → List (Page (Page (Page (Single T)))) → ℕ
trunk_turns [] = 0
trunk_turns (t ∷ ts) = branch_turns t.nodes.items + trunk_turns ts + 1
