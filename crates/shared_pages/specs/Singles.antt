-- Items alone.
use Rattle.std.specs.Prelude.{Bool, false, List, [], ◌∷◌}
use Rattle.std.specs.declared.cmp.Ordering.{Ordering}
use Rattle.std.specs.Ordering.{is_eq}
use Rattle.shared_pages.specs.declared.edit.Edit.{Edit}
use Rattle.shared_pages.specs.declared.node.Single.{Single}
use Rattle.shared_pages.specs.Edits.{place}

-- the item, as a list
abbrev pub single_item : {T : Type 0} → Single T → List T
single_item n = n.item ∷ []

-- an item alone is well formed
abbrev pub IsSingle : {T : Type 0} → Single T → Type 0
IsSingle n = Unit {0}

-- whether the first edit is at the item
abbrev pub starts_at : {T : Type 0} → (T → T → Ordering) → List (Edit T) → T → Bool
starts_at cmp [] x = false
starts_at cmp (e ∷ es) x = is_eq (cmp (place e) x)
