-- The bytes of a result: a line of labels, and then a line for each row.
use Rattle.std.specs.Prelude.{ℕ, List, [], ◌∷◌, ◌++◌, Option, Some, None, map, cond, nat_eq, slice_get}
use Rattle.std.specs.List.{flat_map}
use Rattle.cite_schema.specs.Values.{printed}
use Rattle.cite_schema.specs.declared.value.Value.{Value}
use Rattle.cite_schema.specs.declared.item.Item.{Item}
use Rattle.cite_schema.specs.declared.item.Shown.{Shown}
use Rattle.cite_schema.specs.declared.item.Shown.TheVariants.{Column, Constant}

-- a text with each double quote doubled
abbrev pub doubled : List ℕ → List ℕ
doubled [] = []
doubled (b ∷ bs) = cond (nat_eq b 34) (34 ∷ 34 ∷ doubled bs) (b ∷ doubled bs)

-- a field: a text in double quotes, with inner ones doubled
abbrev pub quoted : List ℕ → List ℕ
quoted t = 34 ∷ (doubled t ++ (34 ∷ []))

-- what stands behind a field: the further ones, each after a comma, and a line feed
abbrev pub line_end : List (List ℕ) → List ℕ
line_end [] = 10 ∷ []
line_end (t ∷ ts) = 44 ∷ (quoted t ++ line_end ts)

-- a line: the fields with commas between, and a line feed
abbrev pub line : List (List ℕ) → List ℕ
line [] = line_end []
line (t ∷ ts) = quoted t ++ line_end ts

-- what a cell prints
abbrev pub printed_cell : Option Value → List ℕ
printed_cell None = []
printed_cell (Some v) = printed v

-- what an item shows of a row
abbrev pub shown : Shown → List Value → List ℕ
shown (Constant bs) r = bs
shown (Column i) r = printed_cell (slice_get r i)

-- what the items show of a row
abbrev pub cells : List Item → List Value → List (List ℕ)
cells items r = map (λ i. shown i.what r) items

-- the labels of the items
abbrev pub labels : List Item → List (List ℕ)
labels items = map (λ i. i.label) items

-- the line of labels, and then a line for each row
abbrev pub laid_out : List Item → List (List Value) → List ℕ
laid_out items rows = line (labels items) ++ flat_map (λ r. line (cells items r)) rows
