-- What steps make of a form: after each step the settled form that gives the same bytes as the form's parts after it.
use Rattle.std.specs.Prelude.{ℕ, zero, suc, ◌-◌, Bool, true, false, ◌&&◌, ◌==◌, List, [], ◌∷◌, ◌++◌, Option, Some, None, option_map, map, nat_lt, IsSomeAnd, ◌≡◌, if◌then◌else◌}
use Rattle.std.specs.List.{list_any}
use Rattle.cite_schema.specs.Answers.{Plan, Alike}
use Rattle.cite_schema.specs.declared.value.Value.{Value}
use Rattle.cite_schema.specs.declared.schema.Column as schema_column
use Rattle.cite_schema.specs.declared.item.Item.{Item}
use Rattle.cite_schema.specs.declared.item.Dir.{Dir}
use Rattle.cite_schema.specs.declared.item.Shown.{Shown}
use Rattle.cite_schema.specs.declared.item.Shown.TheVariants.{Column, Constant}
use Rattle.cite_schema.specs.declared.step.Step.{Step}
use Rattle.cite_schema.specs.declared.step.Step.TheVariants.{Add, DropColumn, RetypeToText}
use Rattle.subset_query.specs.declared.form.ColumnSet.{ColumnSet}
use Rattle.subset_query.specs.declared.form.Normal.{Normal}
use Rattle.subset_query.specs.declared.form.Normal.TheVariants as forms
use Rattle.subset_query.specs.Forms.{formed, in_set, printed_columns, order_columns, IsSettled}
use Rattle.migration.specs.Places.{without}
use Rattle.migration.specs.Columns.{place_of, columns_after}
use Rattle.migration.specs.Sets.{set_after}

-- which values a set holds
abbrev pub members : List ColumnSet → List (Value → Bool)
members sets = map in_set sets

-- what belongs to each column's set, with that of the column at a place as it is after the step
abbrev pub members_after : Step → ℕ → List ColumnSet → Option (List (Value → Bool))
members_after step i [] = Some []
members_after step zero (s ∷ ss) = option_map (λ test. test ∷ members ss) (set_after step s)
members_after step (suc i) (s ∷ ss) = option_map (λ tests. in_set s ∷ tests) (members_after step i ss)

-- each cell passes its column's test
abbrev pub all_within : List (Value → Bool) → List Value → Bool
all_within [] [] = true
all_within (t ∷ ts) (v ∷ vs) = t v && all_within ts vs
all_within _ _ = false

-- the column is one of those
abbrev pub is_among : ℕ → List ℕ → Bool
is_among i columns = list_any (λ c. c == i) columns

-- the column's number where column i is gone
abbrev pub number_without : ℕ → ℕ → ℕ
number_without i c = if nat_lt i c then c - 1 else c

-- what an item shows where column i is gone
abbrev pub shown_without : ℕ → Shown → Shown
shown_without i (Column c) = Column (number_without i c)
shown_without i (Constant bs) = Constant bs

-- the item, and the order column, where column i is gone
abbrev pub item_without : ℕ → Item → Item
item_without i item = record item { what = shown_without i item.what }

abbrev pub dir_without : ℕ → Dir → Dir
dir_without i d = record d { column = number_without i d.column }

-- the parts of a form: what belongs to each column's set, the items and the order
abbrev pub parts : List (Value → Bool) → List Item → List Dir → Plan
parts tests items order = record { keeps = all_within tests; order = order; items = items }

-- the parts after a step that names the column at a place
abbrev pub parts_at : Step → ℕ → List ColumnSet → List Item → List Dir → Option Plan
parts_at (Add c v) i sets items order = Some (parts (members sets ++ (λ w. true) ∷ []) items order)
parts_at (DropColumn c) i sets items order =
    if is_among i (printed_columns items ++ order_columns order) then None
    else option_map (λ tests. parts (without i tests) (map (item_without i) items) (map (dir_without i) order)) (members_after (DropColumn c) i sets)
parts_at (RetypeToText c) i sets items order =
    if is_among i (order_columns order) then None
    else option_map (λ tests. parts tests items order) (members_after (RetypeToText c) i sets)
parts_at step i sets items order = option_map (λ tests. parts tests items order) (members_after step i sets)

-- the parts of a form after a step, where it is carried; a form that picks no row stays as it is
abbrev pub parts_after : List schema_column.Column → Step → Normal → Option Plan
parts_after columns step (forms.Nothing labels) = Some (formed (forms.Nothing labels))
parts_after columns step (forms.Some sets items order) = parts_at step (place_of columns step) sets items order

-- the other form is what one step makes of the form: the settled one that gives the bytes of the parts
abbrev pub CarriesOne : List schema_column.Column → Step → Normal → Normal → Type 0
CarriesOne columns step form other =
    IsSomeAnd (parts_after columns step form) (λ p. IsSettled (columns_after columns step) other × Alike (columns_after columns step) p (formed other))

-- the other form is what steps make of the form, one after the other
abbrev pub Carries : List schema_column.Column → List Step → Normal → Normal → Type 0
Carries columns [] form other = form ≡ other
Carries columns (x ∷ xs) form other = (next : Normal) × CarriesOne columns x form next × Carries (columns_after columns x) xs next other

-- what steps make of the form: a form to which they carry it, or none where there is no such form
abbrev pub IsCarriedForm : List schema_column.Column → List Step → Normal → Option Normal → Type 0
IsCarriedForm columns steps form None = (other : Normal) → Carries columns steps form other → ⊥
IsCarriedForm columns steps form (Some other) = Carries columns steps form other
