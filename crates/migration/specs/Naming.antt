-- How the places of the columns that steps name are found, by the names of columns alone. Clauses of private functions
-- alone cite it.
use Rattle.std.specs.Prelude.{ℕ, Bool, true, ◌&&◌, List, [], ◌∷◌, ◌++◌, unwrap_or}
use Rattle.std.specs.List.{position}
use Rattle.std.specs.Ordering.{is_eq}
use Rattle.cite_schema.specs.Values.{text_cmp}
use Rattle.cite_schema.specs.declared.step.Step.{Step}
use Rattle.cite_schema.specs.declared.step.Step.TheVariants.{Rename, Add, DropColumn}
use Rattle.migration.specs.Places.{changed, without}
use Rattle.migration.specs.Columns.{column_named}
use Rattle.migration.specs.Harmless.{harmless_at}

-- the place of a name, counted from 0
abbrev pub name_place : List (List ℕ) → List ℕ → ℕ
name_place names name = unwrap_or (position (λ n. is_eq (text_cmp n name)) names) 0

-- the names of the columns after a step that names the one at a place
abbrev pub names_after : ℕ → Step → List (List ℕ) → List (List ℕ)
names_after i (Rename c to) names = changed (λ n. to) i names
names_after i (Add c v) names = names ++ c ∷ []
names_after i (DropColumn c) names = without i names
names_after i _ names = names

-- the places of the columns that steps name, among columns with those names
abbrev pub named_places : List (List ℕ) → List Step → List ℕ
named_places names [] = []
named_places names (x ∷ xs) = name_place names (column_named x) ∷ named_places (names_after (name_place names (column_named x)) x names) xs

-- each of the steps, which name the columns at those places, is harmless for a form that prints these columns
abbrev pub all_harmless_at : List ℕ → List Step → List ℕ → Bool
all_harmless_at (i ∷ is) (x ∷ xs) printed = harmless_at i x printed && all_harmless_at is xs printed
all_harmless_at _ _ printed = true
