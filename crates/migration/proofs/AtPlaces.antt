-- Steps on rows, at the places of the columns that they name.
use Rattle.std.proofs.Common.{◌≡◌, ℕ, ◌+◌, ◌<◌, Bool, true, ◌&&◌, List, [], ◌∷◌, Option, Some, None, length, drop, get_or, refl, ap, ◌∙◌}
use Rattle.std.specs.Option.{option_and_then}
use Rattle.cite_schema.specs.declared.value.Value.{Value}
use Rattle.cite_schema.specs.declared.schema.Column.{Column}
use Rattle.cite_schema.specs.declared.step.Step.{Step}
use Rattle.migration.specs.Columns.{place_of, columns_after, step_places}
use Rattle.migration.specs.Rows.{row_at, row_at_all, carry_row}
use Rattle.migration.specs.Harmless.{harmless_at, harmless_step, all_harmless}
use Rattle.migration.specs.Naming.{all_harmless_at}
use Rattle.migration.specs.CarryLaws.{RowsAreCarriedAtPlaces}
use Rattle.migration.proofs.Placed.{from_place}

-- without a place or a step nothing is done
pub no_place : (steps : List Step) (row : List Value) → row_at_all [] steps row ≡ Some row
no_place [] row = refl
no_place (x ∷ xs) row = refl

pub no_step : (places : List ℕ) (row : List Value) → row_at_all places [] row ≡ Some row
no_step [] row = refl
no_step (i ∷ is) row = refl

-- the first step, and then the others
pub one_step : (places : List ℕ) (steps : List Step) (i p : ℕ) (x : Step) (row : List Value) → i < length places → i < length steps → p ≡ get_or places i p → x ≡ get_or steps i x
    → row_at_all (drop i places) (drop i steps) row ≡ option_and_then (row_at_all (drop (i + 1) places) (drop (i + 1) steps)) (row_at p x row)
one_step places steps i p x row there lt at is =
    ap (λ ps. row_at_all ps (drop i steps) row) (from_place places i p there at) ∙ ap (λ xs. row_at_all (p ∷ drop (i + 1) places) xs row) (from_place steps i x lt is)

-- what steps make of a row is what they make of it at their places
pub rows_at_places : RowsAreCarriedAtPlaces
rows_at_places columns [] row = refl
rows_at_places columns (x ∷ xs) row = by (row_at (place_of columns x) x row) (λ r. rows_at_places (columns_after columns x) xs r)
  where
    by : (o : Option (List Value)) → ((r : List Value) → row_at_all (step_places (columns_after columns x) xs) xs r ≡ carry_row (columns_after columns x) xs r)
        → option_and_then (row_at_all (step_places (columns_after columns x) xs) xs) o ≡ option_and_then (carry_row (columns_after columns x) xs) o
    by None same = refl
    by (Some r) same = same r

pub no_harm_left : (steps : List Step) (printed : List ℕ) → all_harmless_at [] steps printed ≡ true
no_harm_left [] printed = refl
no_harm_left (x ∷ xs) printed = refl

pub no_step_left : (places printed : List ℕ) → all_harmless_at places [] printed ≡ true
no_step_left [] printed = refl
no_step_left (i ∷ is) printed = refl

-- whether the first step is harmless, and the others are
pub one_harm : (places : List ℕ) (steps : List Step) (i p : ℕ) (x : Step) (printed : List ℕ) → i < length places → i < length steps → p ≡ get_or places i p → x ≡ get_or steps i x
    → all_harmless_at (drop i places) (drop i steps) printed ≡ (harmless_at p x printed && all_harmless_at (drop (i + 1) places) (drop (i + 1) steps) printed)
one_harm places steps i p x printed there lt at is =
    ap (λ ps. all_harmless_at ps (drop i steps) printed) (from_place places i p there at) ∙ ap (λ xs. all_harmless_at (p ∷ drop (i + 1) places) xs printed) (from_place steps i x lt is)

-- steps are harmless where they are at their places
pub harmless_at_places : (columns : List Column) (steps : List Step) (printed : List ℕ) → all_harmless_at (step_places columns steps) steps printed ≡ all_harmless columns steps printed
harmless_at_places columns [] printed = refl
harmless_at_places columns (x ∷ xs) printed = ap (λ b. harmless_step columns x printed && b) (harmless_at_places (columns_after columns x) xs printed)
