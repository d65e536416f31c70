-- Steps that leave the bytes of a form as they are, and the forms that steps leave.
use Rattle.std.specs.Prelude.{◌≡◌, ℕ, Bool, true, false, not, ◌&&◌, IsTrue, List, [], ◌∷◌, Some, None, Ok}
use Rattle.cite_schema.specs.Tables.{is_table}
use Rattle.cite_schema.specs.Headings.{is_heading}
use Rattle.cite_schema.specs.Answers.{Plan, Gives}
use Rattle.cite_schema.specs.declared.value.Value.{Value}
use Rattle.cite_schema.specs.declared.schema.Column.{Column}
use Rattle.cite_schema.specs.declared.step.Step.{Step}
use Rattle.cite_schema.specs.declared.step.Step.TheVariants.{Rename, Add, DropColumn, Scale, Recode, RetypeToText}
use Rattle.subset_query.specs.declared.form.Normal.{Normal}
use Rattle.subset_query.specs.declared.form.Normal.TheVariants as forms
use Rattle.subset_query.specs.Forms.{formed, printed_columns, IsSettled}
use Rattle.migration.specs.Columns.{place_of, columns_after, columns_after_all, step_fault}
use Rattle.migration.specs.Rows.{carry_rows}
use Rattle.migration.specs.Forms.{is_among, parts_after, CarriesOne, Carries}

-- the columns that a form prints as columns
abbrev pub printed_of : Normal → List ℕ
printed_of (forms.Nothing labels) = []
printed_of (forms.Some sets items order) = printed_columns items

-- the parts of a settled form after a step, where there are parts, have a settled form
abbrev pub PartsHaveAForm : Type 0
PartsHaveAForm = (n : ℕ) (columns : List Column) (step : Step) (form : Normal) (p : Plan) → IsTrue (is_heading columns) → step_fault columns n step ≡ None → IsSettled columns form
    → parts_after columns step form ≡ Some p → (next : Normal) × CarriesOne columns step form next

-- the step renames, adds, or scales a column that is not among those; it names the one at a place
abbrev pub harmless_at : ℕ → Step → List ℕ → Bool
harmless_at i (Rename c to) printed = true
harmless_at i (Add c v) printed = true
harmless_at i (Scale c by plus) printed = not (is_among i printed)
harmless_at i (DropColumn c) printed = false
harmless_at i (Recode c old new) printed = false
harmless_at i (RetypeToText c) printed = false

-- the step does, on columns
abbrev pub harmless_step : List Column → Step → List ℕ → Bool
harmless_step columns step printed = harmless_at (place_of columns step) step printed

-- each of the steps does
abbrev pub all_harmless : List Column → List Step → List ℕ → Bool
all_harmless columns [] printed = true
all_harmless columns (x ∷ xs) printed = harmless_step columns x printed && all_harmless (columns_after columns x) xs printed

-- steps that are harmless for a form carry it, and the carried form gives the form's bytes on the carried table
abbrev pub HarmlessStepsCarry : Type 0
HarmlessStepsCarry = (n : ℕ) (columns after : List Column) (steps : List Step) (form : Normal) (table carried : List (List Value)) (bytes : List ℕ)
    → IsTrue (is_heading columns) → columns_after_all n columns steps ≡ Ok after → IsTrue (is_table columns table) → IsSettled columns form → IsTrue (all_harmless columns steps (printed_of form))
    → carry_rows columns steps table ≡ Some carried → Gives (formed form) table bytes → (other : Normal) × Carries columns steps form other × Gives (formed other) carried bytes
