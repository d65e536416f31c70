-- The laws of carrying.
use Rattle.std.specs.Prelude.{◌≡◌, ℤ, pos, int_lt, ℕ, ◌<◌, IsTrue, List, Some, Ok, length, slice_get}
use Rattle.cite_schema.specs.Headings.{is_heading}
use Rattle.cite_schema.specs.Tables.{is_table}
use Rattle.cite_schema.specs.Values.{is_number}
use Rattle.cite_schema.specs.declared.value.Value.{Value}
use Rattle.cite_schema.specs.declared.value.Value.TheVariants.{Int}
use Rattle.cite_schema.specs.declared.schema.Column.{Column}
use Rattle.cite_schema.specs.declared.step.Step.{Step}
use Rattle.subset_query.specs.declared.form.Normal.{Normal}
use Rattle.std.specs.List.{flat_map}
use Rattle.std.specs.Option.{option_to_list}
use Rattle.std.specs.Ordering.{int_cmp}
use Rattle.interval_normal.specs.declared.set.Span.{Span}
use Rattle.interval_normal.specs.Spans.{IsCanonical}
use Rattle.subset_query.specs.declared.form.ColumnSet.TheVariants.{Ints}
use Rattle.subset_query.specs.Forms.{in_set, IsSettled}
use Rattle.migration.specs.Sets.{is_in_image, span_image}
use Rattle.migration.specs.Columns.{columns_after_all, step_places}
use Rattle.migration.specs.Rows.{image, carry_row, carry_rows, row_at_all}
use Rattle.migration.specs.Forms.{Carries}

-- a row that is carried by steps without a fault keeps its key
abbrev pub CarriedKeysStay : Type 0
CarriedKeysStay = (n : ℕ) (columns after : List Column) (steps : List Step) (row carried : List Value) → 0 < length row
    → columns_after_all n columns steps ≡ Ok after → carry_row columns steps row ≡ Some carried → slice_get carried 0 ≡ slice_get row 0

-- where each row of a table is carried by steps without a fault, the carried rows are a table of the columns after them
abbrev pub CarriedTablesAreTables : Type 0
CarriedTablesAreTables = (n : ℕ) (columns after : List Column) (steps : List Step) (table carried : List (List Value)) → 0 < length columns
    → columns_after_all n columns steps ≡ Ok after → IsTrue (is_table columns table) → carry_rows columns steps table ≡ Some carried
    → IsTrue (is_table after carried)

-- a form is carried to one form at most
abbrev pub CarriedToOne : Type 0
CarriedToOne = (columns : List Column) (steps : List Step) (form one other : Normal) → Carries columns steps form one → Carries columns steps form other → one ≡ other

-- a settled form is carried to a form that is settled for the columns after the steps
abbrev pub CarriedSettled : Type 0
CarriedSettled = (n : ℕ) (columns after : List Column) (steps : List Step) (form other : Normal) → columns_after_all n columns steps ≡ Ok after
    → IsSettled columns form → Carries columns steps form other → IsSettled after other

-- both
abbrev pub FormsAreCarriedToOneForm : Type 0
FormsAreCarriedToOneForm = CarriedToOne × CarriedSettled

-- a number and its image are both in the range: the image is in the images of spans exactly where the number is in the spans
abbrev pub ScaledSetsAreExact : Type 0
ScaledSetsAreExact = (by plus z : ℤ) (spans : List (Span ℤ)) → IsTrue (int_lt (pos 0) by) → IsTrue (is_number z) → IsTrue (is_number (image by plus z))
    → is_in_image by plus spans (Int (image by plus z)) ≡ in_set (Ints spans) (Int z)

-- the images of canonical spans are canonical
abbrev pub ScaledSetsAreCanonical : Type 0
ScaledSetsAreCanonical = (by plus : ℤ) (spans : List (Span ℤ)) → IsTrue (int_lt (pos 0) by) → IsCanonical (λ z. IsTrue (is_number z)) int_cmp spans
    → IsCanonical (λ z. IsTrue (is_number z)) int_cmp (flat_map (λ s. option_to_list (span_image by plus s)) spans)

-- columns that make a schema are carried, by steps without a fault, to columns that make one
abbrev pub CarriedColumnsMakeSchemas : Type 0
CarriedColumnsMakeSchemas = (n : ℕ) (columns after : List Column) (steps : List Step) → columns_after_all n columns steps ≡ Ok after → IsTrue (is_heading columns) → IsTrue (is_heading after)

-- what steps make of a row is what they make of it at the places of the columns that they name
abbrev pub RowsAreCarriedAtPlaces : Type 0
RowsAreCarriedAtPlaces = (columns : List Column) (steps : List Step) (row : List Value) → row_at_all (step_places columns steps) steps row ≡ carry_row columns steps row
