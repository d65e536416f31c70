-- The laws of settled forms.
use Rattle.std.specs.Prelude.{◌≡◌, ◌↔◌, ◌&&◌, Bool, true, IsTrue, List, None}
use Rattle.std.specs.List.{list_all}
use Rattle.cite_schema.specs.declared.schema.Column as schema_column
use Rattle.cite_schema.specs.declared.query.Query.{Query}
use Rattle.cite_schema.specs.declared.item.Shown.{Shown}
use Rattle.cite_schema.specs.declared.item.Shown.TheVariants.{Column, Constant}
use Rattle.cite_schema.specs.Values.{is_text}
use Rattle.cite_schema.specs.Headings.{is_heading}
use Rattle.cite_schema.specs.Answers.{Alike}
use Rattle.cite_schema.specs.Queries.{asked}
use Rattle.subset_query.specs.declared.form.Normal.{Normal}
use Rattle.subset_query.specs.declared.form.Normal.TheVariants as forms
use Rattle.subset_query.specs.Checks.{query_fault}
use Rattle.subset_query.specs.Forms.{formed, IsSettled}
use Rattle.subset_query.specs.Printed.{printed_form}

-- a settled form that gives the query's bytes on every table
pub record HasForm (columns : List schema_column.Column) (q : Query) : Type 0 where
  pub form : Normal
  pub settled : IsSettled columns form
  pub alike : Alike columns (asked columns q) (formed form)

-- each query without a fault has one
abbrev pub QueriesHaveAForm : Type 0
QueriesHaveAForm = (columns : List schema_column.Column) (q : Query) → IsTrue (is_heading columns) → query_fault columns q ≡ None → HasForm columns q

-- two settled forms are equal exactly where they give the same bytes on every table
abbrev pub SettledFormsAreCanonical : Type 0
SettledFormsAreCanonical = (columns : List schema_column.Column) (a b : Normal) → IsSettled columns a → IsSettled columns b → ((a ≡ b) ↔ Alike columns (formed a) (formed b))

-- the settled forms of two queries are equal exactly where the queries give the same bytes on every table
abbrev pub QueriesHaveOneForm : Type 0
QueriesHaveOneForm = (columns : List schema_column.Column) (q r : Query) (a b : Normal) → IsSettled columns a → IsSettled columns b
    → Alike columns (asked columns q) (formed a) → Alike columns (asked columns r) (formed b) → ((a ≡ b) ↔ Alike columns (asked columns q) (asked columns r))

-- a constant that is a list of bytes, or a column
abbrev pub shows_bytes : Shown → Bool
shows_bytes (Column i) = true
shows_bytes (Constant bs) = is_text bs

-- the labels and the constants of the form are lists of bytes
abbrev pub has_bytes : Normal → Bool
has_bytes (forms.Nothing labels) = list_all is_text labels
has_bytes (forms.Some sets items order) = list_all (λ i. is_text i.label && shows_bytes i.what) items

-- settled forms of a schema whose labels and constants are bytes have one print exactly where they are equal
abbrev pub PrintsTellFormsApart : Type 0
PrintsTellFormsApart = (columns : List schema_column.Column) (a b : Normal) → IsTrue (is_heading columns) → IsSettled columns a → IsSettled columns b → IsTrue (has_bytes a) → IsTrue (has_bytes b)
    → ((printed_form a ≡ printed_form b) ↔ (a ≡ b))
