-- What a query asks of a table of a schema.
use Rattle.std.specs.Prelude.{ℕ, Bool, false, List, map, Option, Some, None, slice_get, unwrap_or}
use Rattle.std.specs.List.{list_all, position}
use Rattle.std.specs.Option.{option_and_then}
use Rattle.std.specs.Ordering.{is_eq}
use Rattle.cite_schema.specs.Values.{text_cmp}
use Rattle.cite_schema.specs.Conditions.{meets}
use Rattle.cite_schema.specs.Answers.{Plan}
use Rattle.cite_schema.specs.declared.value.Value.{Value}
use Rattle.cite_schema.specs.declared.schema.Column as schema_column
use Rattle.cite_schema.specs.declared.condition.Cond.{Cond}
use Rattle.cite_schema.specs.declared.query.OnColumn.{OnColumn}
use Rattle.cite_schema.specs.declared.query.Query.{Query}
use Rattle.cite_schema.specs.declared.item.Shown.TheVariants.{Column}

-- the place of the column with a name, counted from 0
abbrev pub column_of : List schema_column.Column → List ℕ → Option ℕ
column_of columns name = position (λ c. is_eq (text_cmp c.name name)) columns

-- the same as a number, for names that are known to be there
abbrev pub index_of : List schema_column.Column → List ℕ → ℕ
index_of columns name = unwrap_or (column_of columns name) 0

-- the cell is there and meets the condition
abbrev pub cell_meets : Cond → Option Value → Bool
cell_meets c None = false
cell_meets c (Some v) = meets c v

-- the row's cell in the condition's column meets it
abbrev pub meets_on : List schema_column.Column → OnColumn → List Value → Bool
meets_on columns o r = cell_meets o.cond (option_and_then (λ i. slice_get r i) (column_of columns o.column))

-- what a query asks: the rows that meet each condition, in the asked order, each shown by the asked columns
abbrev pub asked : List schema_column.Column → Query → Plan
asked columns q = record {
  keeps = λ r. list_all (λ o. meets_on columns o r) q.conds;
  order = map (λ a. record { column = index_of columns a.column; down = a.down }) q.order;
  items = map (λ a. record { label = a.label; what = Column (index_of columns a.column) }) q.items;
}
