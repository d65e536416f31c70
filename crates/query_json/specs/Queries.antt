-- What a JSON value says as a query.
use Rattle.std.specs.Prelude.{ℕ, List, [], ◌∷◌, map, codes, Bool, true, false, Result, Ok, Err, Option, Some, None, option_map, if◌then◌else◌, bytes_eq}
use Rattle.std.specs.Option.{option_and_then}
use Rattle.std.specs.List.Sorted.{IsStrictlySortedBy}
use Rattle.serde_json.specs.Data.{Data, Members, no_members, member}
use Rattle.serde_json.specs.Find.{get, as_str, as_object}
use Rattle.cite_schema.specs.Values.{text_cmp}
use Rattle.cite_schema.specs.TableTexts.{before}
use Rattle.cite_schema.specs.declared.condition.Cond.{Cond}
use Rattle.cite_schema.specs.declared.query.OnColumn.{OnColumn}
use Rattle.cite_schema.specs.declared.query.Asked.{Asked}
use Rattle.cite_schema.specs.declared.query.Along.{Along}
use Rattle.cite_schema.specs.declared.query.Query.{Query}
use Rattle.query_json.specs.declared.fault.JsonFault.{JsonFault}
use Rattle.query_json.specs.declared.fault.JsonFault.TheVariants.{NotAQuery}
use Rattle.query_json.specs.Objects.{has_only, string_at}
use Rattle.query_json.specs.Values.{text_of, list_of}
use Rattle.query_json.specs.Conditions.{condition_of}

-- a condition on the column of that name
abbrev pub on_column : List ℕ → Cond → OnColumn
on_column name c = record { column = name; cond = c }

-- the conditions of an object from column names to conditions, in the order of its members, which is that of the names
abbrev pub column_conditions : Members → Option (List OnColumn)
column_conditions no_members = Some []
column_conditions (member k d ms) = before (option_map (on_column k) (condition_of d)) (column_conditions ms)

-- what `where` says; without it there is no condition
abbrev pub where_of : Option Data → Option (List OnColumn)
where_of None = Some []
where_of (Some d) = option_and_then column_conditions (as_object d)

-- the column names of the conditions rise strictly in the order of their bytes
abbrev pub NamesRise : List OnColumn → Type 0
NamesRise conditions = IsStrictlySortedBy text_cmp (map (λ c. c.column) conditions)

-- an item's label; without `label` it is the column's name
abbrev pub label_of : List ℕ → Option Data → Option (List ℕ)
label_of name None = Some name
label_of name (Some d) = text_of d

-- the item of a column's name and a label
abbrev pub labelled : List ℕ → List ℕ → Asked
labelled name label = record { column = name; label = label }

-- the item of a column's name, where there is one, and of what `label` says
abbrev pub item_from : Option (List ℕ) → Option Data → Option Asked
item_from None label = None
item_from (Some name) label = option_map (labelled name) (label_of name label)

-- the item that a JSON value says: an object with `column` and, where wanted, `label`
abbrev pub item_of : Data → Option Asked
item_of d =
    if has_only (codes "column" ∷ codes "label" ∷ []) d
    then item_from (string_at (codes "column") d) (get (codes "label") d)
    else None

-- whether a word names the descending direction
abbrev pub direction_named : List ℕ → Option Bool
direction_named word =
    if bytes_eq word (codes "asc") then Some false
    else (if bytes_eq word (codes "desc") then Some true else None)

-- whether `dir` is descending; without it the order ascends
abbrev pub direction_of : Option Data → Option Bool
direction_of None = Some false
direction_of (Some d) = option_and_then direction_named (as_str d)

-- the order column of a name, where there is one, and of a direction
abbrev pub order_column : Option (List ℕ) → Option Bool → Option Along
order_column None down = None
order_column (Some name) None = None
order_column (Some name) (Some down) = Some (record { column = name; down = down })

-- the order column that a JSON value says: an object with `column` and, where wanted, `dir`
abbrev pub order_column_of : Data → Option Along
order_column_of d =
    if has_only (codes "column" ∷ codes "dir" ∷ []) d
    then order_column (string_at (codes "column") d) (direction_of (get (codes "dir") d))
    else None

-- what `order` says; without it there is no order column
abbrev pub order_of : Option Data → Option (List Along)
order_of None = Some []
order_of (Some d) = list_of order_column_of d

-- the query of its three parts, or the fault of the first that is not of its form
abbrev pub query_from : Option (List OnColumn) → Option (List Asked) → Option (List Along) → Result Query JsonFault
query_from None items order = Err (NotAQuery 2)
query_from (Some conditions) None order = Err (NotAQuery 3)
query_from (Some conditions) (Some items) None = Err (NotAQuery 4)
query_from (Some conditions) (Some items) (Some order) =
    Ok (record { conds = conditions; items = items; order = order })

-- the query of an object in which `items` is that, where it is there
abbrev pub query_with : Data → Option Data → Result Query JsonFault
query_with d None = Err (NotAQuery 1)
query_with d (Some items) =
    query_from (where_of (get (codes "where") d)) (list_of item_of items) (order_of (get (codes "order") d))

-- the query that a JSON value says, or its fault: an object with `items` and, where wanted, `where` and `order`
abbrev pub query_of : Data → Result Query JsonFault
query_of d =
    if has_only (codes "items" ∷ codes "order" ∷ codes "where" ∷ []) d
    then query_with d (get (codes "items") d)
    else Err (NotAQuery 1)
