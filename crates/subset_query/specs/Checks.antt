-- The faults of a query that is to be asked of a schema's columns, in the order in which they are told.
use Rattle.std.specs.Prelude.{ℕ, ◌+◌, Bool, true, false, not, ◌||◌, ◌==◌, List, [], ◌∷◌, sum, length, Option, Some, None, slice_get, nat_lt, max, is_none, if◌then◌else◌}
use Rattle.std.specs.List.{list_all, list_any, position, sum_by}
use Rattle.std.specs.Option.{option_map, option_map_or, option_and_then, option_or}
use Rattle.std.specs.Ordering.{is_eq}
use Rattle.cite_schema.specs.Values.{text_cmp}
use Rattle.cite_schema.specs.Tables.{is_short}
use Rattle.cite_schema.specs.Queries.{column_of}
use Rattle.cite_schema.specs.declared.value.Kind.{Kind}
use Rattle.cite_schema.specs.declared.value.Kind.TheVariants as kinds
use Rattle.cite_schema.specs.declared.value.Value.{Value}
use Rattle.cite_schema.specs.declared.value.Value.TheVariants.{Int, Text}
use Rattle.cite_schema.specs.declared.schema.Column.{Column}
use Rattle.cite_schema.specs.declared.condition.Cond.{Cond}
use Rattle.cite_schema.specs.declared.condition.Cond.TheOpen.{Cond-F, Lt, Le, Eq, Ne, Ge, Gt, Among, Prefix, AllOf, AnyOf, Not}
use Rattle.cite_schema.specs.declared.condition.Cond.TheFolds.{fold-Cond}
use Rattle.cite_schema.specs.declared.query.OnColumn.{OnColumn}
use Rattle.cite_schema.specs.declared.query.Query.{Query}
use Rattle.subset_query.specs.declared.checks.QueryFault.{QueryFault}
use Rattle.subset_query.specs.declared.checks.QueryFault.TheVariants.{NoItems, TooManyParts, TooManyNodes, TooDeep, TextTooLong, ConditionTwice, UnknownColumn, WrongKind}

-- the nodes of one condition, where the count of each condition inside it stands in its place
abbrev pub nodes_step : Cond-F ℕ → ℕ
nodes_step (Among vs) = 1 + length vs
nodes_step (AllOf ns) = 1 + sum ns
nodes_step (AnyOf ns) = 1 + sum ns
nodes_step (Not n) = 1 + n
nodes_step _ = 1

-- how many nodes a condition has: each condition in it, itself included, and each member of an `Among`
abbrev pub nodes_of : Cond → ℕ
nodes_of = fold-Cond ℕ nodes_step

-- the greatest of the numbers; of none, 0
abbrev pub greatest : List ℕ → ℕ
greatest [] = 0
greatest (n ∷ ns) = max n (greatest ns)

-- the depth of one condition, where the depth of each condition inside it stands in its place
abbrev pub depth_step : Cond-F ℕ → ℕ
depth_step (AllOf ds) = 1 + greatest ds
depth_step (AnyOf ds) = 1 + greatest ds
depth_step (Not d) = 1 + d
depth_step _ = 1

-- how deep a condition is: a comparison and an empty list have depth 1, any other one more than its deepest member
abbrev pub depth_of : Cond → ℕ
depth_of = fold-Cond ℕ depth_step

-- what a test says of all values in one condition, where what it says of each condition inside it stands in its place
abbrev pub passes_step : (Value → Bool) → Cond-F Bool → Bool
passes_step test (Lt v) = test v
passes_step test (Le v) = test v
passes_step test (Eq v) = test v
passes_step test (Ne v) = test v
passes_step test (Ge v) = test v
passes_step test (Gt v) = test v
passes_step test (Among vs) = list_all test vs
passes_step test (Prefix p) = test (Text p)
passes_step test (AllOf bs) = list_all (λ b. b) bs
passes_step test (AnyOf bs) = list_all (λ b. b) bs
passes_step test (Not b) = b

-- each value in the condition passes the test; a prefix counts as a text
abbrev pub all_pass : (Value → Bool) → Cond → Bool
all_pass test = fold-Cond Bool (passes_step test)

-- the value is of the kind
abbrev pub is_of_kind : Kind → Value → Bool
is_of_kind kinds.Int (Int z) = true
is_of_kind kinds.Text (Text t) = true
is_of_kind _ _ = false

-- each value in the condition is of the kind, and a prefix is asked of texts alone
abbrev pub of_kind : Kind → Cond → Bool
of_kind kind = all_pass (is_of_kind kind)

-- there are over 128 items, over 128 order columns, or over 64 conditions
abbrev pub has_too_many_parts : Query → Bool
has_too_many_parts q = nat_lt 128 (length q.items) || (nat_lt 128 (length q.order) || nat_lt 64 (length q.conds))

-- a value's text, a prefix or a label has over 65,535 bytes
abbrev pub has_long_text : Query → Bool
has_long_text q = list_any (λ o. not (all_pass is_short o.cond)) q.conds || list_any (λ a. nat_lt 65535 (length a.label)) q.items

-- two of the conditions name one column
abbrev pub names_twice : List OnColumn → Bool
names_twice [] = false
names_twice (o ∷ os) = list_any (λ p. is_eq (text_cmp o.column p.column)) os || names_twice os

-- the fault of the first of some parts of a query whose name no column has
abbrev pub unknown_in : {X : Type 0} → List Column → ℕ → (X → List ℕ) → List X → Option QueryFault
unknown_in columns part name parts = option_map (λ i. UnknownColumn part i) (position (λ x. is_none (column_of columns (name x))) parts)

-- the kind of the column with a name
abbrev pub kind_named : List Column → List ℕ → Option Kind
kind_named columns name = option_map (λ c. c.kind) (option_and_then (λ i. slice_get columns i) (column_of columns name))

-- the condition's column is of the other kind than a value in it
abbrev pub is_wrong_kind : List Column → OnColumn → Bool
is_wrong_kind columns o = option_map_or (λ kind. not (of_kind kind o.cond)) (kind_named columns o.column) false

-- the fault, where it applies
abbrev pub where_so : Bool → QueryFault → Option QueryFault
where_so applies fault = if applies then Some fault else None

-- the first fault of those that apply
abbrev pub first_of : List (Option QueryFault) → Option QueryFault
first_of [] = None
first_of (None ∷ faults) = first_of faults
first_of (Some fault ∷ faults) = Some fault

-- the faults of the query's sizes, in the order in which they are told
abbrev pub size_faults : Query → List (Option QueryFault)
size_faults q =
    where_so (length q.items == 0) NoItems
    ∷ where_so (has_too_many_parts q) TooManyParts
    ∷ where_so (nat_lt 1024 (sum_by (λ o. nodes_of o.cond) q.conds)) TooManyNodes
    ∷ where_so (list_any (λ o. nat_lt 32 (depth_of o.cond)) q.conds) TooDeep
    ∷ where_so (has_long_text q) TextTooLong
    ∷ []

-- the faults of its names and kinds, likewise
abbrev pub column_faults : List Column → Query → List (Option QueryFault)
column_faults columns q =
    where_so (names_twice q.conds) ConditionTwice
    ∷ unknown_in columns 1 (λ o. o.column) q.conds
    ∷ unknown_in columns 2 (λ a. a.column) q.items
    ∷ unknown_in columns 3 (λ a. a.column) q.order
    ∷ option_map (λ i. WrongKind i) (position (λ o. is_wrong_kind columns o) q.conds)
    ∷ []

-- the fault of a query, the first that applies; a query without one may be asked of the columns
abbrev pub query_fault : List Column → Query → Option QueryFault
query_fault columns q = option_or (first_of (size_faults q)) (first_of (column_faults columns q))
