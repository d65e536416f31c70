-- What steps make of the columns of a schema, and the first fault of steps. Column 0 is the key, and stays it.
use Rattle.std.specs.Prelude.{ℕ, ◌+◌, Bool, true, false, not, ◌&&◌, ◌||◌, ◌==◌, List, [], ◌∷◌, ◌++◌, Option, Some, None, Result, Ok, length, nat_lt, nat_le, int_lt, pos, is_none, slice_get, if◌then◌else◌}
use Rattle.std.specs.Option.{option_map_or}
use Rattle.std.specs.Ordering.{is_eq}
use Rattle.cite_schema.specs.Values.{value_cmp, kind_of, is_value_of}
use Rattle.cite_schema.specs.Tables.{is_short}
use Rattle.cite_schema.specs.Headings.{Heading, is_name, is_named_before}
use Rattle.cite_schema.specs.Queries.{column_of, index_of}
use Rattle.cite_schema.specs.Tests.{unless, demand, given}
use Rattle.cite_schema.specs.declared.value.Kind.{Kind}
use Rattle.cite_schema.specs.declared.value.Kind.TheVariants as kinds
use Rattle.cite_schema.specs.declared.value.Value.{Value}
use Rattle.cite_schema.specs.declared.schema.Column.{Column}
use Rattle.cite_schema.specs.declared.step.Step.{Step}
use Rattle.cite_schema.specs.declared.step.Step.TheVariants.{Rename, Add, DropColumn, Scale, Recode, RetypeToText}
use Rattle.migration.specs.declared.fault.StepFault.{StepFault}
use Rattle.migration.specs.declared.fault.StepFault.TheVariants.{BadStep, UnknownColumn, KeyColumn, WrongKind, NameTaken, TooManyColumns}
use Rattle.migration.specs.Places.{changed, without}

-- the column that a step names
abbrev pub column_named : Step → List ℕ
column_named (Rename c to) = c
column_named (Add c v) = c
column_named (DropColumn c) = c
column_named (Scale c by plus) = c
column_named (Recode c old new) = c
column_named (RetypeToText c) = c

-- its place among the columns, counted from 0
abbrev pub place_of : List Column → Step → ℕ
place_of columns step = index_of columns (column_named step)

-- what a step makes of the column that it names
abbrev pub column_after : Step → Column → Column
column_after (Rename c to) column = record column { name = to }
column_after (RetypeToText c) column = record column { kind = kinds.Text }
column_after _ column = column

-- the columns after a step
abbrev pub columns_after : List Column → Step → List Column
columns_after columns (Add c v) = columns ++ record { name = c; kind = kind_of v } ∷ []
columns_after columns (DropColumn c) = without (place_of columns (DropColumn c)) columns
columns_after columns step = changed (column_after step) (place_of columns step) columns

-- the place of the column that each step names, among the columns that the steps before it leave
abbrev pub step_places : List Column → List Step → List ℕ
step_places columns [] = []
step_places columns (x ∷ xs) = place_of columns x ∷ step_places (columns_after columns x) xs

-- a value that may come in from outside
abbrev pub may_come_in : Value → Bool
may_come_in v = is_value_of (kind_of v) v && is_short v

-- the step could be done to no schema
abbrev pub is_bad : Step → Bool
is_bad (Rename c to) = not (is_name to)
is_bad (Add c v) = not (is_name c && may_come_in v)
is_bad (DropColumn c) = false
is_bad (Scale c by plus) = int_lt by (pos 1)
is_bad (Recode c old new) = is_eq (value_cmp old new) || not (may_come_in old && may_come_in new)
is_bad (RetypeToText c) = false

-- no column has the name that has to be there
abbrev pub is_unknown : List Column → Step → Bool
is_unknown columns (Add c v) = false
is_unknown columns step = is_none (column_of columns (column_named step))

-- the key would become something else
abbrev pub is_of_key : List Column → Step → Bool
is_of_key columns (Add c v) = false
is_of_key columns (Rename c to) = false
is_of_key columns step = place_of columns step == 0

-- the column's kind passes a test
abbrev pub kind_passes : List Column → Step → (Kind → Bool) → Bool
kind_passes columns step test = option_map_or (λ c. test c.kind) (slice_get columns (place_of columns step)) false

-- numbers
abbrev pub is_int : Kind → Bool
is_int kinds.Int = true
is_int kinds.Text = false

-- the step asks for a column of the other kind
abbrev pub is_wrong_kind : List Column → Step → Bool
is_wrong_kind columns (Scale c by plus) = not (kind_passes columns (Scale c by plus) is_int)
is_wrong_kind columns (RetypeToText c) = not (kind_passes columns (RetypeToText c) is_int)
is_wrong_kind columns (Recode c old new) = not (kind_passes columns (Recode c old new) (λ kind. is_value_of kind old && is_value_of kind new))
is_wrong_kind columns _ = false

-- a column has the name that would be new
abbrev pub is_taken : List Column → Step → Bool
is_taken columns (Rename c to) = is_named_before columns to
is_taken columns (Add c v) = is_named_before columns c
is_taken columns _ = false

-- there would be over 64 columns
abbrev pub is_too_wide : List Column → Step → Bool
is_too_wide columns (Add c v) = nat_lt 64 (length columns + 1)
is_too_wide columns _ = false

-- the first fault of step n; the tests stand in their order
abbrev pub step_fault : List Column → ℕ → Step → Option StepFault
step_fault columns n step =
    if is_bad step then Some (BadStep n)
    else (if is_unknown columns step then Some (UnknownColumn n)
    else (if is_of_key columns step then Some (KeyColumn n)
    else (if is_wrong_kind columns step then Some (WrongKind n)
    else (if is_taken columns step then Some (NameTaken n)
    else (if is_too_wide columns step then Some (TooManyColumns n)
    else None)))))

-- the columns after steps, of which the first is step n, or the first fault
abbrev pub columns_after_all : ℕ → List Column → List Step → Result (List Column) StepFault
columns_after_all n columns [] = Ok columns
columns_after_all n columns (x ∷ xs) = unless (step_fault columns n x) (columns_after_all (n + 1) (columns_after columns x) xs)

-- the schema after 1 to 16 steps, with the next number, or the first fault
abbrev pub carry_schema : Heading → List Step → Result Heading StepFault
carry_schema schema steps =
    demand (nat_le 1 (length steps) && nat_le (length steps) 16) (BadStep 0) (
    given (columns_after_all 1 schema.columns steps) (λ fault. fault) (λ columns.
    Ok (record { number = schema.number + 1; columns = columns })))
