-- The line that tells a broken rule, and which rule an input of `select` breaks first.
use Rattle.std.specs.Prelude.{◌≡◌, ◌≢◌, ◌↔◌, ℕ, ◌+◌, List, [], ◌∷◌, ◌++◌, Option, Some, None, map, length, AllPairs, nat_eq, codes, unwrap_or, if◌then◌else◌}
use Rattle.std.specs.Option.{option_map, option_or}
use Rattle.std.specs.Fmt.{decimal}
use Rattle.std.specs.declared.cmp.Ordering.TheVariants.{Equal}
use Rattle.cite_schema.specs.Tables.{key_cmp, has_key}
use Rattle.cite_schema.specs.TableTexts.{header_of, all_some, row_of, bad_cell_in, IsTableOf}
use Rattle.cite_schema.specs.declared.value.Kind.{Kind}
use Rattle.cite_schema.specs.declared.value.Kind.TheVariants as kinds
use Rattle.cite_schema.specs.declared.value.Value.{Value}
use Rattle.cite_schema.specs.declared.schema.Column.{Column}
use Rattle.subset_query.specs.Checks.{kind_named}
use Rattle.cite_cli.specs.declared.refusal.Refusal.{Refusal}
use Rattle.cite_cli.specs.declared.refusal.Refusal.TheVariants.{BadHeader, UnknownColumn, WrongKind, BadWidth, BadCell, KeyTwice, ResultTooLarge, BadPrefix, BadMeta, NoColumns, TooManyColumns, BadName, NameTwice, ClockRange}

-- the name of a rule, and its numbers, each after a space
abbrev pub told : Refusal → List ℕ
told BadHeader = codes "BadHeader"
told UnknownColumn = codes "UnknownColumn"
told WrongKind = codes "WrongKind"
told (BadWidth line) = codes "BadWidth " ++ decimal line
told (BadCell line column) = codes "BadCell " ++ decimal line ++ codes " " ++ decimal column
told (KeyTwice line) = codes "KeyTwice " ++ decimal line
told (ResultTooLarge bytes) = codes "ResultTooLarge " ++ decimal bytes
told BadPrefix = codes "BadPrefix"
told (BadMeta part) = codes "BadMeta " ++ decimal part
told NoColumns = codes "NoColumns"
told TooManyColumns = codes "TooManyColumns"
told (BadName place) = codes "BadName " ++ decimal place
told (NameTwice place) = codes "NameTwice " ++ decimal place
told (ClockRange moment) = codes "ClockRange " ++ decimal moment

-- the line of a refusal
abbrev pub refusal_line : Refusal → List ℕ
refusal_line refusal = codes "Refused " ++ told refusal ++ codes "\n"

-- the rule of a column that is asked for, by its kind: it is there, and has numbers
abbrev pub kind_fault : Option Kind → Option Refusal
kind_fault None = Some UnknownColumn
kind_fault (Some kinds.Text) = Some WrongKind
kind_fault (Some kinds.Int) = None

-- so by its name
abbrev pub column_fault : List Column → List ℕ → Option Refusal
column_fault columns column = kind_fault (kind_named columns column)

-- the rule that a line breaks by itself: it has a field for each column, and each says a value there
abbrev pub own_fault : List Column → ℕ → List (List ℕ) → Option Refusal
own_fault columns line fields =
    if nat_eq (length fields) (length columns) then option_map (λ column. BadCell line column) (bad_cell_in columns fields)
    else Some (BadWidth line)

-- the rule of a row's key: no row of an earlier line has it
abbrev pub key_fault : List (List Value) → ℕ → Option (List Value) → Option Refusal
key_fault earlier line None = None
key_fault earlier line (Some row) = if has_key earlier row then Some (KeyTwice line) else None

-- the first rule that a line breaks, behind the lines of these rows
abbrev pub line_fault : List Column → List (List Value) → List (List ℕ) → Option Refusal
line_fault columns earlier fields = option_or (own_fault columns (length earlier + 1) fields) (key_fault earlier (length earlier + 1) (row_of columns fields))

-- the first rule that a line breaks, line by line
abbrev pub lines_fault : List Column → List (List Value) → List (List (List ℕ)) → Option Refusal
lines_fault columns earlier [] = None
lines_fault columns earlier (fields ∷ rest) = option_or (line_fault columns earlier fields) (lines_fault columns (earlier ++ unwrap_or (row_of columns fields) [] ∷ []) rest)

-- a line breaks this rule, and is the first to break one: the lines before it spell rows with keys of their own
pub record IsFirstBroken (columns : List Column) (lines : List (List (List ℕ))) (refusal : Refusal) : Type 0 where
  pub before : List (List (List ℕ))
  pub fields : List (List ℕ)
  pub after : List (List (List ℕ))
  pub parts : lines ≡ before ++ fields ∷ after
  pub rows : List (List Value)
  pub read : all_some (map (row_of columns) before) ≡ Some rows
  pub apart : AllPairs (λ r t. key_cmp r t ≢ Equal) rows
  pub breaks : line_fault columns rows fields ≡ Some refusal

-- the rule that is told is that of the first line that breaks one
abbrev pub FirstBrokenIsTold : Type 0
FirstBrokenIsTold = (columns : List Column) (lines : List (List (List ℕ))) (refusal : Refusal) → ((lines_fault columns [] lines ≡ Some refusal) ↔ IsFirstBroken columns lines refusal)

-- none is told exactly where the lines are those of a table
abbrev pub TablesBreakNone : Type 0
TablesBreakNone = (columns : List Column) (lines : List (List (List ℕ))) → ((lines_fault columns [] lines ≡ None) ↔ ((table : List (List Value)) × IsTableOf columns lines table))

-- the first rule that a table breaks: of its header, of the column that is asked for, and then of its lines
abbrev pub table_fault : List ℕ → Option (List Column) → List (List (List ℕ)) → Option Refusal
table_fault column None lines = Some BadHeader
table_fault column (Some columns) lines = option_or (column_fault columns column) (lines_fault columns [] lines)

-- the first rule that records break: the first one is the header, and the others are the lines
abbrev pub records_fault : List ℕ → List (List (List ℕ)) → Option Refusal
records_fault column [] = Some BadHeader
records_fault column (head ∷ lines) = table_fault column (header_of head) lines
