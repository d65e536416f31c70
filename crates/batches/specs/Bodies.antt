-- Which lines a batch's body spells: a header record of `op` and the names of the columns, and then a record for each line.
use Rattle.std.specs.Prelude.{◌≡◌, ◌≢◌, ℕ, ◌+◌, Bool, not, ◌==◌, List, [], ◌∷◌, ◌++◌, Option, None, option_map, Result, Ok, Err, map, length, codes, nat_lt, if◌then◌else◌}
use Rattle.std.specs.List.{list_any, position}
use Rattle.std.specs.Ordering.{is_eq}
use Rattle.std.specs.Cmp.Lexicographic.{slice_cmp}
use Rattle.cite_schema.specs.Values.{text_cmp}
use Rattle.cite_schema.specs.Tables.{cell_cmp}
use Rattle.cite_schema.specs.TableTexts.{cell_of, bad_cell_in, row_of}
use Rattle.cite_schema.specs.Lines.{key_in}
use Rattle.cite_schema.specs.Tests.{demand, unless, wanted, given}
use Rattle.cite_schema.specs.declared.value.Value.{Value}
use Rattle.cite_schema.specs.declared.schema.Column.{Column}
use Rattle.cite_schema.specs.declared.line.Line.{Line}
use Rattle.cite_schema.specs.declared.line.Line.TheVariants.{Put, Change, Remove}
use Rattle.csv_records.specs.Records.{records_of}
use Rattle.batches.specs.declared.fault.BatchFault.{BatchFault}
use Rattle.batches.specs.declared.fault.BatchFault.TheVariants.{BadHeader, EmptyBatch, TooManyLines, BadWidth, BadOp, BadCell, KeyTwice, NoMemory}

-- a text is this word
abbrev pub is_word : List ℕ → List ℕ → Bool
is_word a b = is_eq (text_cmp a b)

-- the record is `op` and then the names of the columns
abbrev pub is_header : List Column → List (List ℕ) → Bool
is_header columns record' = is_eq (slice_cmp text_cmp record' (codes "op" ∷ map (λ c. c.name) columns))

-- the line that brings the row of these fields
abbrev pub row_line : List Column → ℕ → (List Value → Line) → List (List ℕ) → Result Line BatchFault
row_line columns n line fields =
    unless (option_map (λ i. BadCell n i) (bad_cell_in columns fields)) (wanted (row_of columns fields) (BadWidth n) (λ row. Ok (line row)))

-- what the first field says in the first column
abbrev pub first_cell : List Column → List (List ℕ) → Option Value
first_cell (c ∷ cs) (f ∷ fs) = cell_of c.kind f
first_cell _ _ = None

-- the place of the first field behind the first one that is not empty
abbrev pub filled_behind : List (List ℕ) → Option ℕ
filled_behind [] = None
filled_behind (f ∷ fs) = option_map (λ i. i + 1) (position (λ g. not (length g == 0)) fs)

-- the line that takes the row of the key in the first field away; the fields behind it are empty
abbrev pub key_line : List Column → ℕ → List (List ℕ) → Result Line BatchFault
key_line columns n fields =
    wanted (first_cell columns fields) (BadCell n 0) (λ key. unless (option_map (λ i. BadCell n i) (filled_behind fields)) (Ok (Remove key)))

-- the line of a first field, and of as many fields behind it as there are columns
abbrev pub line_by : List Column → ℕ → List ℕ → List (List ℕ) → Result Line BatchFault
line_by columns n op fields =
    if is_word op (codes "+") then row_line columns n Put fields
    else (if is_word op (codes "~") then row_line columns n Change fields
    else (if is_word op (codes "-") then key_line columns n fields else Err (BadOp n)))

-- the line that the record of line n spells
abbrev pub line_in : List Column → ℕ → List (List ℕ) → Result Line BatchFault
line_in columns n [] = Err (BadWidth n)
line_in columns n (op ∷ fields) = demand (length fields == length columns) (BadWidth n) (line_by columns n op fields)

-- one of the lines names the key that the line names
abbrev pub names_key_of : List Line → Line → Bool
names_key_of before line = list_any (λ l. is_eq (cell_cmp (key_in l) (key_in line))) before

-- the lines that records spell, line by line from line n on, behind some lines; no key is named twice
abbrev pub lines_from : List Column → List Line → ℕ → List (List (List ℕ)) → Result (List Line) BatchFault
lines_from columns before n [] = Ok []
lines_from columns before n (r ∷ rs) =
    given (line_in columns n r) (λ fault. fault) (λ line.
    demand (not (names_key_of before line)) (KeyTwice n) (
    given (lines_from columns (before ++ line ∷ []) (n + 1) rs) (λ fault. fault) (λ lines.
    Ok (line ∷ lines))))

-- the lines that the records of a body spell, or the first fault
abbrev pub lines_of_records : List Column → List (List (List ℕ)) → Result (List Line) BatchFault
lines_of_records columns [] = Err BadHeader
lines_of_records columns (head ∷ rs) =
    demand (is_header columns head) BadHeader (
    demand (nat_lt 0 (length rs)) EmptyBatch (
    demand (not (nat_lt 20000 (length rs))) TooManyLines (
    lines_from columns [] 1 rs)))

-- the lines that a body spells, or the first fault
unfoldable pub lines_of : List Column → List ℕ → Result (List Line) BatchFault
lines_of columns body = lines_of_records columns (records_of body)

-- a call's answer is this, but where memory was wanting
abbrev pub IsUnlessMemory : {A : Type 0} → Result A BatchFault → Result A BatchFault → Type 0
IsUnlessMemory answer due = answer ≢ Err NoMemory → answer ≡ due
