-- What the parts of `read_batch` hand on to each other. Clauses of private functions alone cite it.
use Rattle.std.specs.Prelude.{◌≡◌, ◌≢◌, ◌<◌, ◌≤◌, ◌⊎◌, ℕ, ◌+◌, Bool, true, false, List, [], ◌∷◌, ◌++◌, Option, Some, None, option_map, Result, Ok, Err, length, if◌then◌else◌}
use Rattle.std.specs.List.{AllByRecursion}
use Rattle.cite_schema.specs.TableTexts.{bad_cell_in, row_of}
use Rattle.cite_schema.specs.Tests.{unless, wanted}
use Rattle.cite_schema.specs.Lines.{key_in}
use Rattle.cite_schema.specs.declared.value.Value.{Value}
use Rattle.cite_schema.specs.declared.schema.Column.{Column}
use Rattle.cite_schema.specs.declared.line.Line.{Line}
use Rattle.batches.specs.declared.fault.BatchFault.{BatchFault}
use Rattle.batches.specs.declared.fault.BatchFault.TheVariants.{BadWidth, BadCell, BadHeader, EmptyBatch, TooManyLines, KeyTwice, NoMemory}
use Rattle.batches.specs.declared.reading.Collected.{Collected}
use Rattle.batches.specs.Bodies.{is_header, line_in, names_key_of, first_cell, filled_behind, lines_of_records}
use Rattle.batches.specs.Laws.{AreLines}

-- the row of the fields behind the operation, or the first column whose field says no value there
abbrev pub row_in : List Column → ℕ → List (List ℕ) → Result (List Value) BatchFault
row_in columns n fields = unless (option_map (λ i. BadCell n i) (bad_cell_in columns fields)) (wanted (row_of columns fields) (BadWidth n) (λ row. Ok row))

-- the key of a line that takes its row away, or the first column whose field says otherwise
abbrev pub key_alone : List Column → ℕ → List (List ℕ) → Result Value BatchFault
key_alone columns n fields = wanted (first_cell columns fields) (BadCell n 0) (λ key. unless (option_map (λ i. BadCell n i) (filled_behind fields)) (Ok key))

-- what a record adds to what was read: its line, or its fault
abbrev pub added : Collected → Result Line BatchFault → Collected
added read (Ok line) = record read { lines = read.lines ++ line ∷ [] }
added read (Err fault) = record read { fault = Some fault }

-- what is read after the record of line n: nothing more once a record had a fault
abbrev pub read_after : List Column → ℕ → List (List ℕ) → Option BatchFault → Collected → Collected
read_after columns n fields None read = added read (line_in columns n fields)
read_after columns n fields (Some fault) read = read

-- records spell these lines up to the first that spells none, whose fault this is
pub record IsFault (columns : List Column) (records : List (List (List ℕ))) (lines : List Line) (fault : BatchFault) : Type 0 where
  pub before : List (List (List ℕ))
  pub fields : List (List ℕ)
  pub after : List (List (List ℕ))
  pub parts : records ≡ before ++ fields ∷ after
  pub spelled : AreLines columns 1 before lines
  pub breaks : line_in columns (length lines + 1) fields ≡ Err fault

-- the lines that records spell, up to the first that spells none where there is one
abbrev pub AreCollected : List Column → List (List (List ℕ)) → List Line → Option BatchFault → Type 0
AreCollected columns records lines None = AreLines columns 1 records lines
AreCollected columns records lines (Some fault) = IsFault columns records lines fault

-- the number of the first line, from line n on, whose key a line before it names
abbrev pub key_twice_in : List Line → ℕ → List Line → Option ℕ
key_twice_in before n [] = None
key_twice_in before n (l ∷ ls) = if names_key_of before l then Some n else key_twice_in (before ++ l ∷ []) (n + 1) ls

-- what was read of the records under a header: at most 20,000, and one at least
pub record IsCollected (columns : List Column) (records : List (List (List ℕ))) (read : Collected) : Type 0 where
  pub some : 1 ≤ length records
  pub few : length records ≤ 20000
  pub collected : AreCollected columns records read.lines read.fault

-- the number of records is refused
abbrev pub IsRefused : List (List (List ℕ)) → BatchFault → Type 0
IsRefused records fault = fault ≢ NoMemory → ((fault ≡ EmptyBatch) × (length records ≡ 0)) ⊎ ((fault ≡ TooManyLines) × (20000 < length records))

-- each line names a key
abbrev pub HaveKeys : List Line → Type 0
HaveKeys lines = AllByRecursion (λ l. key_in l ≢ None) lines

-- whether the first record is the header, with the others left; where it is not, this is told
abbrev pub HeadIs : List Column → Bool → List (List (List ℕ)) → List (List (List ℕ)) → Type 0
HeadIs columns true records rest = (head : List (List ℕ)) × (records ≡ head ∷ rest) × (is_header columns head ≡ true)
HeadIs columns false records rest = lines_of_records columns records ≡ Err BadHeader

-- what is told: a key that comes twice before anything else
abbrev pub outcome : Option ℕ → Result (List Line) BatchFault → Result (List Line) BatchFault
outcome None due = due
outcome (Some n) due = Err (KeyTwice n)

-- the fault of the lines, or the lines
abbrev pub due_by : Option BatchFault → List Line → Result (List Line) BatchFault
due_by None lines = Ok lines
due_by (Some fault) lines = Err fault

-- what is told of what was read
abbrev pub due_of : Collected → Result (List Line) BatchFault
due_of read = outcome (key_twice_in [] 1 read.lines) (due_by read.fault read.lines)
