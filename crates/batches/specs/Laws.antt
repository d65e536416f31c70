-- What is told of a body, in words of its first record, of the number of the others, and of the first that breaks a rule.
use Rattle.std.specs.Prelude.{◌≡◌, ◌≢◌, ◌↔◌, ◌<◌, ◌≤◌, ◌⊎◌, ℕ, ◌+◌, not, List, [], ◌∷◌, ◌++◌, Result, Ok, Err, map, length, codes, AllPairs, ⊤}
use Rattle.std.specs.declared.cmp.Ordering.TheVariants.{Equal}
use Rattle.cite_schema.specs.Tables.{cell_cmp}
use Rattle.cite_schema.specs.Lines.{key_in}
use Rattle.cite_schema.specs.Tests.{demand, given}
use Rattle.cite_schema.specs.declared.schema.Column.{Column}
use Rattle.cite_schema.specs.declared.line.Line.{Line}
use Rattle.csv_records.specs.Records.{records_of}
use Rattle.batches.specs.declared.fault.BatchFault.{BatchFault}
use Rattle.batches.specs.declared.fault.BatchFault.TheVariants.{BadHeader, EmptyBatch, TooManyLines, KeyTwice}
use Rattle.batches.specs.Bodies.{line_in, names_key_of, lines_of}

-- each record, from line n on, spells the line at its place
abbrev pub AreLines : List Column → ℕ → List (List (List ℕ)) → List Line → Type 0
AreLines columns n [] [] = ⊤
AreLines columns n [] (l ∷ ls) = ⊥
AreLines columns n (r ∷ rs) [] = ⊥
AreLines columns n (r ∷ rs) (l ∷ ls) = (line_in columns n r ≡ Ok l) × AreLines columns (n + 1) rs ls

-- no two lines name one key
abbrev pub NameOwnKeys : List Line → Type 0
NameOwnKeys lines = AllPairs (λ l m. cell_cmp (key_in l) (key_in m) ≢ Equal) lines

-- the line that the record of line n spells behind some lines, or the first rule that it breaks
abbrev pub line_behind : List Column → List Line → ℕ → List (List ℕ) → Result Line BatchFault
line_behind columns before n fields =
    given (line_in columns n fields) (λ fault. fault) (λ line. demand (not (names_key_of before line)) (KeyTwice n) (Ok line))

-- a record breaks this rule, and is the first to break one: those before it spell lines with keys of their own
pub record IsFirstBroken (columns : List Column) (records : List (List (List ℕ))) (fault : BatchFault) : Type 0 where
  pub before : List (List (List ℕ))
  pub fields : List (List ℕ)
  pub after : List (List (List ℕ))
  pub parts : records ≡ before ++ fields ∷ after
  pub lines : List Line
  pub spelled : AreLines columns 1 before lines
  pub apart : NameOwnKeys lines
  pub breaks : line_behind columns lines (length lines + 1) fields ≡ Err fault

-- the fields of a header
abbrev pub batch_header : List Column → List (List ℕ)
batch_header columns = codes "op" ∷ map (λ c. c.name) columns

-- the records under a header are none, or more than 20,000, or the first of them that breaks a rule breaks this one
abbrev pub AreBroken : List Column → List (List (List ℕ)) → BatchFault → Type 0
AreBroken columns records fault =
    ((length records ≡ 0) × (fault ≡ EmptyBatch))
    ⊎ (((20000 < length records) × (fault ≡ TooManyLines)) ⊎ ((1 ≤ length records) × (length records ≤ 20000) × IsFirstBroken columns records fault))

-- records break this rule first: of their header, and then of those under it
abbrev pub IsBroken : List Column → List (List (List ℕ)) → BatchFault → Type 0
IsBroken columns [] fault = fault ≡ BadHeader
IsBroken columns (head ∷ records) fault =
    ((head ≢ batch_header columns) × (fault ≡ BadHeader)) ⊎ ((head ≡ batch_header columns) × AreBroken columns records fault)

-- the fault that is told of a body is that of the first rule that it breaks, and of its lines that of the first that breaks one
abbrev pub FirstBrokenIsTold : Type 0
FirstBrokenIsTold = (columns : List Column) (body : List ℕ) (fault : BatchFault) → ((lines_of columns body ≡ Err fault) ↔ IsBroken columns (records_of body) fault)

-- the records are a header, and behind it 1 to 20,000 records that spell lines with keys of their own
abbrev pub IsBatch : List Column → List (List (List ℕ)) → List Line → Type 0
IsBatch columns [] lines = ⊥
IsBatch columns (head ∷ records) lines =
    (head ≡ batch_header columns) × (1 ≤ length records) × (length records ≤ 20000) × AreLines columns 1 records lines × NameOwnKeys lines

-- lines are told, and no fault, exactly where the body is a batch of these lines
abbrev pub BatchesBreakNone : Type 0
BatchesBreakNone = (columns : List Column) (body : List ℕ) (lines : List Line) → ((lines_of columns body ≡ Ok lines) ↔ IsBatch columns (records_of body) lines)
