-- What `select COLUMN LO HI` writes for an input.
use Rattle.std.specs.Prelude.{◌≡◌, ◌<◌, ◌≤◌, ◌⊎◌, List, [], ◌∷◌, ℕ, ℤ, Option, Some, None, length, map, codes}
use Rattle.cite_schema.specs.Numbers.{number_of}
use Rattle.cite_schema.specs.TableTexts.{Spells}
use Rattle.cite_schema.specs.Answers.{Gives}
use Rattle.cite_schema.specs.Queries.{asked}
use Rattle.cite_schema.specs.declared.value.Value.{Value}
use Rattle.cite_schema.specs.declared.value.Value.TheVariants as values
use Rattle.cite_schema.specs.declared.schema.Column.{Column}
use Rattle.cite_schema.specs.declared.condition.Cond.{Cond, Ge, Lt, AllOf}
use Rattle.cite_schema.specs.declared.query.Query.{Query}
use Rattle.cite_cli.specs.declared.bounds.Bounds.{Bounds}
use Rattle.cite_cli.specs.declared.refusal.Refusal.{Refusal}
use Rattle.cite_cli.specs.declared.refusal.Refusal.TheVariants.{ResultTooLarge}
use Rattle.csv_records.specs.Records.{records_of}
use Rattle.cite_cli.specs.Refusals.{records_fault, refusal_line}

-- the word HI says no number above, or this one
abbrev pub IsHigh : List ℕ → Option ℤ → Type 0
IsHigh word None = word ≡ codes "none"
IsHigh word (Some high) = number_of word ≡ Some high

-- the words LO and HI say these bounds
abbrev pub AreBounds : List ℕ → List ℕ → Bounds → Type 0
AreBounds low high bounds = (number_of low ≡ Some bounds.low) × IsHigh high bounds.high

-- the words are `select COLUMN LO HI`
pub record IsSelect (words : List (List ℕ)) (column : List ℕ) (bounds : Bounds) : Type 0 where
  pub low : List ℕ
  pub high : List ℕ
  pub words_are : words ≡ codes "select" ∷ column ∷ low ∷ high ∷ []
  pub bounds_are : AreBounds low high bounds

-- from a number on, and below another where there is one
abbrev pub between : ℤ → Option ℤ → Cond
between low None = Ge (values.Int low)
between low (Some high) = AllOf (Ge (values.Int low) ∷ Lt (values.Int high) ∷ [])

-- a number within the bounds
abbrev pub within : Bounds → Cond
within bounds = between bounds.low bounds.high

-- the query of the words: the rows with LO ≤ COLUMN < HI, each shown by all columns, in the order of the key
abbrev pub select_query : List Column → List ℕ → Bounds → Query
select_query columns column bounds = record {
  conds = record { column = column; cond = within bounds } ∷ [];
  items = map (λ c. record { column = c.name; label = c.name }) columns;
  order = [];
}

-- the input breaks no rule, and these are the bytes of the query's answer on its table
pub record IsResult (column : List ℕ) (bounds : Bounds) (text bytes : List ℕ) : Type 0 where
  pub unbroken : records_fault column (records_of text) ≡ None
  pub columns : List Column
  pub table : List (List Value)
  pub spelled : Spells (records_of text) columns table
  pub given : Gives (asked columns (select_query columns column bounds)) table bytes

-- a result that may be written
abbrev pub IsFullResult : List ℕ → Bounds → List ℕ → List ℕ → Type 0
IsFullResult column bounds text bytes = IsResult column bounds text bytes × (length bytes ≤ 67108864)

-- the result would have more bytes than a result may have
pub record IsTooLarge (column : List ℕ) (bounds : Bounds) (text : List ℕ) (refusal : Refusal) : Type 0 where
  pub bytes : List ℕ
  pub result : IsResult column bounds text bytes
  pub large : 67108864 < length bytes
  pub refusal_is : refusal ≡ ResultTooLarge (length bytes)

-- the first rule that the input breaks, the size of the result last
abbrev pub IsBroken : List ℕ → Bounds → List ℕ → Refusal → Type 0
IsBroken column bounds text refusal = (records_fault column (records_of text) ≡ Some refusal) ⊎ IsTooLarge column bounds text refusal

-- the line that tells it
abbrev pub IsRefusal : List ℕ → Bounds → List ℕ → List ℕ → Type 0
IsRefusal column bounds text line = (refusal : Refusal) × IsBroken column bounds text refusal × (line ≡ refusal_line refusal)

-- what is due for an input: the result of at most 67,108,864 bytes, or the line of a refusal
abbrev pub IsDue : List ℕ → Bounds → List ℕ → List ℕ → Type 0
IsDue column bounds text bytes = IsFullResult column bounds text bytes ⊎ IsRefusal column bounds text bytes

-- one output alone is due for an input
abbrev pub OneOutputIsDue : Type 0
OneOutputIsDue = (column : List ℕ) (bounds : Bounds) (text bytes others : List ℕ) → IsDue column bounds text bytes → IsDue column bounds text others → bytes ≡ others
