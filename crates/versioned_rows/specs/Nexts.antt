-- What one version of the kept rows is after another.
use Rattle.std.specs.Prelude.{◌≡◌, ◌≢◌, ◌<◌, ◌≤◌, ℕ, ◌+◌, List, ◌∷◌, ◌++◌, Option, Some, None, Result, Ok, Err, IsPermutation, map, slice_get, ⊤}
use Rattle.std.specs.List.{AllByRecursion, AllZip}
use Rattle.cite_schema.specs.Lines.{brought}
use Rattle.cite_schema.specs.TableTexts.{all_some}
use Rattle.cite_schema.specs.declared.memory.NoMemory.{NoMemory}
use Rattle.cite_schema.specs.declared.value.Value.{Value}
use Rattle.cite_schema.specs.declared.line.Line.{Line}
use Rattle.versioned_rows.specs.declared.fault.ApplyFault.{ApplyFault}
use Rattle.versioned_rows.specs.declared.fault.ApplyFault.TheVariants as apply
use Rattle.versioned_rows.specs.declared.fault.MapFault.{MapFault}
use Rattle.versioned_rows.specs.declared.fault.MapFault.TheVariants as maps
use Rattle.versioned_rows.specs.Changes.{after_lines}
use Rattle.versioned_rows.specs.Histories.{RowHistory, rows_of, as_of, last_table, first_version, lost_key}

-- the new version is the last table after the lines; older ones stay; the rows of the lines are kept beside those that were
pub record IsNextByLines (lines : List Line) (old new : RowHistory) : Type 0 where
  pub last : new.last ≡ old.last + 1
  pub table : after_lines 1 lines (last_table old) ≡ Ok (last_table new)
  pub past : (v : ℕ) → v ≤ old.last → as_of new v ≡ as_of old v
  pub kept : IsPermutation (rows_of old ++ brought lines) (rows_of new)

-- a rule that may give nothing turns each kept row into another; the new version has the table of the last one
pub record IsNextByRule (rule : List Value → Option (List Value)) (old new : RowHistory) : Type 0 where
  pub last : new.last ≡ old.last + 1
  pub table : all_some (map rule (last_table old)) ≡ Some (last_table new)
  pub past : (v : ℕ) → v ≤ old.last → all_some (map rule (as_of old v)) ≡ Some (as_of new v)
  pub kept : all_some (map rule (rows_of old)) ≡ Some (rows_of new)

-- a fault of lines: want of memory, or the fault of the first line that has one
abbrev pub TellsLine : List Line → RowHistory → ApplyFault → Type 0
TellsLine lines old fault = fault ≢ apply.NoMemory → after_lines 1 lines (last_table old) ≡ Err fault

-- a fault of a rule: want of memory, or the lowest version with a row of which nothing comes, and the lowest key of one
abbrev pub TellsLost : (List Value → Option (List Value)) → RowHistory → MapFault → Type 0
TellsLost rule old maps.NoMemory = ⊤
TellsLost rule old (maps.Overflow version key) = first_version old.last (λ v. lost_key rule (as_of old v)) ≡ Some (version, key)

-- a call on the row may give the other row
abbrev pub Turns : (List Value → Result (Option (List Value)) NoMemory → Type 0) → List Value → List Value → Type 0
Turns returns r t = returns r (Ok (Some t))

-- a call on the row may give a row
abbrev pub IsTurned : (List Value → Result (Option (List Value)) NoMemory → Type 0) → List Value → Type 0
IsTurned returns r = (t : List Value) × Turns returns r t

-- calls turn each kept row into another; the new version has the table of the last one
pub record IsNextByCalls (returns : List Value → Result (Option (List Value)) NoMemory → Type 0) (old new : RowHistory) : Type 0 where
  pub last : new.last ≡ old.last + 1
  pub table : AllZip (Turns returns) (last_table old) (last_table new)
  pub past : (v : ℕ) → v ≤ old.last → AllZip (Turns returns) (as_of old v) (as_of new v)
  pub kept : AllZip (Turns returns) (rows_of old) (rows_of new)

-- a call gave nothing for a row of the version's table with the key; calls gave rows for all rows before it in that table, and in all older tables
pub record IsFirstLost (returns : List Value → Result (Option (List Value)) NoMemory → Type 0) (old : RowHistory) (version : ℕ) (key : Value) : Type 0 where
  pub from : 1 ≤ version
  pub to : version ≤ old.last
  pub older : (v : ℕ) → v < version → AllByRecursion (IsTurned returns) (as_of old v)
  pub before : List (List Value)
  pub row : List Value
  pub rest : List (List Value)
  pub table : as_of old version ≡ before ++ row ∷ rest
  pub turned : AllByRecursion (IsTurned returns) before
  pub lost : returns row (Ok None)
  pub has : slice_get row 0 ≡ Some key

-- a fault of calls: want of memory, or the lowest version with a row for which a call gave nothing, and the lowest key of one
abbrev pub TellsFirstLost : (List Value → Result (Option (List Value)) NoMemory → Type 0) → RowHistory → MapFault → Type 0
TellsFirstLost returns old maps.NoMemory = ⊤
TellsFirstLost returns old (maps.Overflow version key) = IsFirstLost returns old version key

-- where a call finds memory, it gives what the rule gives
abbrev pub FollowsRule : (List Value → Option (List Value)) → (List Value → Result (Option (List Value)) NoMemory → Type 0) → Type 0
FollowsRule rule returns = (r : List Value) (o : Option (List Value)) → returns r (Ok o) → o ≡ rule r
