-- What the body of a migration asks: a list of steps.
use Rattle.std.specs.Prelude.{ℕ, ℤ, List, [], ◌∷◌, codes, Result, Ok, Err, Option, Some, None, option_map, if◌then◌else◌, bytes_eq}
use Rattle.std.specs.Option.{option_and_then}
use Rattle.serde_json.specs.Data.{Data, null, boolean, number, string, array, object, Members, no_members, member}
use Rattle.serde_json.specs.Find.{get, as_i64}
use Rattle.cite_schema.specs.declared.value.Value.{Value}
use Rattle.cite_schema.specs.declared.step.Step.{Step}
use Rattle.cite_schema.specs.declared.step.Step.TheVariants as steps
use Rattle.query_json.specs.declared.fault.JsonFault.{JsonFault}
use Rattle.query_json.specs.declared.fault.JsonFault.TheVariants.{NotJson, NotSteps}
use Rattle.query_json.specs.declared.step_word.StepWord.{StepWord}
use Rattle.query_json.specs.declared.step_word.StepWord.TheVariants.{Rename, Add, DropColumn, Scale, Recode, Retype}
use Rattle.query_json.specs.Objects.{has_only, string_at}
use Rattle.query_json.specs.Values.{value_of, list_of}
use Rattle.query_json.specs.Requests.{json_of}

-- the step that a word names
unfoldable pub step_word_of : List ℕ → Option StepWord
step_word_of word =
    if bytes_eq word (codes "rename") then Some Rename else
    if bytes_eq word (codes "add") then Some Add else
    if bytes_eq word (codes "drop") then Some DropColumn else
    if bytes_eq word (codes "scale") then Some Scale else
    if bytes_eq word (codes "recode") then Some Recode else
    if bytes_eq word (codes "retype") then Some Retype else None

-- a whole number that fits an `i64` and is written without fraction and exponent
abbrev pub number_in : Data → Option ℤ
number_in null = None
number_in (boolean b) = None
number_in (number n) = as_i64 n
number_in (string s) = None
number_in (array ds) = None
number_in (object ms) = None

-- the number that is the member of that name
abbrev pub number_at : List ℕ → Data → Option ℤ
number_at name d = option_and_then number_in (get name d)

-- the value that is the member of that name
abbrev pub value_at : List ℕ → Data → Option Value
value_at name d = option_and_then value_of (get name d)

-- a step of its parts, where each is of its form
abbrev pub rename_from : Option (List ℕ) → Option (List ℕ) → Option Step
rename_from None to = None
rename_from (Some column) None = None
rename_from (Some column) (Some to) = Some (steps.Rename column to)

abbrev pub add_from : Option (List ℕ) → Option Value → Option Step
add_from None value = None
add_from (Some column) None = None
add_from (Some column) (Some value) = Some (steps.Add column value)

abbrev pub scale_from : Option (List ℕ) → Option ℤ → Option ℤ → Option Step
scale_from None by plus = None
scale_from (Some column) None plus = None
scale_from (Some column) (Some by) None = None
scale_from (Some column) (Some by) (Some plus) = Some (steps.Scale column by plus)

abbrev pub recode_from : Option (List ℕ) → Option Value → Option Value → Option Step
recode_from None old new = None
recode_from (Some column) None new = None
recode_from (Some column) (Some old) None = None
recode_from (Some column) (Some old) (Some new) = Some (steps.Recode column old new)

-- the one kind that a column may be turned into
abbrev pub retype_from : Option (List ℕ) → Option (List ℕ) → Option Step
retype_from None kind = None
retype_from (Some column) None = None
retype_from (Some column) (Some kind) = if bytes_eq kind (codes "text") then Some (steps.RetypeToText column) else None

-- the step that a word and its content say: an object with exactly the members of the step
abbrev pub step_by : StepWord → Data → Option Step
step_by Rename d = if has_only (codes "column" ∷ codes "to" ∷ []) d then rename_from (string_at (codes "column") d) (string_at (codes "to") d) else None
step_by Add d = if has_only (codes "column" ∷ codes "value" ∷ []) d then add_from (string_at (codes "column") d) (value_at (codes "value") d) else None
step_by DropColumn d = if has_only (codes "column" ∷ []) d then option_map steps.DropColumn (string_at (codes "column") d) else None
step_by Scale d = if has_only (codes "by" ∷ codes "column" ∷ codes "plus" ∷ []) d then scale_from (string_at (codes "column") d) (number_at (codes "by") d) (number_at (codes "plus") d) else None
step_by Recode d = if has_only (codes "column" ∷ codes "new" ∷ codes "old" ∷ []) d then recode_from (string_at (codes "column") d) (value_at (codes "old") d) (value_at (codes "new") d) else None
step_by Retype d = if has_only (codes "column" ∷ codes "kind" ∷ []) d then retype_from (string_at (codes "column") d) (string_at (codes "kind") d) else None

-- the step of a word, where it names one
abbrev pub step_if : Option StepWord → Data → Option Step
step_if None d = None
step_if (Some word) d = step_by word d

-- the step of an object's members, of which there is one
abbrev pub step_in : Members → Option Step
step_in no_members = None
step_in (member k d no_members) = step_if (step_word_of k) d
step_in (member k d (member l e ms)) = None

-- the step that a JSON value says
abbrev pub step_of : Data → Option Step
step_of null = None
step_of (boolean b) = None
step_of (number n) = None
step_of (string s) = None
step_of (array ds) = None
step_of (object ms) = step_in ms

-- the steps that were read, or the fault
abbrev pub steps_from : Option (List Step) → Result (List Step) JsonFault
steps_from None = Err NotSteps
steps_from (Some read) = Ok read

-- the steps of what was read
abbrev pub steps_if : Option Data → Result (List Step) JsonFault
steps_if None = Err NotJson
steps_if (Some d) = steps_from (list_of step_of d)

-- the steps that a body spells, or its fault
abbrev pub steps_in : List ℕ → Result (List Step) JsonFault
steps_in body = steps_if (json_of body)
