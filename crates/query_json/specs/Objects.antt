-- The members of JSON objects. A name that an object repeats is one member, with the last of its values.
use Rattle.std.specs.Prelude.{ℕ, List, Bool, true, false, ◌&&◌, Option, bytes_eq}
use Rattle.std.specs.List.{list_any}
use Rattle.std.specs.Option.{option_and_then}
use Rattle.serde_json.specs.Data.{Data, null, boolean, number, string, array, object, Members, no_members, member}
use Rattle.serde_json.specs.Find.{get, as_str}

-- each member has one of these names
abbrev pub are_among : List (List ℕ) → Members → Bool
are_among names no_members = true
are_among names (member k d ms) = list_any (bytes_eq k) names && are_among names ms

-- an object with no member but those of these names, none of which it must have
abbrev pub has_only : List (List ℕ) → Data → Bool
has_only names null = false
has_only names (boolean b) = false
has_only names (number n) = false
has_only names (string s) = false
has_only names (array ds) = false
has_only names (object ms) = are_among names ms

-- the string that is the member of that name
abbrev pub string_at : List ℕ → Data → Option (List ℕ)
string_at name d = option_and_then as_str (get name d)
