-- What a JSON value says as a value of a cell, and what an array says.
use Rattle.std.specs.Prelude.{ℕ, List, [], codes, Option, Some, None, option_map, if◌then◌else◌, bytes_eq}
use Rattle.std.specs.Option.{option_and_then}
use Rattle.std.specs.Result.{result_ok}
use Rattle.hex.specs.Hex.{decode_of}
use Rattle.serde_json.specs.Data.{Data, null, boolean, number, string, array, object, Items, no_items, item, Members, no_members, member}
use Rattle.serde_json.specs.Find.{as_i64, as_str}
use Rattle.cite_schema.specs.TableTexts.{before}
use Rattle.cite_schema.specs.declared.value.Value.{Value}
use Rattle.cite_schema.specs.declared.value.Value.TheVariants.{Int, Text}

-- the text whose bytes a string spells: an even number of hexadecimal digits, in either case; no digit spells the empty text
abbrev pub hex_text : List ℕ → Option Value
hex_text digits = option_map Text (result_ok (decode_of digits))

-- the text of an object's members: `hex` alone, with a string of hexadecimal digits
abbrev pub hex_member : Members → Option Value
hex_member no_members = None
hex_member (member k d no_members) = if bytes_eq k (codes "hex") then option_and_then hex_text (as_str d) else None
hex_member (member k d (member l e ms)) = None

-- the value of a cell that a JSON value says: a whole number that fits an `i64` and is written without fraction and
-- exponent, a string, or an object with `hex`. `-0` is a float to the reader, and so it is no value.
abbrev pub value_of : Data → Option Value
value_of null = None
value_of (boolean b) = None
value_of (number n) = option_map Int (as_i64 n)
value_of (string s) = Some (Text s)
value_of (array ds) = None
value_of (object ms) = hex_member ms

-- a value's text, where it is a text
abbrev pub text_in : Value → Option (List ℕ)
text_in (Int z) = None
text_in (Text t) = Some t

-- the text that a JSON value says
abbrev pub text_of : Data → Option (List ℕ)
text_of d = option_and_then text_in (value_of d)

-- what the items say one by one, where each says something
abbrev pub all_of : {A : Type 0} → (Data → Option A) → Items → Option (List A)
all_of f no_items = Some []
all_of f (item d ds) = before (f d) (all_of f ds)

-- what an array's items say, where each says something
abbrev pub list_of : {A : Type 0} → (Data → Option A) → Data → Option (List A)
list_of f null = None
list_of f (boolean b) = None
list_of f (number n) = None
list_of f (string s) = None
list_of f (array ds) = all_of f ds
list_of f (object ms) = None
