-- What the fields of a head say.
use Rattle.std.specs.Prelude.{ℕ, ◌&&◌, nat_le, List, [], ◌∷◌, length, codes, Bool, Option, Some, None, if◌then◌else◌}
use Rattle.std.specs.List.{list_all, list_any}
use Rattle.std.specs.Str.{str_eq_ignore_ascii_case}
use Rattle.std.specs.Char.{is_ascii_digit}
use Rattle.std.specs.Str.Parse.{digits_value}
use Rattle.httparse.specs.Grammar.{trim_ows}
use Rattle.cite_http.specs.Parts.{parts}

-- the values of the fields of a name, whatever its case
abbrev pub values_named : List ℕ → List (List ℕ × List ℕ) → List (List ℕ)
values_named name [] = []
values_named name (f ∷ fs) = if str_eq_ignore_ascii_case f.0 name then f.1 ∷ values_named name fs else values_named name fs

-- the number that 1 to 18 digits spell
abbrev pub length_text : List ℕ → Option ℕ
length_text v = if nat_le 1 (length v) && nat_le (length v) 18 && list_all is_ascii_digit v then Some (digits_value 10 v) else None

-- the length that the values give: 0 where there is none
abbrev pub body_length : List (List ℕ) → Option ℕ
body_length [] = Some 0
body_length (v ∷ []) = length_text v
body_length (v ∷ w ∷ vs) = None

-- the word is `close`, whatever its case and the spaces and tabs around it
abbrev pub is_close : List ℕ → Bool
is_close w = str_eq_ignore_ascii_case (trim_ows w) (codes "close")

-- one of the words between commas is `close`
abbrev pub has_close : List ℕ → Bool
has_close v = list_any is_close (parts 44 v)
