-- Texts that spell numbers.
use Rattle.std.specs.Prelude.{List, ℕ, ℤ, Bool, Option, Some, None, length, nat_lt, nat_le, ◌&&◌, if◌then◌else◌}
use Rattle.std.specs.Str.{all_ascii_digits}
use Rattle.std.specs.Str.Parse.{without_leading_sign, signed_digits_value}
use Rattle.cite_schema.specs.Values.{is_number}

-- an optional `-` or `+`, and then 1 to 32 decimal digits
abbrev pub is_number_text : List ℕ → Bool
is_number_text bs = all_ascii_digits (without_leading_sign bs) && (nat_lt 0 (length (without_leading_sign bs)) && nat_le (length (without_leading_sign bs)) 32)

-- the number that a text spells, where it spells one that a cell may hold
unfoldable pub number_of : List ℕ → Option ℤ
number_of bs = if is_number_text bs && is_number (signed_digits_value 10 bs) then Some (signed_digits_value 10 bs) else None
