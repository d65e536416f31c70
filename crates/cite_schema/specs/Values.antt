-- Values of cells, their order and the bytes that they print.
use Rattle.std.specs.Prelude.{ℕ, ℤ, pos, negsuc, ◌-◌, ◌^◌, ◌&&◌, Bool, false, List, nat_lt, int_lt, int_le}
use Rattle.std.specs.List.{list_all}
use Rattle.std.specs.Fmt.{signed_decimal}
use Rattle.std.specs.declared.cmp.Ordering.{Ordering}
use Rattle.std.specs.declared.cmp.Ordering.TheVariants.{Less, Greater}
use Rattle.std.specs.Ordering.{nat_cmp, int_cmp}
use Rattle.std.specs.Cmp.Lexicographic.{slice_cmp}
use Rattle.cite_schema.specs.declared.value.Kind.{Kind}
use Rattle.cite_schema.specs.declared.value.Kind.TheVariants as kinds
use Rattle.cite_schema.specs.declared.value.Value.{Value}
use Rattle.cite_schema.specs.declared.value.Value.TheVariants.{Int, Text}

-- the order of texts: lexicographic by bytes
abbrev pub text_cmp : List ℕ → List ℕ → Ordering
text_cmp = slice_cmp nat_cmp

-- the order of all values: numbers by value, texts by bytes, and each number before each text
abbrev pub value_cmp : Value → Value → Ordering
value_cmp (Int a) (Int b) = int_cmp a b
value_cmp (Int a) (Text b) = Less
value_cmp (Text a) (Int b) = Greater
value_cmp (Text a) (Text b) = text_cmp a b

-- the bytes that a value prints: a number's decimal text, a text's own bytes
abbrev pub printed : Value → List ℕ
printed (Int z) = signed_decimal z
printed (Text t) = t

-- the kind of a value
abbrev pub kind_of : Value → Kind
kind_of (Int z) = kinds.Int
kind_of (Text t) = kinds.Text

-- the numbers that a cell may hold: from −2^63 to 2^63 − 1
abbrev pub is_number : ℤ → Bool
is_number z = int_le (negsuc (2 ^ 63 - 1)) z && int_lt z (pos (2 ^ 63))

-- the texts: lists of numbers below 256
abbrev pub is_text : List ℕ → Bool
is_text t = list_all (λ b. nat_lt b 256) t

-- the values that a column of a kind may hold
abbrev pub is_value_of : Kind → Value → Bool
is_value_of kinds.Int (Int z) = is_number z
is_value_of kinds.Text (Text t) = is_text t
is_value_of _ _ = false
