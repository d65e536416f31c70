-- The tables of a schema: rows that fit its columns, in the order of their keys.
use Rattle.std.specs.Prelude.{Bool, true, false, ◌&&◌, List, [], ◌∷◌, Option, Some, None, length, nat_le, slice_get}
use Rattle.std.specs.List.{list_all, list_any}
use Rattle.std.specs.declared.cmp.Ordering.{Ordering}
use Rattle.std.specs.declared.cmp.Ordering.TheVariants.{Less, Equal, Greater}
use Rattle.std.specs.Ordering.{is_lt, is_eq}
use Rattle.cite_schema.specs.Values.{value_cmp, is_value_of}
use Rattle.cite_schema.specs.declared.value.Value.{Value}
use Rattle.cite_schema.specs.declared.value.Value.TheVariants.{Int, Text}
use Rattle.cite_schema.specs.declared.schema.Column.{Column}

-- each cell is a value of its column's kind, and there is one for each column
abbrev pub fits : List Column → List Value → Bool
fits [] [] = true
fits (c ∷ cs) (v ∷ vs) = is_value_of c.kind v && fits cs vs
fits _ _ = false

-- a value that may come in from outside: a text of at most 65,535 bytes, or any number
abbrev pub is_short : Value → Bool
is_short (Int z) = true
is_short (Text t) = nat_le (length t) 65535

-- a row whose cells may come in from outside
abbrev pub is_short_row : List Value → Bool
is_short_row row = list_all is_short row

-- the order of the cells at one place; a missing cell comes first
abbrev pub cell_cmp : Option Value → Option Value → Ordering
cell_cmp None None = Equal
cell_cmp None (Some b) = Less
cell_cmp (Some a) None = Greater
cell_cmp (Some a) (Some b) = value_cmp a b

-- the order of rows by their keys
abbrev pub key_cmp : List Value → List Value → Ordering
key_cmp r t = cell_cmp (slice_get r 0) (slice_get t 0)

-- one of the rows has the key of the row
abbrev pub has_key : List (List Value) → List Value → Bool
has_key rows row = list_any (λ r. is_eq (key_cmp row r)) rows

-- of each two neighbours the first comes before the second
abbrev pub rises : {X : Type 0} → (X → X → Bool) → List X → Bool
rises lt [] = true
rises lt (x ∷ []) = true
rises lt (x ∷ y ∷ ys) = lt x y && rises lt (y ∷ ys)

-- the keys of the rows rise
abbrev pub is_keyed : List (List Value) → Bool
is_keyed rows = rises (λ r t. is_lt (key_cmp r t)) rows

-- a table of the columns: rows that fit them, with keys in strictly rising order
abbrev pub is_table : List Column → List (List Value) → Bool
is_table columns rows = list_all (λ r. fits columns r) rows && is_keyed rows
