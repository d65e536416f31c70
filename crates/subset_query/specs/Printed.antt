-- The printed form of a query: lines, each with a line feed at its end.
use Rattle.std.specs.Prelude.{ℕ, ◌+◌, Bool, false, ◌&&◌, List, [], ◌∷◌, ◌++◌, Option, Some, None, codes, is_none, if◌then◌else◌}
use Rattle.std.specs.List.{flat_map}
use Rattle.std.specs.Fmt.{decimal, signed_decimal}
use Rattle.std.specs.declared.cmp.Ordering.{Ordering}
use Rattle.std.specs.Ordering.{int_cmp, is_eq}
use Rattle.hex.specs.Hex.{encode_lower}
use Rattle.cite_schema.specs.Values.{text_cmp}
use Rattle.cite_schema.specs.declared.item.Item.{Item}
use Rattle.cite_schema.specs.declared.item.Dir.{Dir}
use Rattle.cite_schema.specs.declared.item.Shown.{Shown}
use Rattle.cite_schema.specs.declared.item.Shown.TheVariants.{Column, Constant}
use Rattle.interval_normal.specs.Points.{least_number}
use Rattle.interval_normal.specs.declared.set.Span.{Span}
use Rattle.subset_query.specs.declared.form.ColumnSet.{ColumnSet}
use Rattle.subset_query.specs.declared.form.ColumnSet.TheVariants.{Ints, Texts}
use Rattle.subset_query.specs.declared.form.Normal.{Normal}
use Rattle.subset_query.specs.declared.form.Normal.TheVariants as forms

-- an upper end, or the word that there is none
abbrev pub end_text : {P : Type 0} → (P → List ℕ) → Option P → List ℕ
end_text spell None = codes "none"
end_text spell (Some high) = spell high

-- a span: a space, and its ends in brackets, of which the round one says that the upper end is not in it
abbrev pub span_text : {P : Type 0} → (P → List ℕ) → Span P → List ℕ
span_text spell s = codes " [" ++ (spell s.low ++ (codes "," ++ (end_text spell s.high ++ codes ")")))

-- one span from the least value on, without an upper end: every value
abbrev pub is_whole : {P : Type 0} → (P → P → Ordering) → P → List (Span P) → Bool
is_whole cmp least [] = false
is_whole cmp least (s ∷ []) = is_eq (cmp s.low least) && is_none s.high
is_whole cmp least (s ∷ t ∷ ts) = false

-- the line of a column with its spans; a column whose set has every value has no line
abbrev pub spans_line : {P : Type 0} → (P → P → Ordering) → P → (P → List ℕ) → ℕ → List (Span P) → List ℕ
spans_line cmp least spell column spans =
    if is_whole cmp least spans then [] else codes "column " ++ (decimal column ++ (flat_map (span_text spell) spans ++ codes "\n"))

-- the line of a column with its set: numbers in decimal, texts in lower-case hexadecimal
abbrev pub set_line : ℕ → ColumnSet → List ℕ
set_line column (Ints spans) = spans_line int_cmp least_number signed_decimal column spans
set_line column (Texts spans) = spans_line text_cmp [] encode_lower column spans

-- the lines of the columns, of which the first has this number
abbrev pub set_lines : ℕ → List ColumnSet → List ℕ
set_lines column [] = []
set_lines column (s ∷ ss) = set_line column s ++ set_lines (column + 1) ss

-- what an item shows
abbrev pub shown_text : Shown → List ℕ
shown_text (Column i) = codes "column " ++ decimal i
shown_text (Constant bs) = codes "constant " ++ encode_lower bs

-- the line of a label
abbrev pub label_line : List ℕ → List ℕ
label_line label = codes "label " ++ (encode_lower label ++ codes "\n")

-- the line of an item
abbrev pub item_line : Item → List ℕ
item_line item = codes "item " ++ (shown_text item.what ++ (codes " " ++ label_line item.label))

-- the line of an order column
abbrev pub order_line : Dir → List ℕ
order_line d = codes "order " ++ (decimal d.column ++ (if d.down then codes " desc\n" else codes " asc\n"))

-- the printed form: a word for whether there is anything to pick, and then the labels, or the sets, items and order
abbrev pub printed_form : Normal → List ℕ
printed_form (forms.Nothing labels) = codes "none\n" ++ flat_map label_line labels
printed_form (forms.Some sets items order) =
    codes "some\n" ++ (set_lines 0 sets ++ (flat_map item_line items ++ flat_map order_line order))
