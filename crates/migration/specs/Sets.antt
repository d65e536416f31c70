-- Which values belong to the set of a column after a step.
use Rattle.std.specs.Prelude.{ℤ, pos, ◌-◌, ◌^◌, Bool, true, false, List, [], ◌∷◌, Option, Some, None, option_map, int_lt, int_le, if◌then◌else◌}
use Rattle.std.specs.List.{flat_map}
use Rattle.std.specs.Option.{option_and_then, option_to_list}
use Rattle.std.specs.Ordering.{int_cmp, is_eq}
use Rattle.cite_schema.specs.Values.{value_cmp, printed, is_number, text_cmp}
use Rattle.cite_schema.specs.declared.value.Value.{Value}
use Rattle.cite_schema.specs.declared.value.Value.TheVariants.{Int, Text}
use Rattle.cite_schema.specs.declared.step.Step.{Step}
use Rattle.cite_schema.specs.declared.step.Step.TheVariants.{Rename, DropColumn, Scale, Recode, RetypeToText}
use Rattle.interval_normal.specs.declared.set.Span.{Span}
use Rattle.interval_normal.specs.Points.{least_number, number_after}
use Rattle.interval_normal.specs.Spans.{has}
use Rattle.subset_query.specs.declared.form.ColumnSet.{ColumnSet}
use Rattle.subset_query.specs.declared.form.ColumnSet.TheVariants.{Ints, Texts}
use Rattle.subset_query.specs.Forms.{in_set}
use Rattle.subset_query.specs.Printed.{is_whole}
use Rattle.migration.specs.Rows.{image}

-- the greatest number, 2^63 − 1
abbrev pub greatest_number : ℤ
greatest_number = pos (2 ^ 63 - 1)

-- the set holds every value of the kind
abbrev pub is_full : ColumnSet → Bool
is_full (Ints spans) = is_whole int_cmp least_number spans
is_full (Texts spans) = is_whole text_cmp [] spans

-- two upper ends are one
abbrev pub same_end : Option ℤ → Option ℤ → Bool
same_end None None = true
same_end (Some a) (Some b) = is_eq (int_cmp a b)
same_end _ _ = false

-- the span holds its low end alone
abbrev pub is_one : Span ℤ → Bool
is_one span = same_end (number_after span.low) span.high

-- the span of one number, where it is in the range
abbrev pub one_span : ℤ → Option (Span ℤ)
one_span z = if is_number z then Some (record { low = z; high = number_after z }) else None

-- the image of a low end: the least number stays, and what falls below it becomes it; none above the greatest number
abbrev pub low_image : ℤ → ℤ → ℤ → Option ℤ
low_image by plus low =
    if is_eq (int_cmp low least_number) then Some low
    else (if int_lt greatest_number (image by plus low) then None
    else (if int_lt (image by plus low) least_number then Some least_number else Some (image by plus low)))

-- the image of an upper end: an absent one stays absent, and what rises above the greatest number becomes absent; none at the least number or below
abbrev pub high_image : ℤ → ℤ → Option ℤ → Option (Option ℤ)
high_image by plus None = Some None
high_image by plus (Some high) =
    if int_lt greatest_number (image by plus high) then Some None
    else (if int_le (image by plus high) least_number then None else Some (Some (image by plus high)))

-- the image of a span: of one number that number's image, else the span between the images of the ends, cut to the range
abbrev pub span_image : ℤ → ℤ → Span ℤ → Option (Span ℤ)
span_image by plus span =
    if is_one span then one_span (image by plus span.low)
    else option_and_then (λ low. option_map (λ high. record { low = low; high = high }) (high_image by plus span.high)) (low_image by plus span.low)

-- the one number of a set that holds one number alone
abbrev pub only_number : List (Span ℤ) → Option ℤ
only_number (s ∷ []) = if is_one s then Some s.low else None
only_number _ = None

-- the number is in the image of the spans
abbrev pub is_in_image : ℤ → ℤ → List (Span ℤ) → Value → Bool
is_in_image by plus spans (Int z) = has int_cmp (flat_map (λ s. option_to_list (span_image by plus s)) spans) z
is_in_image by plus spans (Text t) = false

-- which texts belong to the set of a number column that is retyped: each, or the text of its one number
abbrev pub retyped : List (Span ℤ) → Option (Value → Bool)
retyped spans =
    if is_whole int_cmp least_number spans then Some (λ v. true)
    else option_map (λ z v. is_eq (value_cmp v (Text (printed (Int z))))) (only_number spans)

-- which values belong to the set of the column that a step names, after the step; none where the set is not carried
abbrev pub set_after : Step → ColumnSet → Option (Value → Bool)
set_after (Scale c by plus) (Ints spans) = Some (is_in_image by plus spans)
set_after (Recode c old new) set = Some (λ v. if is_eq (value_cmp v new) then in_set set old else in_set set v)
set_after (RetypeToText c) (Ints spans) = retyped spans
set_after (DropColumn c) set = if is_full set then Some (λ v. true) else None
set_after (Rename c to) set = Some (in_set set)
set_after _ set = None
