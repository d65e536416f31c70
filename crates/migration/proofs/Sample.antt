-- Worked examples of steps.
use Rattle.std.proofs.Common.{◌≡◌, ℤ, pos, negsuc, ◌-◌, ◌^◌, Bool, true, false, [], ◌∷◌, Option, Some, None, refl, arith}
use Rattle.std.specs.Prelude.{Ok, Err, codes, is_none, if◌then◌else◌}
use Rattle.std.specs.Ordering.{int_cmp, is_eq}
use Rattle.std.proofs.lemmas.Int.{ints}
use Rattle.std.proofs.lemmas.Bool.Decides.{nat_tests}
use Rattle.interval_normal.specs.Spans.{has}
use Rattle.std.specs.Option.{option_map_or}
use Rattle.std.specs.Fmt.{decimal}
use Rattle.cite_schema.specs.Headings.{Heading}
use Rattle.cite_schema.specs.declared.value.Kind.TheVariants as kinds
use Rattle.cite_schema.specs.declared.value.Value.{Value}
use Rattle.cite_schema.specs.declared.value.Value.TheVariants.{Int, Text}
use Rattle.cite_schema.specs.declared.schema.Column.{Column}
use Rattle.cite_schema.specs.declared.item.Shown.TheVariants as shown
use Rattle.cite_schema.specs.declared.step.Step.{Step}
use Rattle.cite_schema.specs.declared.step.Step.TheVariants.{Rename, Add, DropColumn, Scale, Recode, RetypeToText}
use Rattle.interval_normal.specs.declared.set.Span.{Span}
use Rattle.subset_query.specs.declared.form.ColumnSet.{ColumnSet}
use Rattle.subset_query.specs.declared.form.ColumnSet.TheVariants.{Ints}
use Rattle.subset_query.specs.declared.form.Normal.TheVariants as forms
use Rattle.migration.specs.declared.fault.StepFault.TheVariants.{BadStep, UnknownColumn, KeyColumn, WrongKind, NameTaken}
use Rattle.migration.specs.Columns.{carry_schema}
use Rattle.migration.specs.Rows.{carry_row}
use Rattle.migration.specs.Sets.{span_image, set_after}
use Rattle.migration.specs.Forms.{parts_after}

abbrev sid : Column
sid = record { name = codes "sid"; kind = kinds.Int }

abbrev depth : Column
depth = record { name = codes "depth"; kind = kinds.Int }

abbrev schema : Heading
schema = record { number = 1; columns = sid ∷ depth ∷ [] }

no_steps : carry_schema schema [] ≡ Err (BadStep 0)
no_steps = refl

renamed_to_key : carry_schema schema (Rename (codes "depth") (codes "sid") ∷ []) ≡ Err (NameTaken 1)
renamed_to_key = refl

dropped_key : carry_schema schema (DropColumn (codes "sid") ∷ []) ≡ Err (KeyColumn 1)
dropped_key = refl

unknown_later : carry_schema schema (Rename (codes "depth") (codes "deep") ∷ Scale (codes "depth") (pos 2) (pos 0) ∷ []) ≡ Err (UnknownColumn 2)
unknown_later = refl

scaled_text : carry_schema schema (RetypeToText (codes "depth") ∷ Scale (codes "depth") (pos 2) (pos 0) ∷ []) ≡ Err (WrongKind 2)
scaled_text = refl

retyped_schema : carry_schema schema (RetypeToText (codes "depth") ∷ []) ≡ Ok (record { number = 2; columns = sid ∷ record { name = codes "depth"; kind = kinds.Text } ∷ [] })
retyped_schema = refl

scaled_row : carry_row schema.columns (Scale (codes "depth") (pos 100) (pos 0) ∷ []) (Int (pos 1) ∷ Int (pos 5) ∷ []) ≡ Some (Int (pos 1) ∷ Int (pos 500) ∷ [])
scaled_row = refl

out_of_range : carry_row schema.columns (Scale (codes "depth") (pos (2 ^ 63 - 1)) (pos 0) ∷ []) (Int (pos 1) ∷ Int (pos 2) ∷ []) ≡ None
out_of_range = refl

retyped_row : carry_row schema.columns (RetypeToText (codes "depth") ∷ Add (codes "note") (Text []) ∷ []) (Int (pos 1) ∷ Int (pos 5) ∷ []) ≡ Some (Int (pos 1) ∷ Text (decimal 5) ∷ Text [] ∷ [])
retyped_row = refl

abbrev span : ℤ → Option ℤ → Span ℤ
span low high = record { low = low; high = high }

least_stays : span_image (pos 2) (pos 1) (span (negsuc (2 ^ 63 - 1)) (Some (pos 5))) ≡ Some (span (negsuc (2 ^ 63 - 1)) (Some (pos 11)))
least_stays = refl

one_scaled : span_image (pos 2) (pos 1) (span (pos 4) (Some (pos 5))) ≡ Some (span (pos 9) (Some (pos 10)))
one_scaled = refl

dropped_above : span_image (pos 2) (pos 0) (span (pos (2 ^ 62)) None) ≡ None
dropped_above = refl

cut_above : span_image (pos 2) (pos 0) (span (pos 1) (Some (pos (2 ^ 62)))) ≡ Some (span (pos 2) None)
cut_above = refl

-- the recoding of 1 to 2 leaves nothing of the set of 2 alone
abbrev holds_after : Step → ColumnSet → Value → Bool
holds_after step set v = option_map_or (λ test. test v) (set_after step set) false

recoded_two : holds_after (Recode (codes "depth") (Int (pos 1)) (Int (pos 2))) (Ints (span (pos 2) (Some (pos 3)) ∷ [])) (Int (pos 2)) ≡ false
recoded_two = refl

recoded_one : holds_after (Recode (codes "depth") (Int (pos 1)) (Int (pos 2))) (Ints (span (pos 1) (Some (pos 2)) ∷ [])) (Int (pos 2)) ≡ true
recoded_one = refl

-- a column whose set is not full is not dropped
not_dropped : parts_after schema.columns (DropColumn (codes "depth")) (forms.Some (Ints (span (negsuc (2 ^ 63 - 1)) None ∷ []) ∷ Ints (span (pos 1) (Some (pos 2)) ∷ []) ∷ []) (record { label = codes "sid"; what = shown.Column 0 } ∷ []) []) ≡ None
not_dropped = refl

-- a full one that nothing shows is
dropped : is_none (parts_after schema.columns (DropColumn (codes "depth")) (forms.Some (Ints (span (negsuc (2 ^ 63 - 1)) None ∷ []) ∷ Ints (span (negsuc (2 ^ 63 - 1)) None ∷ []) ∷ []) (record { label = codes "sid"; what = shown.Column 0 } ∷ []) [])) ≡ false
dropped = refl

-- a set from 1 on is not retyped
not_retyped : parts_after schema.columns (RetypeToText (codes "depth")) (forms.Some (Ints (span (negsuc (2 ^ 63 - 1)) None ∷ []) ∷ Ints (span (pos 1) None ∷ []) ∷ []) (record { label = codes "sid"; what = shown.Column 0 } ∷ []) []) ≡ None
not_retyped = refl

-- two sets that differ are recoded to one: after 5 became 7, the sets of 5, and of 5 and 7, hold the same
recoded_to_one : (z : ℤ)
    → holds_after (Recode (codes "depth") (Int (pos 5)) (Int (pos 7))) (Ints (span (pos 5) (Some (pos 6)) ∷ [])) (Int z)
    ≡ holds_after (Recode (codes "depth") (Int (pos 5)) (Int (pos 7))) (Ints (span (pos 5) (Some (pos 6)) ∷ span (pos 7) (Some (pos 8)) ∷ [])) (Int z)
recoded_to_one z = by (is_eq (int_cmp z (pos 7))) refl
  where
    apart : is_eq (int_cmp z (pos 7)) ≡ false → has int_cmp (span (pos 5) (Some (pos 6)) ∷ []) z ≡ has int_cmp (span (pos 5) (Some (pos 6)) ∷ span (pos 7) (Some (pos 8)) ∷ []) z
    apart h = grind (arith, ints, nat_tests)

    by : (b : Bool) → is_eq (int_cmp z (pos 7)) ≡ b
        → (if b then true else has int_cmp (span (pos 5) (Some (pos 6)) ∷ []) z) ≡ (if b then true else has int_cmp (span (pos 5) (Some (pos 6)) ∷ span (pos 7) (Some (pos 8)) ∷ []) z)
    by true h = refl
    by false h = apart h
