-- What a step without a fault makes of a row that fits, fits the columns after it.
use Rattle.std.proofs.Common.{◌≡◌, ℕ, zero, suc, ℤ, Bool, true, false, ◌&&◌, List, [], ◌∷◌, ◌++◌, Option, Some, None, slice_get, refl, sym, ap, subst}
use Rattle.std.specs.Prelude.{if◌then◌else◌, option_map}
use Rattle.std.specs.Ordering.{is_eq}
use Rattle.cite_schema.specs.declared.value.Kind.{Kind}
use Rattle.cite_schema.specs.declared.value.Kind.TheVariants as kinds
use Rattle.cite_schema.specs.declared.value.Value.{Value}
use Rattle.cite_schema.specs.declared.value.Value.TheVariants.{Int, Text}
use Rattle.cite_schema.specs.declared.schema.Column.{Column}
use Rattle.cite_schema.specs.declared.step.Step.{Step}
use Rattle.cite_schema.specs.declared.step.Step.TheVariants.{Rename, Add, DropColumn, Scale, Recode, RetypeToText}
use Rattle.cite_schema.specs.Values.{value_cmp, is_number, is_value_of, kind_of, printed}
use Rattle.cite_schema.specs.Tables.{fits}
use Rattle.cite_schema.proofs.Rising.{and_first, and_second, and_true}
use Rattle.migration.specs.Places.{changed, changed_if, without}
use Rattle.migration.specs.Columns.{place_of, column_after, columns_after, is_int}
use Rattle.migration.specs.Rows.{image, value_after, row_after}
use Rattle.migration.proofs.Numerals.{printed_text}
use Rattle.migration.proofs.Faultless.{IsFaultless, not_false, passes_kind}

-- where a change that may fail gave a list, it gave a head and a tail
pub mapped : {A B : Type 0} (f : A → B) (o : Option A) (y : B) → option_map f o ≡ Some y → (x : A) × (o ≡ Some x) × (f x ≡ y)
mapped f None y e = absurd (cc)
mapped f (Some x) y e = (x, refl, cc)

fits_appended : (cs : List Column) (vs : List Value) (c : Column) (v : Value) → fits cs vs ≡ true → is_value_of c.kind v ≡ true → fits (cs ++ c ∷ []) (vs ++ v ∷ []) ≡ true
fits_appended [] [] c v h k = and_true _ _ k refl
fits_appended [] (w ∷ ws) c v h k = absurd (cc)
fits_appended (d ∷ ds) [] c v h k = absurd (cc)
fits_appended (d ∷ ds) (w ∷ ws) c v h k = and_true _ _ (and_first _ _ h) (fits_appended ds ws c v (and_second _ _ h) k)

fits_without : (i : ℕ) (cs : List Column) (vs : List Value) → fits cs vs ≡ true → fits (without i cs) (without i vs) ≡ true
fits_without i [] [] h = refl
fits_without i [] (w ∷ ws) h = absurd (cc)
fits_without i (d ∷ ds) [] h = absurd (cc)
fits_without zero (d ∷ ds) (w ∷ ws) h = and_second _ _ h
fits_without (suc i) (d ∷ ds) (w ∷ ws) h = and_true _ _ (and_first _ _ h) (fits_without i ds ws (and_second _ _ h))

-- the change of a value at place i fits the change of its column
abbrev Suits : (Column → Column) → (Value → Option Value) → List Column → ℕ → Type 0
Suits f g cs i = (c : Column) (v w : Value) → slice_get cs i ≡ Some c → is_value_of c.kind v ≡ true → g v ≡ Some w → is_value_of (f c).kind w ≡ true

fits_changed : (f : Column → Column) (g : Value → Option Value) (i : ℕ) (cs : List Column) (vs ws : List Value) → Suits f g cs i → fits cs vs ≡ true → changed_if g i vs ≡ Some ws → fits (changed f i cs) ws ≡ true
fits_changed f g i [] [] ws s h e = let n : [] ≡ ws = cc in ap (λ w. fits [] w) (sym n)
fits_changed f g i [] (v ∷ vs) ws s h e = absurd (cc)
fits_changed f g i (c ∷ cs) [] ws s h e = absurd (cc)
fits_changed f g zero (c ∷ cs) (v ∷ vs) ws s h e =
    let (w, at, is) = mapped (λ y. y ∷ vs) (g v) ws e in
    subst (λ l. fits (f c ∷ cs) l ≡ true) is (and_true _ _ (s c v w refl (and_first _ _ h) at) (and_second _ _ h))
fits_changed f g (suc i) (c ∷ cs) (v ∷ vs) ws s h e =
    let (us, at, is) = mapped (λ ys. v ∷ ys) (changed_if g i vs) ws e in
    subst (λ l. fits (c ∷ changed f i cs) l ≡ true) is (and_true _ _ (and_first _ _ h) (fits_changed f g i cs vs us (λ d x y at' k g'. s d x y at' k g') (and_second _ _ h) at))

scaled_fits : (by plus x : ℤ) (w : Value) → (if is_number (image by plus x) then Some (Int (image by plus x)) else None) ≡ Some w → is_value_of kinds.Int w ≡ true
scaled_fits by plus x w e = cases (is_number (image by plus x)) refl e
  where
    cases : (b : Bool) → is_number (image by plus x) ≡ b → (if b then Some (Int (image by plus x)) else None) ≡ Some w → is_value_of kinds.Int w ≡ true
    cases true n e = let is : Int (image by plus x) ≡ w = cc in subst (λ v. is_value_of kinds.Int v ≡ true) is n
    cases false n e = absurd (cc)

scale_suits : (c : List ℕ) (by plus : ℤ) (k : Kind) (v w : Value) → is_int k ≡ true → is_value_of k v ≡ true → value_after (Scale c by plus) v ≡ Some w → is_value_of k w ≡ true
scale_suits c by plus kinds.Int (Int x) w i h e = scaled_fits by plus x w e
scale_suits c by plus kinds.Int (Text t) w i h e = absurd (cc)
scale_suits c by plus kinds.Text v w i h e = absurd (cc)

recode_suits : (c : List ℕ) (old new : Value) (k : Kind) (v w : Value) → is_value_of k new ≡ true → is_value_of k v ≡ true → value_after (Recode c old new) v ≡ Some w → is_value_of k w ≡ true
recode_suits c old new k v w n h e = cases (is_eq (value_cmp v old)) e
  where
    cases : (b : Bool) → Some (if b then new else v) ≡ Some w → is_value_of k w ≡ true
    cases true e = let is : new ≡ w = cc in subst (λ u. is_value_of k u ≡ true) is n
    cases false e = let is : v ≡ w = cc in subst (λ u. is_value_of k u ≡ true) is h

retype_suits : (c : List ℕ) (k : Kind) (v w : Value) → is_int k ≡ true → is_value_of k v ≡ true → value_after (RetypeToText c) v ≡ Some w → is_value_of kinds.Text w ≡ true
retype_suits c kinds.Int (Int x) w i h e = let is : Text (printed (Int x)) ≡ w = cc in subst (λ u. is_value_of kinds.Text u ≡ true) is (printed_text x h)
retype_suits c kinds.Int (Text t) w i h e = absurd (cc)
retype_suits c kinds.Text v w i h e = absurd (cc)

kept_suits : (k : Kind) (v w : Value) → is_value_of k v ≡ true → Some v ≡ Some w → is_value_of k w ≡ true
kept_suits k v w h e = let is : v ≡ w = cc in subst (λ u. is_value_of k u ≡ true) is h

-- a row that fits the columns is carried by a step to one that fits the columns after it
pub step_fits : (columns : List Column) (step : Step) (row carried : List Value) → IsFaultless columns step → fits columns row ≡ true → row_after columns step row ≡ Some carried → fits (columns_after columns step) carried ≡ true
step_fits columns (Rename c to) row carried f h e =
    fits_changed (column_after (Rename c to)) (value_after (Rename c to)) (place_of columns (Rename c to)) columns row carried (λ d v w at k g. kept_suits d.kind v w k g) h e
step_fits columns (Add c v) row carried f h e =
    let is : row ++ v ∷ [] ≡ carried = cc in
    subst (λ r. fits (columns ++ record { name = c; kind = kind_of v } ∷ []) r ≡ true) is
    (fits_appended columns row (record { name = c; kind = kind_of v }) v h (and_first _ _ (and_second _ _ (not_false _ f.good))))
step_fits columns (DropColumn c) row carried f h e =
    let is : without (place_of columns (DropColumn c)) row ≡ carried = cc in
    subst (λ r. fits (without (place_of columns (DropColumn c)) columns) r ≡ true) is (fits_without (place_of columns (DropColumn c)) columns row h)
step_fits columns (Scale c by plus) row carried f h e =
    fits_changed (column_after (Scale c by plus)) (value_after (Scale c by plus)) (place_of columns (Scale c by plus)) columns row carried
    (λ d v w at k g. scale_suits c by plus d.kind v w (passes_kind columns (Scale c by plus) is_int d (not_false _ f.kind) at) k g) h e
step_fits columns (Recode c old new) row carried f h e =
    fits_changed (column_after (Recode c old new)) (value_after (Recode c old new)) (place_of columns (Recode c old new)) columns row carried
    (λ d v w at k g. recode_suits c old new d.kind v w
    (and_second _ _ (passes_kind columns (Recode c old new) (λ kind. is_value_of kind old && is_value_of kind new) d (not_false _ f.kind) at)) k g) h e
step_fits columns (RetypeToText c) row carried f h e =
    fits_changed (column_after (RetypeToText c)) (value_after (RetypeToText c)) (place_of columns (RetypeToText c)) columns row carried
    (λ d v w at k g. retype_suits c d.kind v w (passes_kind columns (RetypeToText c) is_int d (not_false _ f.kind) at) k g) h e
