-- What steps make of rows does not weigh too much.
use Rattle.std.proofs.Common.{◌≡◌, ℕ, zero, suc, ℤ, pos, negsuc, ◌+◌, ◌*◌, ◌<◌, ◌≤◌, ◌^◌, Bool, true, false, not, ◌&&◌, ◌||◌, List, [], ◌∷◌, ◌++◌, Option, Some, None, length, refl, ap, arith}
use Rattle.std.specs.Prelude.{Ok, nat_le, if◌then◌else◌}
use Rattle.std.specs.List.{AllZip}
use Rattle.std.specs.Fmt.{signed_decimal}
use Rattle.std.specs.Ordering.{is_eq}
use Rattle.std.proofs.lemmas.Fmt.{length_signed_le}
use Rattle.std.proofs.lemmas.Int.{ints}
use Rattle.std.proofs.lemmas.Bool.Decides.{nat_tests}
use Rattle.cite_schema.specs.declared.value.Kind.{Kind}
use Rattle.cite_schema.specs.declared.value.Kind.TheVariants as kinds
use Rattle.cite_schema.specs.declared.value.Value.{Value}
use Rattle.cite_schema.specs.declared.value.Value.TheVariants.{Int, Text}
use Rattle.cite_schema.specs.declared.schema.Column.{Column}
use Rattle.cite_schema.specs.declared.step.Step.{Step}
use Rattle.cite_schema.specs.declared.step.Step.TheVariants.{Rename, Add, DropColumn, Scale, Recode, RetypeToText}
use Rattle.cite_schema.specs.Values.{value_cmp, is_number, is_value_of}
use Rattle.cite_schema.specs.Headings.{is_name}
use Rattle.cite_schema.specs.Tables.{fits, is_short}
use Rattle.cite_schema.proofs.Rising.{and_first, and_second}
use Rattle.cite_schema.proofs.Results.{unfaulted}
use Rattle.migration.specs.Places.{changed_if, without}
use Rattle.migration.specs.Columns.{place_of, columns_after, columns_after_all, step_fault, is_bad, may_come_in}
use Rattle.migration.specs.Rows.{image, value_after, row_after, carry_row}
use Rattle.migration.proofs.Faultless.{IsFaultless, faultless, not_false}
use Rattle.migration.proofs.Fitting.{mapped, step_fits}
use Rattle.migration.proofs.Keys.{chained}
use Rattle.versioned_rows.specs.Weights.{value_weight, row_weight, rows_weight}
use Rattle.archive_state.proofs.BodyLines.{heaviest}
use lib.Signed.{mag}

mag_small : (z : ℤ) → is_number z ≡ true → mag z < 2 ^ 63
mag_small (pos n) h = grind (arith, ints, nat_tests)
mag_small (negsuc n) h = grind (arith, ints, nat_tests)

-- a number prints few bytes
printed_short : (z : ℤ) → is_number z ≡ true → length (signed_decimal z) ≤ 20
printed_short z h = let small = mag_small z h in length_signed_le 19 z (below (mag z) small) small
  where
    below : (m : ℕ) → m < 2 ^ 63 → m + 1 < 10 ^ 19
    below m h = omega arith

within : (n limit : ℕ) → nat_le n limit ≡ true → n ≤ limit
within n limit h = grind (arith, nat_tests)

-- a value that came in is light
short_weight : (v : Value) → is_short v ≡ true → value_weight v ≤ heaviest
short_weight (Int z) h = omega arith
short_weight (Text t) h = let few = within (length t) 65535 h in omega (arith, few)

least : (v : Value) → 16 ≤ value_weight v
least (Int z) = omega arith
least (Text t) = omega arith

good_new : (a b c : Bool) → (a || not (b && c)) ≡ false → c ≡ true
good_new true b c h = absurd (cc)
good_new false true true h = refl
good_new false true false h = absurd (cc)
good_new false false c h = absurd (cc)

is_int_there : (k : Kind) (z : ℤ) → is_value_of k (Int z) ≡ true → is_number z ≡ true
is_int_there kinds.Int z h = h
is_int_there kinds.Text z h = absurd (cc)

at_most_more : (v w : Value) (more : ℕ) → v ≡ w → value_weight w ≤ value_weight v + more
at_most_more v w more e = let same = ap value_weight e in omega (arith, same)

-- what a step makes of a value weighs at most one heaviest cell more
value_heavier : (k : Kind) (step : Step) (v w : Value) → is_bad step ≡ false → is_value_of k v ≡ true → value_after step v ≡ Some w → value_weight w ≤ value_weight v + heaviest
value_heavier k (Rename c to) (Int z) w good h e = at_most_more (Int z) w heaviest (cc)
value_heavier k (Rename c to) (Text t) w good h e = at_most_more (Text t) w heaviest (cc)
value_heavier k (Add c a) (Int z) w good h e = at_most_more (Int z) w heaviest (cc)
value_heavier k (Add c a) (Text t) w good h e = at_most_more (Text t) w heaviest (cc)
value_heavier k (DropColumn c) (Int z) w good h e = at_most_more (Int z) w heaviest (cc)
value_heavier k (DropColumn c) (Text t) w good h e = at_most_more (Text t) w heaviest (cc)
value_heavier k (Scale c by plus) (Int x) w good h e = cases (is_number (image by plus x)) e
  where
    cases : (b : Bool) → (if b then Some (Int (image by plus x)) else None) ≡ Some w → value_weight w ≤ 16 + heaviest
    cases true e = let is : Int (image by plus x) ≡ w = cc in let same = ap value_weight is in omega (arith, same)
    cases false e = absurd (cc)
value_heavier k (Scale c by plus) (Text t) w good h e = at_most_more (Text t) w heaviest (cc)
value_heavier k (Recode c old new) v w good h e = cases (is_eq (value_cmp v old)) (cc)
  where
    cases : (b : Bool) → (if b then new else v) ≡ w → value_weight w ≤ value_weight v + heaviest
    cases true e =
        let light = short_weight new (and_second _ _ (good_new _ (may_come_in old) (may_come_in new) good)) in
        let same = ap value_weight e in omega (arith, light, same)
    cases false e = at_most_more v w heaviest e
value_heavier k (RetypeToText c) (Int z) w good h e =
    let is : Text (signed_decimal z) ≡ w = cc in
    let few = printed_short z (is_int_there k z h) in
    let same = ap value_weight is in omega (arith, few, same)
value_heavier k (RetypeToText c) (Text t) w good h e = at_most_more (Text t) w heaviest (cc)

-- the change of one cell adds what it adds to the cell
changed_heavier : (g : Value → Option Value) (more i : ℕ) (cs : List Column) (vs ws : List Value) → ((k : Kind) (v w : Value) → is_value_of k v ≡ true → g v ≡ Some w → value_weight w ≤ value_weight v + more)
    → fits cs vs ≡ true → changed_if g i vs ≡ Some ws → row_weight ws ≤ row_weight vs + more
changed_heavier g more i [] [] ws one h e = let n : [] ≡ ws = cc in let same = ap row_weight n in omega (arith, same)
changed_heavier g more i [] (v ∷ vs) ws one h e = absurd (cc)
changed_heavier g more i (c ∷ cs) [] ws one h e = absurd (cc)
changed_heavier g more zero (c ∷ cs) (v ∷ vs) ws one h e =
    let (w, at, is) = mapped (λ y. y ∷ vs) (g v) ws e in
    let here = one c.kind v w (and_first _ _ h) at in
    let same = ap row_weight is in omega (arith, here, same)
changed_heavier g more (suc i) (c ∷ cs) (v ∷ vs) ws one h e =
    let (us, at, is) = mapped (λ ys. v ∷ ys) (changed_if g i vs) ws e in
    let rest = changed_heavier g more i cs vs us one (and_second _ _ h) at in
    let same = ap row_weight is in omega (arith, rest, same)

without_lighter : (i : ℕ) (vs : List Value) → row_weight (without i vs) ≤ row_weight vs
without_lighter i [] = omega arith
without_lighter zero (v ∷ vs) = omega arith
without_lighter (suc i) (v ∷ vs) = let rest = without_lighter i vs in omega (arith, rest)

pushed_weight : (vs : List Value) (v : Value) → row_weight (vs ++ v ∷ []) ≡ row_weight vs + value_weight v
pushed_weight [] v = omega arith
pushed_weight (w ∷ ws) v = let rest = pushed_weight ws v in omega (arith, rest)

-- so does a step to a row
step_heavier : (columns : List Column) (step : Step) (row out : List Value) → IsFaultless columns step → fits columns row ≡ true → row_after columns step row ≡ Some out → row_weight out ≤ row_weight row + heaviest
step_heavier columns (Rename c to) row out f h e = changed_heavier (value_after (Rename c to)) heaviest (place_of columns (Rename c to)) columns row out (λ k v w. value_heavier k (Rename c to) v w f.good) h e
step_heavier columns (Add c a) row out f h e =
    let is : row ++ a ∷ [] ≡ out = cc in
    let light = short_weight a (and_second _ _ (and_second (is_name c) (may_come_in a) (not_false _ f.good))) in
    let pushed = pushed_weight row a in
    let same = ap row_weight is in omega (arith, light, pushed, same)
step_heavier columns (DropColumn c) row out f h e =
    let is : without (place_of columns (DropColumn c)) row ≡ out = cc in
    let less = without_lighter (place_of columns (DropColumn c)) row in
    let same = ap row_weight is in omega (arith, less, same)
step_heavier columns (Scale c by plus) row out f h e = changed_heavier (value_after (Scale c by plus)) heaviest (place_of columns (Scale c by plus)) columns row out (λ k v w. value_heavier k (Scale c by plus) v w f.good) h e
step_heavier columns (Recode c old new) row out f h e = changed_heavier (value_after (Recode c old new)) heaviest (place_of columns (Recode c old new)) columns row out (λ k v w. value_heavier k (Recode c old new) v w f.good) h e
step_heavier columns (RetypeToText c) row out f h e = changed_heavier (value_after (RetypeToText c)) heaviest (place_of columns (RetypeToText c)) columns row out (λ k v w. value_heavier k (RetypeToText c) v w f.good) h e

-- and so do all steps
pub carried_heavier : (n : ℕ) (columns after : List Column) (steps : List Step) (row out : List Value) → columns_after_all n columns steps ≡ Ok after → fits columns row ≡ true → carry_row columns steps row ≡ Some out
    → row_weight out ≤ row_weight row + length steps * heaviest
carried_heavier n columns after [] row out s h e = let is : row ≡ out = cc in let same = ap row_weight is in omega (arith, same)
carried_heavier n columns after (x ∷ xs) row out s h e =
    let (none, rest) = unfaulted (step_fault columns n x) _ after s in
    let (next, first, more) = chained (carry_row (columns_after columns x) xs) (row_after columns x row) out e in
    let fine = faultless columns n x none in
    let here = step_heavier columns x row next fine h first in
    let behind = carried_heavier (n + 1) (columns_after columns x) after xs next out rest (step_fits columns x row next fine h first) more in
    sum (row_weight row) (row_weight next) (row_weight out) (length xs) heaviest here behind
  where
    sum : (a b c n most : ℕ) → b ≤ a + most → c ≤ b + n * most → c ≤ a + suc n * most
    sum a b c n most h k = omega arith

-- so rows that are carried weigh at most so much more each
pub all_heavier : (more : ℕ) (rows outs : List (List Value)) → AllZip (λ r t. row_weight t ≤ row_weight r + more) rows outs → rows_weight outs ≤ rows_weight rows + length rows * more
all_heavier more [] [] h = omega arith
all_heavier more [] (t ∷ ts) h = absurd h
all_heavier more (r ∷ rs) [] h = absurd h
all_heavier more (r ∷ rs) (t ∷ ts) h = sum (row_weight r) (row_weight t) (rows_weight rs) (rows_weight ts) (length rs) more h.0 (all_heavier more rs ts h.1)
  where
    sum : (a b c d n m : ℕ) → b ≤ a + m → d ≤ c + n * m → b + d ≤ a + c + suc n * m
    sum a b c d n m h k = omega arith
