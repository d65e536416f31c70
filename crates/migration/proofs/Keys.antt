-- A step without a fault leaves the key of a row as it is, and leaves some column.
use Rattle.std.proofs.Common.{◌≡◌, ℕ, zero, suc, ◌<◌, ◌+◌, false, List, [], ◌∷◌, ◌++◌, Option, Some, None, length, slice_get, refl, sym, ap, ◌∙◌, subst, arith, length-append}
use Rattle.std.specs.Prelude.{◌==◌}
use Rattle.std.specs.Option.{option_and_then}
use Rattle.cite_schema.specs.declared.value.Value.{Value}
use Rattle.cite_schema.specs.declared.value.Value.TheVariants.{Int, Text}
use Rattle.cite_schema.specs.declared.schema.Column.{Column}
use Rattle.cite_schema.specs.declared.step.Step.{Step}
use Rattle.cite_schema.specs.declared.step.Step.TheVariants.{Rename, Add, DropColumn, Scale, Recode, RetypeToText}
use Rattle.cite_schema.proofs.Results.{unfaulted}
use Rattle.migration.specs.Places.{changed, changed_if, without}
use Rattle.migration.specs.Columns.{place_of, columns_after, step_fault}
use Rattle.migration.specs.Rows.{value_after, row_after, carry_row}
use Rattle.migration.specs.CarryLaws.{CarriedKeysStay}
use Rattle.migration.proofs.Fitting.{mapped}
use Rattle.migration.proofs.Faultless.{IsFaultless, faultless}

nonempty : {A : Type 0} (x : A) (xs : List A) → 0 < length (x ∷ xs)
nonempty x xs = omega arith

-- the row keeps its key, and has a value still
pub record KeepsKey (row carried : List Value) : Type 0 where
  pub key : slice_get carried 0 ≡ slice_get row 0
  pub some : 0 < length carried

keeps_itself : (row carried : List Value) → 0 < length row → row ≡ carried → KeepsKey row carried
keeps_itself row carried some e = subst (KeepsKey row) e (record { key = refl; some = some })

key_appended : (row : List Value) (v : Value) → 0 < length row → KeepsKey row (row ++ v ∷ [])
key_appended [] v some = absurd (omega arith)
key_appended (x ∷ xs) v some = record { key = refl; some = nonempty x (xs ++ v ∷ []) }

key_without : (i : ℕ) (row : List Value) → (i == 0) ≡ false → 0 < length row → KeepsKey row (without i row)
key_without i [] n some = absurd (omega arith)
key_without zero (x ∷ xs) n some = absurd (cc)
key_without (suc i) (x ∷ xs) n some = record { key = refl; some = nonempty x (without i xs) }

key_changed : (g : Value → Option Value) (i : ℕ) (row carried : List Value) → (i == 0) ≡ false → 0 < length row → changed_if g i row ≡ Some carried → KeepsKey row carried
key_changed g i [] carried n some e = absurd (omega arith)
key_changed g zero (x ∷ xs) carried n some e = absurd (cc)
key_changed g (suc i) (x ∷ xs) carried n some e =
    let (ys, at, is) = mapped (λ ys. x ∷ ys) (changed_if g i xs) carried e in
    subst (KeepsKey (x ∷ xs)) is (record { key = refl; some = nonempty x ys })

-- a change that changes nothing
pub unchanged : (i : ℕ) (row carried : List Value) → changed_if (λ v. Some v) i row ≡ Some carried → row ≡ carried
unchanged i [] carried e = cc
unchanged zero (x ∷ xs) carried e = cc
unchanged (suc i) (x ∷ xs) carried e =
    let (ys, at, is) = mapped (λ ys. x ∷ ys) (changed_if (λ v. Some v) i xs) carried e in
    ap (λ l. x ∷ l) (unchanged i xs ys at) ∙ is

pub renamed_is : (c to : List ℕ) (v : Value) → value_after (Rename c to) v ≡ Some v
renamed_is c to (Int z) = refl
renamed_is c to (Text t) = refl

pub step_keeps_key : (columns : List Column) (step : Step) (row carried : List Value) → IsFaultless columns step → 0 < length row → row_after columns step row ≡ Some carried → KeepsKey row carried
step_keeps_key columns (Rename c to) row carried f some e =
    keeps_itself row carried some (unchanged (place_of columns (Rename c to)) row carried
    (ap (λ g. changed_if g (place_of columns (Rename c to)) row) (sym (λ i v. renamed_is c to v i)) ∙ e))
step_keeps_key columns (Add c v) row carried f some e = let is : row ++ v ∷ [] ≡ carried = cc in subst (KeepsKey row) is (key_appended row v some)
step_keeps_key columns (DropColumn c) row carried f some e =
    let is : without (place_of columns (DropColumn c)) row ≡ carried = cc in subst (KeepsKey row) is (key_without (place_of columns (DropColumn c)) row f.not_key some)
step_keeps_key columns (Scale c by plus) row carried f some e = key_changed (value_after (Scale c by plus)) (place_of columns (Scale c by plus)) row carried f.not_key some e
step_keeps_key columns (Recode c old new) row carried f some e = key_changed (value_after (Recode c old new)) (place_of columns (Recode c old new)) row carried f.not_key some e
step_keeps_key columns (RetypeToText c) row carried f some e = key_changed (value_after (RetypeToText c)) (place_of columns (RetypeToText c)) row carried f.not_key some e

some_changed : (g : Column → Column) (i : ℕ) (columns : List Column) → 0 < length columns → 0 < length (changed g i columns)
some_changed g i [] some = absurd (omega arith)
some_changed g zero (c ∷ cs) some = omega arith
some_changed g (suc i) (c ∷ cs) some = omega arith

some_without : (i : ℕ) (columns : List Column) → (i == 0) ≡ false → 0 < length columns → 0 < length (without i columns)
some_without i [] n some = absurd (omega arith)
some_without zero (c ∷ cs) n some = absurd (cc)
some_without (suc i) (c ∷ cs) n some = omega arith

some_appended : (columns : List Column) (c : Column) → 0 < length columns → 0 < length (columns ++ c ∷ [])
some_appended columns c some = rw (length-append columns (c ∷ [])) (omega arith)

-- there is a column after the step
pub step_leaves_some : (columns : List Column) (step : Step) → IsFaultless columns step → 0 < length columns → 0 < length (columns_after columns step)
step_leaves_some columns (Rename c to) f some = some_changed _ _ columns some
step_leaves_some columns (Add c v) f some = some_appended columns _ some
step_leaves_some columns (DropColumn c) f some = some_without _ columns f.not_key some
step_leaves_some columns (Scale c by plus) f some = some_changed _ _ columns some
step_leaves_some columns (Recode c old new) f some = some_changed _ _ columns some
step_leaves_some columns (RetypeToText c) f some = some_changed _ _ columns some

-- where a value came of two steps that may fail, both gave one
pub chained : {A B : Type 0} (f : A → Option B) (o : Option A) (y : B) → option_and_then f o ≡ Some y → (x : A) × (o ≡ Some x) × (f x ≡ Some y)
chained f None y e = absurd (cc)
chained f (Some x) y e = (x, refl, e)

-- a row that is carried keeps its key
pub carried_keeps_key : CarriedKeysStay
carried_keeps_key n columns after [] row carried some s e = let is : row ≡ carried = cc in ap (λ r. slice_get r 0) (sym is)
carried_keeps_key n columns after (x ∷ xs) row carried some s e =
    let (none, rest) = unfaulted (step_fault columns n x) _ after s in
    let (next, first, more) = chained (carry_row (columns_after columns x) xs) (row_after columns x row) carried e in
    let here = step_keeps_key columns x row next (faultless columns n x none) some first in
    carried_keeps_key (n + 1) (columns_after columns x) after xs next carried here.some rest more ∙ here.key
