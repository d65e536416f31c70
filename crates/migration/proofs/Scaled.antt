-- A number that was scaled into the range is its image.
use Rattle.std.proofs.Common.{◌≡◌, ℤ, pos, negsuc, arith, Bool, true, false, Option, Some, None, refl, ap, ◌∙◌}
use Rattle.std.specs.Prelude.{if◌then◌else◌, FitsSigned}
use Rattle.std.specs.Int.{w64, cast_signed, cast_unsigned}
use Rattle.std.proofs.lemmas.Int.{ints, to_z-of_z}
use Rattle.std.proofs.lemmas.Bool.Decides.{nat_tests}
use Rattle.cite_schema.specs.Values.{is_number}
use Rattle.interval_normal.specs.declared.set.Span.{Span}
use Rattle.interval_normal.specs.Points.{number_after}
use Rattle.migration.specs.Rows.{image}
use Rattle.migration.specs.Sets.{one_span}

-- the image, where it is in the range
abbrev pub told : ℤ → ℤ → ℤ → Option ℤ
told by plus number = if is_number (image by plus number) then Some (image by plus number) else None

pub told_number : (by plus number n : ℤ) → Some n ≡ told by plus number → n ≡ image by plus number
told_number by plus number n e = cases (is_number (image by plus number)) e
  where
    cases : (b : Bool) → Some n ≡ (if b then Some (image by plus number) else None) → n ≡ image by plus number
    cases true h = cc
    cases false h = absurd (cc)

pub told_none : (by plus number : ℤ) → None ≡ told by plus number → None ≡ one_span (image by plus number)
told_none by plus number e = cases (is_number (image by plus number)) e
  where
    cases : (b : Bool) → None ≡ (if b then Some (image by plus number) else None)
        → ◌≡◌ {A = Option (Span ℤ)} None (if b then Some (record { low = image by plus number; high = number_after (image by plus number) }) else None)
    cases true h = absurd (cc)
    cases false h = refl

-- the numbers as the program passes them on are the numbers
pub told_read : (by plus number : ℤ) (r : Option ℤ) → FitsSigned w64 by → FitsSigned w64 plus → FitsSigned w64 number
    → r ≡ told (cast_signed w64 (cast_unsigned w64 by)) (cast_signed w64 (cast_unsigned w64 plus)) (cast_signed w64 (cast_unsigned w64 number)) → r ≡ told by plus number
told_read by plus number r f g h e =
    e ∙ ap (λ (b : ℤ). told b (cast_signed w64 (cast_unsigned w64 plus)) (cast_signed w64 (cast_unsigned w64 number))) (to_z-of_z w64 by f)
    ∙ ap (λ (p : ℤ). told by p (cast_signed w64 (cast_unsigned w64 number))) (to_z-of_z w64 plus g) ∙ ap (λ (n : ℤ). told by plus n) (to_z-of_z w64 number h)

number_fits : (z : ℤ) → is_number z ≡ true → FitsSigned w64 z
number_fits (pos n) h = record { sfits = grind (arith, ints, nat_tests) }
number_fits (negsuc n) h = record { sfits = grind (arith, ints, nat_tests) }

-- a number that was scaled fits its type
pub told_fits : (by plus number n : ℤ) → Some n ≡ told by plus number → FitsSigned w64 n
told_fits by plus number n e = cases (is_number (image by plus number)) refl e
  where
    cases : (b : Bool) → is_number (image by plus number) ≡ b → Some n ≡ (if b then Some (image by plus number) else None) → FitsSigned w64 n
    cases true g h = let is : n ≡ image by plus number = cc in number_fits n (ap is_number is ∙ g)
    cases false g h = absurd (cc)
