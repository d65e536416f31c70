-- The text that a number prints is a text.
use Rattle.std.proofs.Common.{◌≡◌, ℕ, suc, ℤ, pos, negsuc, ◌<◌, ◌^◌, true, List, [], ◌∷◌, refl, arith, nat_lt}
use Rattle.std.specs.Str.{IsAscii}
use Rattle.std.specs.Fmt.{signed_decimal}
use Rattle.std.proofs.lemmas.Fmt.{IsAscii-signed}
use Rattle.std.proofs.lemmas.Int.{ints}
use Rattle.std.proofs.lemmas.Bool.Decides.{nat_tests}
use Rattle.cite_schema.specs.Values.{is_number, is_text}
use Rattle.cite_schema.proofs.Rising.{and_true}
use lib.Signed.{mag}

number_mag : (z : ℤ) → is_number z ≡ true → mag z < 2 ^ 63
number_mag (pos n) h = grind (arith, ints, nat_tests)
number_mag (negsuc n) h = grind (arith, ints, nat_tests)

below_256 : (b : ℕ) → b < 128 → nat_lt b 256 ≡ true
below_256 b h = grind (arith, nat_tests)

ascii_text : (bs : List ℕ) → IsAscii bs → is_text bs ≡ true
ascii_text [] h = refl
ascii_text (b ∷ bs) h = and_true _ _ (below_256 b (h 0)) (ascii_text bs (λ i. h (suc i)))

pub printed_text : (z : ℤ) → is_number z ≡ true → is_text (signed_decimal z) ≡ true
printed_text z h = ascii_text (signed_decimal z) (IsAscii-signed z (number_mag z h))
