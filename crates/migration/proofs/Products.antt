-- Products of numbers, and what is added to them, fit 128 bits.
use Rattle.std.proofs.Common.{ℕ, ℤ, pos, negsuc, ◌+ℤ◌, ◌*ℤ◌, ◌*◌, ◌+◌, ◌≤◌, ◌^◌, subst, sym, arith}
use Rattle.std.specs.Prelude.{unsigned_abs, FitsSigned}
use Rattle.std.specs.Int.{w64, w128}
use Rattle.std.proofs.lemmas.Int.{ints, unsigned_abs-mul, fits_signed_from_abs}
use Rattle.std.proofs.lemmas.Nat.{mul-le}

-- a number of 64 bits is within 2^63
pub number_within : (z : ℤ) → FitsSigned w64 z → unsigned_abs z ≤ 2 ^ 63
number_within (pos n) h = omega (arith, h.sfits)
number_within (negsuc n) h = omega (arith, h.sfits)

-- what is within 2^126 and a bit more fits 128 bits
pub wide : (z : ℤ) → unsigned_abs z ≤ 2 ^ 126 + 2 ^ 63 → FitsSigned w128 z
wide z h = fits_signed_from_abs w128 z (omega (arith, h))

-- the product of what is within a bound is within its square
pub product_within : (a b : ℤ) (m n : ℕ) → unsigned_abs a ≤ m → unsigned_abs b ≤ n → unsigned_abs (a *ℤ b) ≤ m * n
product_within a b m n h k = subst (λ c. c ≤ m * n) (sym (unsigned_abs-mul a b)) (mul-le (unsigned_abs a) (unsigned_abs b) m n h k)

-- the sum of what is within two bounds is within their sum
pub sum_within : (a b : ℤ) (m n : ℕ) → unsigned_abs a ≤ m → unsigned_abs b ≤ n → unsigned_abs (a +ℤ b) ≤ m + n
sum_within a b m n h k = grind (arith, ints)
