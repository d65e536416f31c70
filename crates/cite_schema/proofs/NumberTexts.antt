-- When a text spells a number, by what std reads of it.
use Rattle.std.specs.Prelude.{◌≡◌, List, [], ◌∷◌, ℕ, zero, suc, ℤ, pos, negsuc, Bool, true, false, if◌then◌else◌, Some, None, length, drop, get_or, ◌≤◌, ◌<◌, ◌==◌, ◌&&◌, nat_lt, nat_le, Result, Ok, Err, refl, IsUtf8}
use Rattle.std.proofs.Common.{arith, w64, ◌∙◌, ap}
use Rattle.std.specs.Result.{result_ok}
use Rattle.std.specs.Str.{all_ascii_digits, IsAscii}
use Rattle.std.specs.Prelude.{FitsSigned}
use Rattle.std.specs.Str.Parse.{ParsesSigned, without_leading_sign, digits_value, signed_digits_value}
use Rattle.std.proofs.lemmas.Str.Parse.{IsNumeralModel, numerals_by_value, tells_all_ascii_digits}
use Rattle.std.proofs.lemmas.Str.{IsUtf8-from_ascii}
use Rattle.std.proofs.lemmas.Fmt.{IsAscii-from_digits}
use Rattle.std.proofs.lemmas.Bool.{eqb-true, ltb-true, lt-ltb, leb-true, le-leb}
use Rattle.std.proofs.lemmas.Bool.Decides.{nat_tests}
use Rattle.cite_schema.specs.Numbers.{number_of, is_number_text}
use Rattle.cite_schema.specs.Values.{is_number}

own : IsNumeralModel (λ ds. all_ascii_digits ds ≡ true) (digits_value 10)
own = numerals_by_value _ tells_all_ascii_digits

fits_is : (z : ℤ) → FitsSigned w64 z → is_number z ≡ true
fits_is (pos n) h = grind (arith, nat_tests)
fits_is (negsuc n) h = grind (arith, nat_tests)

pub is_fits : (z : ℤ) → is_number z ≡ true → FitsSigned w64 z
is_fits (pos n) h = record { sfits = grind (arith, nat_tests) }
is_fits (negsuc n) h = record { sfits = grind (arith, nat_tests) }

taken : {A : Type 0} (a b c d : Bool) (v : A) → a ≡ true → b ≡ true → c ≡ true → d ≡ true → Some v ≡ (if (a && (b && c)) && d then Some v else None)
taken a b c d v p q r s = rw (p, q, r, s) refl

refused : {A : Type 0} (a b c d : Bool) (v : A) → (a ≡ true → b ≡ true → c ≡ true → d ≡ true → ⊥) → None ≡ (if (a && (b && c)) && d then Some v else None)
refused true true true true v h = absurd (h refl refl refl refl)
refused true true true false v h = refl
refused true true false d v h = refl
refused true false c d v h = refl
refused false b c d v h = refl

pub parsed_is : {E : Type 0} (bs : List ℕ) (r : Result ℤ E) → ParsesSigned w64 10 bs r → length (without_leading_sign bs) ≤ 32 → result_ok r ≡ number_of bs
unfolding number_of
parsed_is bs (Ok x) h short =
    ap Some h.1 ∙ taken (all_ascii_digits (without_leading_sign bs)) _ _ (is_number (signed_digits_value 10 bs)) _
    (own.from _ h.0.0.1) (lt-ltb _ _ h.0.0.0) (le-leb _ _ short) (fits_is _ h.0.1)
parsed_is bs (Err e) h short =
    refused (all_ascii_digits (without_leading_sign bs)) _ _ (is_number (signed_digits_value 10 bs)) _
    (λ p q r s. h ((ltb-true _ _ q, own.to _ p), is_fits _ s))

pub too_long : (bs : List ℕ) → 32 < length (without_leading_sign bs) → None ≡ number_of bs
unfolding number_of
too_long bs long =
    refused (all_ascii_digits (without_leading_sign bs)) (nat_lt 0 (length (without_leading_sign bs))) (nat_le (length (without_leading_sign bs)) 32) (is_number (signed_digits_value 10 bs)) _
    (λ p q r s. let le = leb-true (length (without_leading_sign bs)) 32 r in omega arith)

-- a text is ASCII where its first byte is, and the others are
from_rest : (bs : List ℕ) → get_or bs 0 0 < 128 → IsAscii (drop 1 bs) → IsAscii bs
from_rest [] first rest i = rest i
from_rest (c ∷ cs) first rest zero = first
from_rest (c ∷ cs) first rest (suc i) = rest i

ascii_by : (bs : List ℕ) (m p : Bool) → (m ≡ true → get_or bs 0 0 < 128) → (p ≡ true → get_or bs 0 0 < 128)
    → IsAscii (if m then drop 1 bs else drop (if p then 1 else 0) bs) → IsAscii bs
ascii_by bs true p a b h = from_rest bs (a refl) h
ascii_by bs false true a b h = from_rest bs (b refl) h
ascii_by bs false false a b h = h

-- behind an optional sign there are ASCII bytes alone
ascii_from : (bs : List ℕ) → IsAscii (without_leading_sign bs) → IsAscii bs
ascii_from bs h =
    ascii_by bs (get_or bs 0 0 == 45) (get_or bs 0 0 == 43)
    (λ e. let n = eqb-true (get_or bs 0 0) 45 e in omega arith) (λ e. let n = eqb-true (get_or bs 0 0) 43 e in omega arith) h

pub no_text : (bs : List ℕ) → ¬ (IsUtf8 bs) → None ≡ number_of bs
unfolding number_of
no_text bs none =
    refused (all_ascii_digits (without_leading_sign bs)) (nat_lt 0 (length (without_leading_sign bs))) (nat_le (length (without_leading_sign bs)) 32) (is_number (signed_digits_value 10 bs)) _
    (λ p q r s. none (IsUtf8-from_ascii bs (ascii_from bs (IsAscii-from_digits _ (own.to _ p)))))

gave : {A : Type 0} (a d : Bool) (v z : A) → (if a && d then Some v else None) ≡ Some z → (d ≡ true) × (v ≡ z)
gave true true v z h = (refl, cc)
gave true false v z h = absurd (cc)
gave false d v z h = absurd (cc)

-- a number that a text spells is one that a cell may hold
pub number_is : (bs : List ℕ) (z : ℤ) → number_of bs ≡ Some z → is_number z ≡ true
unfolding number_of
number_is bs z h =
    let (fits, is) = gave (is_number_text bs) (is_number (signed_digits_value 10 bs)) (signed_digits_value 10 bs) z h in
    rw is at fits
