-- Decimal digits, which have no case.
use Rattle.std.proofs.Common.{◌≡◌, ◌<◌, ◌≤◌, ◌+◌, ◌%◌, ◌^◌, ℕ, List, [], ◌∷◌, ◌++◌, map, decimal, Result, Ok, IsUtf8, refl, sym, ◌∙◌, subst, arith, inl, inr, ◌⊎◌}
use Rattle.std.specs.Char.{to_ascii_lowercase}
use Rattle.std.specs.List.{AllByRecursion}
use Rattle.std.proofs.lemmas.Bool.{cases_lt}
use Rattle.std.specs.Str.Parse.{ParsesUnsigned}
use Rattle.std.proofs.lemmas.Fmt.{decimal_by_steps, parse-decimal, IsAscii-decimal}
use Rattle.std.proofs.lemmas.Str.{IsUtf8-from_ascii}
use Rattle.identifiers.specs.Parts.{IsNumber}
use Rattle.std.proofs.lemmas.Str.Ascii.{lowercase_is}

-- each byte is a decimal digit
abbrev pub AreDigits : List ℕ → Type 0
AreDigits text = AllByRecursion (λ c. (48 ≤ c) × (c < 58)) text

one_more : (text : List ℕ) (c : ℕ) → AreDigits text → 48 ≤ c → c < 58 → AreDigits (text ++ c ∷ [])
one_more [] c h low high = ((low, high), tt)
one_more (d ∷ text) c h low high = (h.0, one_more text c h.1 low high)

pub decimal_digits : (n : ℕ) → n < 2 ^ 64 → AreDigits (decimal n)
decimal_digits n small = decimal_by_steps (λ n ds. AreDigits ds) (λ n low. ((omega arith, omega arith), tt)) (λ n ds high h. one_more ds (48 + n % 10) h (omega arith) (omega arith)) n small

-- a byte that is a digit in lower case is this digit
digit_same : (c d : ℕ) → 48 ≤ d → d < 58 → to_ascii_lowercase d ≡ to_ascii_lowercase c → d ≡ c
digit_same c d low high e = by (cases_lt c 65) (cases_lt 90 c)
  where
    small : to_ascii_lowercase d ≡ d
    small = (lowercase_is d).1 (omega arith)

    by : (c < 65) ⊎ (65 ≤ c) → (90 < c) ⊎ (c ≤ 90) → d ≡ c
    by (inl below) upper = sym small ∙ e ∙ (lowercase_is c).1 below
    by (inr from) (inl above) = sym small ∙ e ∙ (lowercase_is c).2 above
    by (inr from) (inr upto) = let letter = (lowercase_is c).0 (from, upto) in let same = sym small ∙ e ∙ letter in absurd (omega arith)

-- a text that is digits but for its case is these digits
pub digits_same : (digits text : List ℕ) → AreDigits digits → map to_ascii_lowercase digits ≡ map to_ascii_lowercase text → digits ≡ text
digits_same [] [] h e = refl
digits_same [] (c ∷ text) h e = absurd (cc)
digits_same (d ∷ digits) [] h e = absurd (cc)
digits_same (d ∷ digits) (c ∷ text) h e =
    let head : to_ascii_lowercase d ≡ to_ascii_lowercase c = cc in
    let tail : map to_ascii_lowercase digits ≡ map to_ascii_lowercase text = cc in
    let same : d ≡ c = digit_same c d h.0.0 h.0.1 head in
    let more : digits ≡ text = digits_same digits text h.1 tail in
    cc

-- digits have no slash among them, in lower case neither
pub no_slash : (digits : List ℕ) → AreDigits digits → AllByRecursion (λ c. c ≡ 47 → ⊥) (map to_ascii_lowercase digits)
no_slash [] h = tt
no_slash (d ∷ digits) h = (λ e. let same = sym ((lowercase_is d).1 (omega arith)) ∙ e in omega (arith, same), no_slash digits h.1)

-- the digits of a number are a text, of which the number is read
pub number_is_text : (n : ℕ) (digits : List ℕ) → IsNumber digits n → IsUtf8 digits
number_is_text n digits number = let most = number.1 in subst (λ (d : List ℕ). IsUtf8 d) number.2 (IsUtf8-from_ascii (decimal n) (IsAscii-decimal n (omega arith)))

pub number_is_parsed : {E : Type 0} (n : ℕ) (digits : List ℕ) (r : Result ℕ E) → IsNumber digits n → ParsesUnsigned 32 10 digits r → r ≡ Ok n
number_is_parsed n digits r number parsed = let most = number.1 in parse-decimal 32 n digits r (omega arith) (omega arith) (sym number.2) parsed
