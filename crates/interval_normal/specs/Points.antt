-- Numbers and texts as points.
use Rattle.std.specs.Prelude.{◌≡◌, ℤ, pos, negsuc, ◌+ℤ◌, ◌^◌, ◌-◌, ℕ, cond, int_lt, List, [], ◌∷◌, ◌++◌, Option, Some, None, ◌≢◌, zero, suc, Bool, true, false, ◌&&◌, IsTrue, nat_lt, refl}
use Rattle.std.specs.Cmp.{IsTotalOrder, int_cmp_total}
use Rattle.std.specs.Cmp.Lexicographic.{nat_list_cmp_total}
use Rattle.std.specs.Ordering.{int_cmp, is_ge, nat_cmp, ordering_then}
use Rattle.std.specs.declared.cmp.Ordering.TheVariants.{Equal, Less, Greater}
use Rattle.std.proofs.lemmas.Map.Lookups.{exact_signed, exact_bytes}
use Rattle.cite_schema.specs.Values.{text_cmp, is_number, is_text}
use Rattle.std.proofs.Common.{arith, ap, ◌∙◌}
use Rattle.std.proofs.lemmas.Int.{ints}
use Rattle.std.proofs.lemmas.Bool.Decides.{nat_tests}
use Rattle.std.specs.declared.cmp.Ordering.{Ordering}
use Rattle.interval_normal.specs.Spans.{IsNextOf}

-- the least number, −2^63
abbrev pub least_number : ℤ
least_number = negsuc (2 ^ 63 - 1)

-- the next number, unless that is out of the range
abbrev pub number_after : ℤ → Option ℤ
number_after z = cond (int_lt z (pos (2 ^ 63 - 1))) (Some (z +ℤ pos 1)) None

-- the text that comes next: one zero byte longer
abbrev pub text_after : List ℕ → Option (List ℕ)
text_after t = Some (t ++ (0 ∷ []))

-- the order of numbers is total
pub number_line_total : IsTotalOrder int_cmp
number_line_total = int_cmp_total

-- numbers of equal order are one
pub number_exact : (x y : ℤ) → int_cmp x y ≡ Equal → x ≡ y
number_exact = exact_signed

-- the order of texts is total
pub text_total : IsTotalOrder text_cmp
text_total = nat_list_cmp_total

-- texts of equal order are one
pub text_exact : (x y : List ℕ) → text_cmp x y ≡ Equal → x ≡ y
text_exact = exact_bytes

-- the least number is a number
pub least_number_valid : IsTrue (is_number least_number)
least_number_valid = refl

-- no number is below the least one
pub number_least : (x : ℤ) → IsTrue (is_number x) → int_cmp x least_number ≢ Less
number_least (pos n) v h = cc
number_least (negsuc n) v h = grind (arith, ints, nat_tests)

number_inside : (z : ℤ) → is_number z ≡ true → int_lt z (pos (2 ^ 63 - 1)) ≡ true → is_number (z +ℤ pos 1) ≡ true
number_inside z v h = grind (arith, ints, nat_tests)

number_less : (z : ℤ) → int_cmp z (z +ℤ pos 1) ≡ Less
number_less z = grind (arith, ints, nat_tests)

number_least_above : (z y : ℤ) → int_cmp z y ≡ Less → is_ge (int_cmp y (z +ℤ pos 1)) ≡ true
number_least_above z y h = grind (arith, ints, nat_tests)

number_none_above : (z y : ℤ) → is_number z ≡ true → is_number y ≡ true → int_lt z (pos (2 ^ 63 - 1)) ≡ false → int_cmp z y ≢ Less
number_none_above z y v w h e = grind (arith, ints, nat_tests)

-- nothing lies between a number and the next
pub number_next : (x : ℤ) → IsTrue (is_number x) → IsNextOf (λ z. IsTrue (is_number z)) int_cmp x (number_after x)
number_next x v = by (int_lt x (pos (2 ^ 63 - 1))) refl
  where
    by : (b : Bool) → int_lt x (pos (2 ^ 63 - 1)) ≡ b → IsNextOf (λ z. IsTrue (is_number z)) int_cmp x (cond b (Some (x +ℤ pos 1)) None)
    by true h = (number_inside x v h, number_less x, λ y w l. number_least_above x y l)
    by false h = λ y w. number_none_above x y v w h

-- no text is below the empty one
pub text_least : (x : List ℕ) → IsTrue (is_text x) → text_cmp x [] ≢ Less
text_least [] v h = cc
text_least (b ∷ bs) v h = cc

text_less : (t : List ℕ) → text_cmp t (t ++ (0 ∷ [])) ≡ Less
text_less [] = refl
text_less (b ∷ bs) = ap (λ o. ordering_then o (text_cmp bs (bs ++ (0 ∷ [])))) (same b) ∙ text_less bs
  where
    same : (n : ℕ) → nat_cmp n n ≡ Equal
    same n = grind (arith, nat_tests)

text_least_above : (t y : List ℕ) → text_cmp t y ≡ Less → is_ge (text_cmp y (t ++ (0 ∷ []))) ≡ true
text_least_above [] [] h = cc
text_least_above [] (c ∷ cs) h = by c cs
  where
    above : (c : ℕ) → nat_cmp (suc c) 0 ≡ Greater
    above c = grind (arith, nat_tests)

    tail : (cs : List ℕ) → is_ge (text_cmp cs []) ≡ true
    tail [] = refl
    tail (d ∷ ds) = refl

    by : (c : ℕ) (cs : List ℕ) → is_ge (ordering_then (nat_cmp c 0) (text_cmp cs [])) ≡ true
    by zero cs = tail cs
    by (suc c) cs = ap (λ o. is_ge (ordering_then o (text_cmp cs []))) (above c)
text_least_above (b ∷ bs) [] h = cc
text_least_above (b ∷ bs) (c ∷ cs) h = by (nat_cmp b c) refl h (λ l. text_least_above bs cs l)
  where
    turned : nat_cmp b c ≡ Less → nat_cmp c b ≡ Greater
    turned e = grind (arith, nat_tests)

    level : nat_cmp b c ≡ Equal → nat_cmp c b ≡ Equal
    level e = grind (arith, nat_tests)

    by : (o : Ordering) → nat_cmp b c ≡ o → ordering_then o (text_cmp bs cs) ≡ Less → (text_cmp bs cs ≡ Less → is_ge (text_cmp cs (bs ++ (0 ∷ []))) ≡ true)
        → is_ge (ordering_then (nat_cmp c b) (text_cmp cs (bs ++ (0 ∷ [])))) ≡ true
    by Less e h more = ap (λ o. is_ge (ordering_then o (text_cmp cs (bs ++ (0 ∷ []))))) (turned e)
    by Equal e h more = ap (λ o. is_ge (ordering_then o (text_cmp cs (bs ++ (0 ∷ []))))) (level e) ∙ more h
    by Greater e h more = cc

text_inside : (t : List ℕ) → is_text t ≡ true → is_text (t ++ (0 ∷ [])) ≡ true
text_inside [] h = refl
text_inside (b ∷ bs) h = by (nat_lt b 256) refl h (λ g. text_inside bs g)
  where
    by : (v : Bool) → nat_lt b 256 ≡ v → (v && is_text bs) ≡ true → (is_text bs ≡ true → is_text (bs ++ (0 ∷ [])) ≡ true) → (nat_lt b 256 && is_text (bs ++ (0 ∷ []))) ≡ true
    by true e h more = ap (λ w. w && is_text (bs ++ (0 ∷ []))) e ∙ more h
    by false e h more = cc

-- nothing lies between a text and the next
pub text_next : (x : List ℕ) → IsTrue (is_text x) → IsNextOf (λ t. IsTrue (is_text t)) text_cmp x (text_after x)
text_next x v = (text_inside x v, text_less x, λ y w l. text_least_above x y l)
