-- Scaling keeps the order of numbers.
use Rattle.std.proofs.Common.{sym, ap, ◌∙◌, cond, ◌&&◌, ◌||◌, ◌-◌, ◌^◌, List, [], ◌∷◌, Option, Some, None, ◌≡◌, ℕ, zero, suc, ℤ, pos, negsuc, ◌+ℤ◌, ◌*ℤ◌, ◌+◌, ◌*◌, ◌<◌, Bool, true, false, refl, arith}
use Rattle.std.specs.Prelude.{int_lt, int_le}
use Rattle.std.proofs.lemmas.Int.{ints}
use Rattle.std.proofs.lemmas.Bool.Decides.{nat_tests}
use Rattle.std.proofs.Math.Nat.{mul-lt-mul_of_pos_left}
use borrow.Author.Differences.{up, down}
use Rattle.std.specs.Prelude.{option_map, if◌then◌else◌}
use Rattle.std.specs.List.{flat_map}
use Rattle.std.specs.Option.{option_and_then, option_to_list}
use Rattle.std.specs.Ordering.{int_cmp, ordering_reverse, is_lt, is_ge, is_eq}
use Rattle.std.specs.Cmp.{int_cmp_total}
use Rattle.std.specs.declared.cmp.Ordering.{Ordering}
use Rattle.std.specs.declared.cmp.Ordering.TheVariants.{Less, Equal, Greater}
use Rattle.std.proofs.lemmas.Cmp.{tied_itself}
use Rattle.std.proofs.lemmas.Map.Lookups.{exact_signed}
use Rattle.std.proofs.lemmas.List.Folds.{list_any-append}
use Rattle.cite_schema.specs.Values.{is_number}
use Rattle.interval_normal.specs.declared.set.Span.{Span}
use Rattle.interval_normal.specs.Points.{least_number, number_after}
use Rattle.interval_normal.specs.Spans.{under, in_span, has}
use Rattle.migration.specs.Rows.{image}
use Rattle.migration.specs.Sets.{greatest_number, same_end, is_one, one_span, low_image, high_image, span_image}
use Rattle.migration.specs.CarryLaws.{ScaledSetsAreExact}

-- a product, as a difference of natural numbers
scaled_parts : (k : ℕ) (z : ℤ) → up (pos k *ℤ z) + k * down z ≡ down (pos k *ℤ z) + k * up z
scaled_parts k (pos n) = grind (arith, ints)
scaled_parts k (negsuc n) = grind (arith, ints)

lower : (x y : ℤ) → int_lt x y ≡ true → up x + down y < up y + down x
lower x y h = grind (arith, ints, nat_tests)

lower_is : (x y : ℤ) → up x + down y < up y + down x → int_lt x y ≡ true
lower_is x y h = grind (arith, ints, nat_tests)

lower_sum : (x y c : ℤ) → up x + down y < up y + down x → int_lt (x +ℤ c) (y +ℤ c) ≡ true
lower_sum x y c h = grind (arith, ints, nat_tests)

lower_product : (k : ℕ) (x y : ℤ) → up x + down y < up y + down x → up (pos (suc k) *ℤ x) + down (pos (suc k) *ℤ y) < up (pos (suc k) *ℤ y) + down (pos (suc k) *ℤ x)
lower_product k x y h =
    let px = scaled_parts (suc k) x in
    let py = scaled_parts (suc k) y in
    let pos_k : 0 < suc k = omega arith in
    let m : suc k * (up x + down y) < suc k * (up y + down x) = mul-lt-mul_of_pos_left h pos_k in
    omega (arith, px, py, m)

-- images of a rising scale rise
pub raised : (k : ℕ) (plus x y : ℤ) → int_lt x y ≡ true → int_lt (image (pos (suc k)) plus x) (image (pos (suc k)) plus y) ≡ true
raised k plus x y h = lower_sum (pos (suc k) *ℤ x) (pos (suc k) *ℤ y) plus (lower_product k x y (lower x y h))

pub less_is : (x y : ℤ) → int_lt x y ≡ true → int_cmp x y ≡ Less
less_is x y h = grind (arith, ints, nat_tests)

pub is_less : (x y : ℤ) → int_cmp x y ≡ Less → int_lt x y ≡ true
is_less x y h = grind (arith, ints, nat_tests)

-- images stand in the order of what they are images of
pub image_cmp : (k : ℕ) (plus x y : ℤ) → int_cmp (image (pos (suc k)) plus x) (image (pos (suc k)) plus y) ≡ int_cmp x y
image_cmp k plus x y = by (int_cmp x y) refl
  where
    by : (o : Ordering) → int_cmp x y ≡ o → int_cmp (image (pos (suc k)) plus x) (image (pos (suc k)) plus y) ≡ o
    by Less e = less_is (image (pos (suc k)) plus x) (image (pos (suc k)) plus y) (raised k plus x y (is_less x y e))
    by Equal e = let same : x ≡ y = exact_signed x y e in ap (λ z. int_cmp (image (pos (suc k)) plus x) (image (pos (suc k)) plus z)) (sym same) ∙ tied_itself int_cmp_total (image (pos (suc k)) plus x)
    by Greater e =
        let turned : int_cmp y x ≡ Less = int_cmp_total.antisymm y x ∙ ap ordering_reverse e in
        int_cmp_total.antisymm (image (pos (suc k)) plus x) (image (pos (suc k)) plus y) ∙ ap ordering_reverse (less_is (image (pos (suc k)) plus y) (image (pos (suc k)) plus x) (raised k plus y x (is_less y x turned)))

-- a span of one number holds it alone
one_holds : (a z : ℤ) → is_number z ≡ true → (is_ge (int_cmp z a) && under int_cmp (number_after a) z) ≡ is_eq (int_cmp z a)
one_holds a z v = by (int_lt a (pos (2 ^ 63 - 1))) refl
  where
    by : (b : Bool) → int_lt a (pos (2 ^ 63 - 1)) ≡ b → (is_ge (int_cmp z a) && under int_cmp (cond b (Some (a +ℤ pos 1)) None) z) ≡ is_eq (int_cmp z a)
    by true h = grind (arith, ints, nat_tests)
    by false h = grind (arith, ints, nat_tests)

pub ge_least : (w : ℤ) → is_number w ≡ true → is_ge (int_cmp w least_number) ≡ true
ge_least w v = grind (arith, ints, nat_tests)

below_far : (w a : ℤ) → is_number w ≡ true → int_lt greatest_number a ≡ true → int_cmp w a ≡ Less
below_far w a v h = grind (arith, ints, nat_tests)

above_low : (w a : ℤ) → is_number w ≡ true → int_lt a least_number ≡ true → is_ge (int_cmp w a) ≡ true
above_low w a v h = grind (arith, ints, nat_tests)

not_below : (w a : ℤ) → is_number w ≡ true → int_le a least_number ≡ true → is_lt (int_cmp w a) ≡ false
not_below w a v h = grind (arith, ints, nat_tests)

pub same_ends : (a b : Option ℤ) → same_end a b ≡ true → a ≡ b
same_ends None None h = refl
same_ends None (Some y) h = cc
same_ends (Some x) None h = cc
same_ends (Some x) (Some y) h = ap Some (exact_signed x y (was_equal (int_cmp x y) h))
  where
    was_equal : (o : Ordering) → is_eq o ≡ true → o ≡ Equal
    was_equal Less e = cc
    was_equal Equal e = refl
    was_equal Greater e = cc

or_false : (b : Bool) → (b || false) ≡ b
or_false true = refl
or_false false = refl

and_false : (b : Bool) → (b && false) ≡ false
and_false true = refl
and_false false = refl

module _ (k : ℕ) (plus z : ℤ) (v : is_number z ≡ true) (w : is_number (image (pos (suc k)) plus z) ≡ true) where
  abbrev f : ℤ → ℤ
  f x = image (pos (suc k)) plus x

  -- the image is above the image of a low end, or there is none
  LowIs : Option ℤ → Bool → Type 0
  LowIs None inside = inside ≡ false
  LowIs (Some low) inside = is_ge (int_cmp (f z) low) ≡ inside

  HighIs : Option (Option ℤ) → Bool → Type 0
  HighIs None inside = inside ≡ false
  HighIs (Some high) inside = under int_cmp high (f z) ≡ inside

  low_is : (low : ℤ) → LowIs (low_image (pos (suc k)) plus low) (is_ge (int_cmp z low))
  unfolding LowIs
  low_is low = by (is_eq (int_cmp low least_number)) (int_lt greatest_number (f low)) (int_lt (f low) least_number) refl refl refl
    where
      least : (o : Ordering) → is_eq o ≡ true → o ≡ Equal
      least Less e = cc
      least Equal e = refl
      least Greater e = cc

      by : (a b c : Bool) → is_eq (int_cmp low least_number) ≡ a → int_lt greatest_number (f low) ≡ b → int_lt (f low) least_number ≡ c
          → LowIs (if a then Some low else (if b then None else (if c then Some least_number else Some (f low)))) (is_ge (int_cmp z low))
      by true b c d e g =
          let same : low ≡ least_number = exact_signed low least_number (least (int_cmp low least_number) d) in
          ap (λ l. is_ge (int_cmp (f z) l)) same ∙ ge_least (f z) w ∙ sym (ge_least z v) ∙ ap (λ l. is_ge (int_cmp z l)) (sym same)
      by false true c d e g = ap is_ge (sym (image_cmp k plus z low) ∙ below_far (f z) (f low) w e)
      by false false true d e g = ge_least (f z) w ∙ sym (ap is_ge (sym (image_cmp k plus z low)) ∙ above_low (f z) (f low) w g)
      by false false false d e g = ap is_ge (image_cmp k plus z low)

  high_is : (high : Option ℤ) → HighIs (high_image (pos (suc k)) plus high) (under int_cmp high z)
  unfolding HighIs
  high_is None = refl
  high_is (Some high) = by (int_lt greatest_number (f high)) (int_le (f high) least_number) refl refl
    where
      by : (b c : Bool) → int_lt greatest_number (f high) ≡ b → int_le (f high) least_number ≡ c
          → HighIs (if b then Some None else (if c then None else Some (Some (f high)))) (is_lt (int_cmp z high))
      by true c e g = sym (ap is_lt (sym (image_cmp k plus z high) ∙ below_far (f z) (f high) w e))
      by false true e g = ap is_lt (sym (image_cmp k plus z high)) ∙ not_below (f z) (f high) w g
      by false false e g = ap is_lt (image_cmp k plus z high)

  between : (s : Span ℤ) (l : Option ℤ) (h : Option (Option ℤ)) → LowIs l (is_ge (int_cmp z s.low)) → HighIs h (under int_cmp s.high z)
      → has int_cmp (option_to_list (option_and_then (λ low. option_map (λ high. record { low = low; high = high }) h) l)) (f z) ≡ in_span int_cmp s z
  unfolding LowIs HighIs
  between s None h a b = ap (λ x. x && under int_cmp s.high z) (sym a)
  between s (Some low) None a b = sym (ap (λ y. is_ge (int_cmp z s.low) && y) b ∙ and_false (is_ge (int_cmp z s.low)))
  between s (Some low) (Some high) a b = or_false (in_span int_cmp (record { low = low; high = high }) (f z)) ∙ ap (λ x. x && under int_cmp high (f z)) a ∙ ap (λ y. is_ge (int_cmp z s.low) && y) b

  alone : (s : Span ℤ) → is_one s ≡ true → in_span int_cmp s z ≡ is_eq (int_cmp z s.low)
  alone s one = ap (λ h. is_ge (int_cmp z s.low) && under int_cmp h z) (sym (same_ends (number_after s.low) s.high one)) ∙ one_holds s.low z v

  one_image : (s : Span ℤ) → is_one s ≡ true → has int_cmp (option_to_list (one_span (f s.low))) (f z) ≡ in_span int_cmp s z
  one_image s one = by (is_number (f s.low)) refl ∙ sym (alone s one)
    where
      equal : (o : Ordering) → is_eq o ≡ true → o ≡ Equal
      equal Less e = cc
      equal Equal e = refl
      equal Greater e = cc

      apart : is_number (f s.low) ≡ false → (b : Bool) → is_eq (int_cmp z s.low) ≡ b → false ≡ b
      apart n true e =
          let same : z ≡ s.low = exact_signed z s.low (equal (int_cmp z s.low) e) in
          let c : true ≡ false = sym w ∙ ap (λ x. is_number (f x)) same ∙ n in absurd (cc)
      apart n false e = refl

      by : (b : Bool) → is_number (f s.low) ≡ b → has int_cmp (option_to_list (if b then Some (record { low = f s.low; high = number_after (f s.low) }) else None)) (f z) ≡ is_eq (int_cmp z s.low)
      by true n = or_false (is_ge (int_cmp (f z) (f s.low)) && under int_cmp (number_after (f s.low)) (f z)) ∙ one_holds (f s.low) (f z) w ∙ ap is_eq (image_cmp k plus z s.low)
      by false n = apart n (is_eq (int_cmp z s.low)) refl

  span_is : (s : Span ℤ) → has int_cmp (option_to_list (span_image (pos (suc k)) plus s)) (f z) ≡ in_span int_cmp s z
  span_is s = by (is_one s) refl
    where
      by : (b : Bool) → is_one s ≡ b
          → has int_cmp (option_to_list (if b then one_span (f s.low) else option_and_then (λ low. option_map (λ high. record { low = low; high = high }) (high_image (pos (suc k)) plus s.high)) (low_image (pos (suc k)) plus s.low))) (f z)
          ≡ in_span int_cmp s z
      by true one = one_image s one
      by false other = between s (low_image (pos (suc k)) plus s.low) (high_image (pos (suc k)) plus s.high) (low_is s.low) (high_is s.high)

  spans_are : (spans : List (Span ℤ)) → has int_cmp (flat_map (λ s. option_to_list (span_image (pos (suc k)) plus s)) spans) (f z) ≡ has int_cmp spans z
  spans_are [] = refl
  spans_are (s ∷ ss) =
      list_any-append (λ t. in_span int_cmp t (f z)) (option_to_list (span_image (pos (suc k)) plus s)) (flat_map (λ t. option_to_list (span_image (pos (suc k)) plus t)) ss)
      ∙ ap (λ b. b || has int_cmp (flat_map (λ t. option_to_list (span_image (pos (suc k)) plus t)) ss) (f z)) (span_is s)
      ∙ ap (λ b. in_span int_cmp s z || b) (spans_are ss)

pub scaled_exact : ScaledSetsAreExact
scaled_exact (pos zero) plus z spans h v w = absurd (cc)
scaled_exact (pos (suc k)) plus z spans h v w = spans_are k plus z v w spans
scaled_exact (negsuc n) plus z spans h v w = absurd (cc)
