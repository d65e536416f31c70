-- A canonical list of spans is scaled to a canonical list.
use Rattle.std.proofs.Common.{◌≡◌, ℕ, zero, suc, ℤ, pos, negsuc, ◌+ℤ◌, ◌-◌, ◌^◌, Bool, true, false, cond, List, [], ◌∷◌, ◌++◌, Option, Some, None, IsTrue, refl, sym, ap, ◌∙◌, subst, arith}
use Rattle.std.specs.Prelude.{int_lt, int_le, option_map, if◌then◌else◌}
use Rattle.std.specs.List.{AllByRecursion, flat_map}
use Rattle.std.specs.Option.{option_and_then, option_to_list}
use Rattle.std.specs.Ordering.{int_cmp, is_eq}
use Rattle.std.specs.Cmp.{int_cmp_total}
use Rattle.std.specs.declared.cmp.Ordering.{Ordering}
use Rattle.std.specs.declared.cmp.Ordering.TheVariants.{Less, Equal, Greater}
use Rattle.std.proofs.lemmas.Int.{ints}
use Rattle.std.proofs.lemmas.Bool.Decides.{nat_tests}
use Rattle.std.proofs.lemmas.Map.Lookups.{exact_signed}
use Rattle.cite_schema.specs.Values.{is_number}
use Rattle.interval_normal.specs.declared.set.Span.{Span}
use Rattle.interval_normal.specs.Points.{least_number, number_after}
use Rattle.interval_normal.specs.Spans.{IsEnd, IsSpan, EndsBelow, IsCanonical}
use Rattle.migration.specs.Rows.{image}
use Rattle.migration.specs.Sets.{greatest_number, is_one, one_span, low_image, high_image, span_image}
use Rattle.migration.specs.CarryLaws.{ScaledSetsAreCanonical}
use Rattle.migration.proofs.Scaling.{raised, less_is, is_less}

abbrev IsNumber : ℤ → Type 0
IsNumber z = IsTrue (is_number z)

equal : (o : Ordering) → is_eq o ≡ true → o ≡ Equal
equal Less e = cc
equal Equal e = refl
equal Greater e = cc

lt_trans : (x y z : ℤ) → int_lt x y ≡ true → int_lt y z ≡ true → int_lt x z ≡ true
lt_trans x y z h k = grind (arith, ints, nat_tests)

number_from : (z : ℤ) → int_lt greatest_number z ≡ false → int_lt z least_number ≡ false → is_number z ≡ true
number_from z h k = grind (arith, ints, nat_tests)

number_above_least : (z : ℤ) → int_lt greatest_number z ≡ false → int_le z least_number ≡ false → is_number z ≡ true
number_above_least z h k = grind (arith, ints, nat_tests)

least_lt : (z : ℤ) → int_le z least_number ≡ false → int_lt least_number z ≡ true
least_lt z h = grind (arith, ints, nat_tests)

none_below_least : (x : ℤ) → is_number x ≡ true → int_lt x least_number ≡ true → ⊥
none_below_least x v h = let c : true ≡ false = grind (arith, ints, nat_tests) in absurd (cc)

far_up : (x y : ℤ) → int_lt greatest_number x ≡ true → int_lt x y ≡ true → int_lt greatest_number y ≡ true
far_up x y h k = grind (arith, ints, nat_tests)

clash : (b : Bool) → b ≡ true → b ≡ false → ⊥
clash b h k = let c : true ≡ false = sym h ∙ k in absurd (cc)

low_lt : (x y : ℤ) → int_lt least_number x ≡ true → int_lt x y ≡ true → int_lt y least_number ≡ true → ⊥
low_lt x y h k l = clash (int_lt y least_number) l (grind (arith, ints, nat_tests))

-- the end of a span of one number
after_number : (x : ℤ) → is_number x ≡ true → IsEnd IsNumber int_cmp x (number_after x)
after_number x v = by (int_lt x (pos (2 ^ 63 - 1))) refl
  where
    inside : int_lt x (pos (2 ^ 63 - 1)) ≡ true → is_number (x +ℤ pos 1) ≡ true
    inside h = grind (arith, ints, nat_tests)

    more : int_cmp x (x +ℤ pos 1) ≡ Less
    more = grind (arith, ints, nat_tests)

    by : (b : Bool) → int_lt x (pos (2 ^ 63 - 1)) ≡ b → IsEnd IsNumber int_cmp x (cond b (Some (x +ℤ pos 1)) None)
    by true h = (inside h, more)
    by false h = tt

-- a number two below another ends its span below it
one_below : (x y : ℤ) → is_number y ≡ true → int_lt x y ≡ true → int_lt (x +ℤ pos 1) y ≡ true → EndsBelow int_cmp (number_after x) y
one_below x y v h k = by (int_lt x (pos (2 ^ 63 - 1))) refl
  where
    none : int_lt x (pos (2 ^ 63 - 1)) ≡ false → ⊥
    none e = clash (int_lt x y) h (grind (arith, ints, nat_tests))

    by : (b : Bool) → int_lt x (pos (2 ^ 63 - 1)) ≡ b → EndsBelow int_cmp (cond b (Some (x +ℤ pos 1)) None) y
    by true e = less_is (x +ℤ pos 1) y k
    by false e = absurd (none e)

next_lt : (x y z : ℤ) → int_lt x y ≡ true → int_lt y z ≡ true → int_lt (x +ℤ pos 1) z ≡ true
next_lt x y z h k = grind (arith, ints, nat_tests)

-- where a choice gave something
chosen : {A : Type 0} (b : Bool) (x y : A) → (if b then Some x else None) ≡ Some y → (b ≡ true) × (x ≡ y)
chosen true x y e = (refl, cc)
chosen false x y e = absurd (cc)

module _ (k : ℕ) (plus : ℤ) where
  abbrev f : ℤ → ℤ
  f x = image (pos (suc k)) plus x

  -- how the low end of an image came
  data LowBy (low l : ℤ) : Type 0 where
    AtLeast : low ≡ least_number → l ≡ low → LowBy low l
    CutLow : int_lt greatest_number (f low) ≡ false → int_lt (f low) least_number ≡ true → l ≡ least_number → LowBy low l
    Image : is_number (f low) ≡ true → l ≡ f low → LowBy low l

  low_by : (low l : ℤ) → low_image (pos (suc k)) plus low ≡ Some l → LowBy low l
  low_by low l e = by (is_eq (int_cmp low least_number)) (int_lt greatest_number (f low)) (int_lt (f low) least_number) refl refl refl e
    where
      by : (a b c : Bool) → is_eq (int_cmp low least_number) ≡ a → int_lt greatest_number (f low) ≡ b → int_lt (f low) least_number ≡ c
          → (if a then Some low else (if b then None else (if c then Some least_number else Some (f low)))) ≡ Some l → LowBy low l
      by true b c d g h e = AtLeast (exact_signed low least_number (equal (int_cmp low least_number) d)) (cc)
      by false true c d g h e = absurd (cc)
      by false false true d g h e = CutLow g h (cc)
      by false false false d g h e = Image (number_from (f low) g h) (cc)

  -- how the upper end of an image came
  data HighBy (high h : Option ℤ) : Type 0 where
    Absent : high ≡ None → h ≡ None → HighBy high h
    CutHigh : (a : ℤ) → high ≡ Some a → int_lt greatest_number (f a) ≡ true → h ≡ None → HighBy high h
    EndImage : (a : ℤ) → high ≡ Some a → is_number (f a) ≡ true → int_lt least_number (f a) ≡ true → h ≡ Some (f a) → HighBy high h

  high_by : (high h : Option ℤ) → high_image (pos (suc k)) plus high ≡ Some h → HighBy high h
  high_by None h e = Absent refl (cc)
  high_by (Some a) h e = by (int_lt greatest_number (f a)) (int_le (f a) least_number) refl refl e
    where
      by : (b c : Bool) → int_lt greatest_number (f a) ≡ b → int_le (f a) least_number ≡ c → (if b then Some None else (if c then None else Some (Some (f a)))) ≡ Some h → HighBy (Some a) h
      by true c d g e = CutHigh a refl d (cc)
      by false true d g e = absurd (cc)
      by false false d g e = EndImage a refl (number_above_least (f a) d g) (least_lt (f a) g) (cc)

  -- how a span's image came
  data SpanBy (s t : Span ℤ) : Type 0 where
    One : is_one s ≡ true → is_number (f s.low) ≡ true → t ≡ record { low = f s.low; high = number_after (f s.low) } → SpanBy s t
    Ends : LowBy s.low t.low → HighBy s.high t.high → SpanBy s t

  both_ends : (s t : Span ℤ) (l : Option ℤ) (h : Option (Option ℤ)) → ((x : ℤ) → l ≡ Some x → LowBy s.low x) → ((x : Option ℤ) → h ≡ Some x → HighBy s.high x)
      → option_and_then (λ low. option_map (λ high. record { low = low; high = high }) h) l ≡ Some t → SpanBy s t
  both_ends s t None h a b e = absurd (cc)
  both_ends s t (Some x) None a b e = absurd (cc)
  both_ends s t (Some x) (Some y) a b e =
      let same : record { low = x; high = y } ≡ t = cc in
      Ends (subst (λ (w : Span ℤ). LowBy s.low w.low) same (a x refl)) (subst (λ (w : Span ℤ). HighBy s.high w.high) same (b y refl))

  span_by : (s t : Span ℤ) → span_image (pos (suc k)) plus s ≡ Some t → SpanBy s t
  span_by s t e = by (is_one s) refl e
    where
      by : (b : Bool) → is_one s ≡ b → (if b then one_span (f s.low) else option_and_then (λ low. option_map (λ high. record { low = low; high = high }) (high_image (pos (suc k)) plus s.high)) (low_image (pos (suc k)) plus s.low)) ≡ Some t → SpanBy s t
      by true one e = let (v, is) = chosen (is_number (f s.low)) (record { low = f s.low; high = number_after (f s.low) }) t e in One one v (sym is)
      by false other e = both_ends s t (low_image (pos (suc k)) plus s.low) (high_image (pos (suc k)) plus s.high) (λ x d. low_by s.low x d) (λ x d. high_by s.high x d) e

  -- the low end of an image is a number
  low_number : (low l : ℤ) → is_number low ≡ true → LowBy low l → is_number l ≡ true
  low_number low l v (AtLeast e is) = ap is_number is ∙ v
  low_number low l v (CutLow g h is) = ap is_number is
  low_number low l v (Image w is) = ap is_number is ∙ w

  -- and below the image of the upper end
  ends_above : (low l : ℤ) (high h : Option ℤ) → IsEnd IsNumber int_cmp low high → LowBy low l → HighBy high h → IsEnd IsNumber int_cmp l h
  ends_above low l high h end a (Absent is e) = subst (IsEnd IsNumber int_cmp l) (sym e) tt
  ends_above low l high h end a (CutHigh x is g e) = subst (IsEnd IsNumber int_cmp l) (sym e) tt
  ends_above low l high h end a (EndImage x is v g e) = subst (IsEnd IsNumber int_cmp l) (sym e) (v, less_is l (f x) (by a))
    where
      up : int_lt low x ≡ true
      up = is_less low x (subst (IsEnd IsNumber int_cmp low) is end).1

      by : LowBy low l → int_lt l (f x) ≡ true
      by (AtLeast d m) = ap (λ w. int_lt w (f x)) (m ∙ d) ∙ g
      by (CutLow b c m) = ap (λ w. int_lt w (f x)) m ∙ g
      by (Image w m) = ap (λ w. int_lt w (f x)) m ∙ raised k plus low x up

  image_is_span : (s t : Span ℤ) → IsSpan IsNumber int_cmp s → SpanBy s t → IsSpan IsNumber int_cmp t
  image_is_span s t h (One one v is) = subst (IsSpan IsNumber int_cmp) (sym is) (record { low = v; high = after_number (f s.low) v })
  image_is_span s t h (Ends a b) = record { low = low_number s.low t.low h.low a; high = ends_above s.low t.low s.high t.high h.high a b }

  -- the low end of an image stands above the image of a number below the low end
  low_above : (x low l : ℤ) → is_number x ≡ true → is_number low ≡ true → int_lt x low ≡ true → LowBy low l → (int_lt least_number (f x) ≡ true → int_lt (f x) l ≡ true) × (is_number (f x) ≡ true → int_lt (f x) l ≡ true)
  low_above x low l v w lt (AtLeast e is) = absurd (none_below_least x v (ap (int_lt x) (sym e) ∙ lt))
  low_above x low l v w lt (CutLow g h is) =
      (λ above. absurd (low_lt (f x) (f low) above (raised k plus x low lt) h), λ number. absurd (none_below_least (f x) number (lt_trans (f x) (f low) least_number (raised k plus x low lt) h)))
  low_above x low l v w lt (Image u is) = let here = ap (int_lt (f x)) is ∙ raised k plus x low lt in (λ above. here, λ number. here)

  low_of : (u w : Span ℤ) → SpanBy u w → LowBy u.low w.low
  low_of u w (One one v is) = Image v (ap (λ (x : Span ℤ). x.low) is)
  low_of u w (Ends a b) = a

  never_far : (x : ℤ) → is_number x ≡ true → int_lt greatest_number x ≡ true → ⊥
  never_far x v h = clash (int_lt greatest_number x) h (grind (arith, ints, nat_tests))

  over_least : (x y : ℤ) → is_number x ≡ true → int_lt x y ≡ true → int_lt least_number y ≡ true
  over_least x y v h = grind (arith, ints, nat_tests)

  -- nothing is carried of a span above one that is cut
  none_above : (x low l : ℤ) → is_number x ≡ true → int_lt x low ≡ true → int_lt greatest_number (f x) ≡ true → LowBy low l → ⊥
  none_above x low l v lt g (AtLeast e is) = none_below_least x v (ap (int_lt x) (sym e) ∙ lt)
  none_above x low l v lt g (CutLow c h is) = clash (int_lt greatest_number (f low)) (far_up (f x) (f low) g (raised k plus x low lt)) c
  none_above x low l v lt g (Image w is) = never_far (f low) w (far_up (f x) (f low) g (raised k plus x low lt))

  -- the image of a span ends below the image of a span above it
  ends_below : (high : Option ℤ) (s u t w : Span ℤ) → s.high ≡ high → IsSpan IsNumber int_cmp s → IsSpan IsNumber int_cmp u → EndsBelow int_cmp high u.low → SpanBy s t → SpanBy u w → EndsBelow int_cmp t.high w.low
  ends_below None s u t w at hs hu below a b = absurd below
  ends_below (Some h) s u t w at hs hu below a b = by a
    where
      end : IsEnd IsNumber int_cmp s.low (Some h)
      end = subst (IsEnd IsNumber int_cmp s.low) at hs.high

      lt : int_lt h u.low ≡ true
      lt = is_less h u.low below

      low : LowBy u.low w.low
      low = low_of u w b

      by : SpanBy s t → EndsBelow int_cmp t.high w.low
      by (One one v is) =
          let up = raised k plus s.low h (is_less s.low h end.1) in
          let above = (low_above h u.low w.low end.0 hu.low lt low).0 (over_least (f s.low) (f h) v up) in
          subst (λ (x : Span ℤ). EndsBelow int_cmp x.high w.low) (sym is)
          (one_below (f s.low) w.low (low_number u.low w.low hu.low low) (lt_trans (f s.low) (f h) w.low up above) (next_lt (f s.low) (f h) w.low up above))
      by (Ends c (Absent is e)) = let none : Some h ≡ None = sym at ∙ is in absurd (cc)
      by (Ends c (CutHigh x is g e)) =
          let same : Some h ≡ Some x = sym at ∙ is in let one : x ≡ h = cc in
          absurd (none_above h u.low w.low end.0 lt (ap (λ y. int_lt greatest_number (f y)) (sym one) ∙ g) low)
      by (Ends c (EndImage x is v g e)) =
          let same : Some h ≡ Some x = sym at ∙ is in let one : x ≡ h = cc in
          subst (λ o. EndsBelow int_cmp o w.low) (sym e)
          (less_is (f x) w.low (ap (λ y. int_lt (f y) w.low) one ∙ (low_above h u.low w.low end.0 hu.low lt low).1 (ap (λ y. is_number (f y)) (sym one) ∙ v)))

  abbrev images : List (Span ℤ) → List (Span ℤ)
  images ss = flat_map (λ s. option_to_list (span_image (pos (suc k)) plus s)) ss

  -- a span above another
  abbrev Above : Span ℤ → Span ℤ → Type 0
  Above s u = IsSpan IsNumber int_cmp u × EndsBelow int_cmp s.high u.low

  all_above : (s t : Span ℤ) → IsSpan IsNumber int_cmp s → SpanBy s t → (us : List (Span ℤ)) → AllByRecursion (Above s) us → AllByRecursion (λ w. EndsBelow int_cmp t.high w.low) (images us)
  all_above s t hs a [] h = tt
  all_above s t hs a (u ∷ us) h = by (span_image (pos (suc k)) plus u) refl (all_above s t hs a us h.1)
    where
      by : (o : Option (Span ℤ)) → span_image (pos (suc k)) plus u ≡ o → AllByRecursion (λ w. EndsBelow int_cmp t.high w.low) (images us) → AllByRecursion (λ w. EndsBelow int_cmp t.high w.low) (option_to_list o ++ images us)
      by None e more = more
      by (Some w) e more = (ends_below s.high s u t w refl hs h.0.0 h.0.1 a (span_by u w e), more)

  behind : (t : Span ℤ) (ws : List (Span ℤ)) → IsSpan IsNumber int_cmp t → AllByRecursion (λ w. EndsBelow int_cmp t.high w.low) ws → IsCanonical IsNumber int_cmp ws → IsCanonical IsNumber int_cmp (t ∷ ws)
  behind t [] h all c = h
  behind t (w ∷ ws) h all c = (h, all.0, c)

  farther : (a b : Option ℤ) (low far : ℤ) → EndsBelow int_cmp a low → IsEnd IsNumber int_cmp low b → EndsBelow int_cmp b far → EndsBelow int_cmp a far
  farther None b low far h end g = absurd h
  farther (Some x) None low far h end g = absurd g
  farther (Some x) (Some y) low far h end g = int_cmp_total.trans x low far h (int_cmp_total.trans low y far end.1 g)

  still_above : (s t : Span ℤ) (us : List (Span ℤ)) → EndsBelow int_cmp s.high t.low → IsSpan IsNumber int_cmp t → AllByRecursion (Above t) us → AllByRecursion (Above s) us
  still_above s t [] h g all = tt
  still_above s t (u ∷ us) h g all = ((all.0.0, farther s.high t.high t.low u.low h g.high all.0.1), still_above s t us h g all.1)

  head_span : (s : Span ℤ) (ss : List (Span ℤ)) → IsCanonical IsNumber int_cmp (s ∷ ss) → IsSpan IsNumber int_cmp s
  head_span s [] c = c
  head_span s (t ∷ ts) c = c.0

  tail_canonical : (s : Span ℤ) (ss : List (Span ℤ)) → IsCanonical IsNumber int_cmp (s ∷ ss) → IsCanonical IsNumber int_cmp ss
  tail_canonical s [] c = tt
  tail_canonical s (t ∷ ts) c = c.2

  later_above : (s : Span ℤ) (ss : List (Span ℤ)) → IsCanonical IsNumber int_cmp (s ∷ ss) → AllByRecursion (Above s) ss
  later_above s [] c = tt
  later_above s (t ∷ ts) c = ((head_span t ts c.2, c.1), still_above s t ts c.1 (head_span t ts c.2) (later_above t ts c.2))

  images_canonical : (ss : List (Span ℤ)) → IsCanonical IsNumber int_cmp ss → IsCanonical IsNumber int_cmp (images ss)
  images_canonical [] c = tt
  images_canonical (s ∷ ss) c = by (span_image (pos (suc k)) plus s) refl (images_canonical ss (tail_canonical s ss c))
    where
      by : (o : Option (Span ℤ)) → span_image (pos (suc k)) plus s ≡ o → IsCanonical IsNumber int_cmp (images ss) → IsCanonical IsNumber int_cmp (option_to_list o ++ images ss)
      by None e more = more
      by (Some t) e more =
          behind t (images ss) (image_is_span s t (head_span s ss c) (span_by s t e)) (all_above s t (head_span s ss c) (span_by s t e) ss (later_above s ss c)) more

pub scaled_canonical : ScaledSetsAreCanonical
scaled_canonical (pos zero) plus spans h c = let e : false ≡ true = h in absurd (cc)
scaled_canonical (pos (suc k)) plus spans h c = images_canonical k plus spans c
scaled_canonical (negsuc n) plus spans h c = let e : false ≡ true = h in absurd (cc)
