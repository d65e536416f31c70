-- Where a list that is no text, since it has a number over 255, stands among the texts.
use Rattle.std.proofs.Common.{◌≡◌, ℕ, ◌+◌, Bool, true, false, cond, ◌&&◌, List, [], ◌∷◌, Option, Some, None, length, take, nat_eq, nat_lt, refl, sym, ap, ◌∙◌, subst, arith}
use Rattle.std.proofs.lemmas.Bool.Decides.{nat_tests}
use Rattle.std.specs.List.{starts_with}
use Rattle.std.specs.Cmp.Lexicographic.{pointwise}
use Rattle.std.specs.Ordering.{is_lt, nat_cmp, ordering_then}
use Rattle.std.specs.declared.cmp.Ordering.{Ordering}
use Rattle.std.specs.declared.cmp.Ordering.TheVariants.{Less, Equal, Greater}
use Rattle.cite_schema.specs.Values.{is_text, text_cmp}
use Rattle.interval_normal.specs.Spans.{under}
use Rattle.interval_normal.specs.PrefixEnds.{raised, prefix_end}
use Rattle.interval_normal.proofs.Prefixes.{and_first, and_second, and_no, nat_same, past_end, same_end}

-- the numbers before the first one over 255
abbrev pub byte_front : List ℕ → List ℕ
byte_front [] = []
byte_front (b ∷ bs) = cond (nat_lt b 256) (b ∷ byte_front bs) []

pub front_is_text : (t : List ℕ) → is_text (byte_front t) ≡ true
front_is_text [] = refl
front_is_text (b ∷ bs) = by (nat_lt b 256) refl (front_is_text bs)
  where
    by : (v : Bool) → nat_lt b 256 ≡ v → is_text (byte_front bs) ≡ true → is_text (cond v (b ∷ byte_front bs) []) ≡ true
    by true e more = ap (λ w. w && is_text (byte_front bs)) e ∙ more
    by false e more = refl

byte_below : (c b : ℕ) → nat_lt c 256 ≡ true → nat_lt b 256 ≡ false → nat_cmp c b ≡ Less
byte_below c b l h = grind (arith, nat_tests)

byte_differs : (c b : ℕ) → nat_lt c 256 ≡ true → nat_lt b 256 ≡ false → nat_eq b c ≡ false
byte_differs c b l h = grind (arith, nat_tests)

below_next : (c b : ℕ) → nat_cmp c b ≡ Less → nat_cmp c (b + 1) ≡ Less
below_next c b h = grind (arith, nat_tests)

-- what follows a byte is no text, where both together are none
rest_broken : (b : ℕ) (bs : List ℕ) → nat_lt b 256 ≡ true → is_text (b ∷ bs) ≡ false → is_text bs ≡ false
rest_broken b bs e broken = sym (ap (λ w. w && is_text bs) e) ∙ broken

-- the empty text is below each end
empty_below : (b : ℕ) (o : Option (List ℕ)) → under text_cmp (raised b o) [] ≡ true
empty_below b (Some e) = refl
empty_below b None = by (nat_lt b 255)
  where
    by : (v : Bool) → under text_cmp (cond v (Some ((b + 1) ∷ [])) None) [] ≡ true
    by true = refl
    by false = refl

-- so is a text with a smaller first byte
smaller_below : (c b : ℕ) (cs : List ℕ) (o : Option (List ℕ)) → nat_cmp c b ≡ Less → under text_cmp (raised b o) (c ∷ cs) ≡ true
smaller_below c b cs (Some e) h = ap (λ p. is_lt (ordering_then p (text_cmp cs e))) h
smaller_below c b cs None h = by (nat_lt b 255)
  where
    by : (v : Bool) → under text_cmp (cond v (Some ((b + 1) ∷ [])) None) (c ∷ cs) ≡ true
    by true = ap (λ p. is_lt (ordering_then p (text_cmp cs []))) (below_next c b h)
    by false = refl

-- a text is below the list exactly where it is below the end of the list's front
pub below_broken : (t x : List ℕ) → is_text t ≡ false → is_text x ≡ true → is_lt (text_cmp x t) ≡ under text_cmp (prefix_end (byte_front t)) x
below_broken [] x broken v = cc
below_broken (b ∷ bs) [] broken v = by (nat_lt b 256)
  where
    by : (w : Bool) → true ≡ under text_cmp (prefix_end (cond w (b ∷ byte_front bs) [])) []
    by true = sym (empty_below b (prefix_end (byte_front bs)))
    by false = refl
below_broken (b ∷ bs) (c ∷ cs) broken v = first (nat_lt b 256) refl (λ r. below_broken bs cs r (and_second (nat_lt c 256) (is_text cs) v))
  where
    More : Type 0
    More = is_lt (text_cmp cs bs) ≡ under text_cmp (prefix_end (byte_front bs)) cs

    by : (o : Ordering) → nat_cmp c b ≡ o → More → is_lt (ordering_then (nat_cmp c b) (text_cmp cs bs)) ≡ under text_cmp (raised b (prefix_end (byte_front bs))) (c ∷ cs)
    by Less f more = ap (λ p. is_lt (ordering_then p (text_cmp cs bs))) f ∙ sym (smaller_below c b cs (prefix_end (byte_front bs)) f)
    by Equal f more = ap (λ p. is_lt (ordering_then p (text_cmp cs bs))) f ∙ more
        ∙ sym (subst (λ d. under text_cmp (raised b (prefix_end (byte_front bs))) (d ∷ cs) ≡ under text_cmp (prefix_end (byte_front bs)) cs) (sym (nat_same c b f)) (same_end b cs (prefix_end (byte_front bs))))
    by Greater f more = ap (λ p. is_lt (ordering_then p (text_cmp cs bs))) f ∙ sym (past_end c b cs (byte_front bs) (and_first (nat_lt c 256) (is_text cs) v) f)

    first : (w : Bool) → nat_lt b 256 ≡ w → (is_text bs ≡ false → More) → is_lt (ordering_then (nat_cmp c b) (text_cmp cs bs)) ≡ under text_cmp (prefix_end (cond w (b ∷ byte_front bs) [])) (c ∷ cs)
    first true e more = by (nat_cmp c b) refl (more (rest_broken b bs e broken))
    first false e more = ap (λ p. is_lt (ordering_then p (text_cmp cs bs))) (byte_below c b (and_first (nat_lt c 256) (is_text cs) v) e)

-- no text begins with it
pub none_begins : (p x : List ℕ) → is_text p ≡ false → is_text x ≡ true → starts_with nat_eq x p ≡ false
none_begins [] x broken v = cc
none_begins (b ∷ bs) [] broken v = refl
none_begins (b ∷ bs) (c ∷ cs) broken v = by (nat_lt b 256) refl (λ r. none_begins bs cs r (and_second (nat_lt c 256) (is_text cs) v))
  where
    by : (w : Bool) → nat_lt b 256 ≡ w → (is_text bs ≡ false → starts_with nat_eq cs bs ≡ false) → (nat_eq b c && pointwise nat_eq bs (take (length bs) cs)) ≡ false
    by true e more = and_no (nat_eq b c) (pointwise nat_eq bs (take (length bs) cs)) (more (rest_broken b bs e broken))
    by false e more = ap (λ w. w && pointwise nat_eq bs (take (length bs) cs)) (byte_differs c b (and_first (nat_lt c 256) (is_text cs) v) e)
