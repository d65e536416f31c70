-- For each condition the values of a kind that meet it are those of a canonical list of intervals.
use Rattle.std.proofs.Common.{◌≡◌, ◌≢◌, ℕ, ℤ, pos, ◌+◌, Bool, true, false, not, cond, ◌&&◌, ◌||◌, List, [], ◌∷◌, Option, Some, None, map, nat_lt, refl, sym, ap, ◌∙◌, subst, arith}
use Rattle.std.proofs.lemmas.Bool.Decides.{nat_tests}
use Rattle.std.proofs.lemmas.Int.{ints}
use Rattle.std.specs.List.{list_all, list_any, starts_with}
use Rattle.std.specs.Prelude.{nat_eq, int_lt}
use Rattle.std.specs.Ordering.{int_cmp, is_lt, is_le, is_eq, is_ge, is_gt, is_ne}
use Rattle.std.specs.declared.cmp.Ordering.{Ordering}
use Rattle.std.specs.declared.cmp.Ordering.TheVariants.{Less, Equal, Greater}
use Rattle.cite_schema.specs.declared.value.Value.{Value}
use Rattle.cite_schema.specs.declared.value.Value.TheVariants.{Int, Text}
use Rattle.cite_schema.specs.declared.condition.Cond.{Cond}
use Rattle.cite_schema.specs.declared.condition.Cond.TheOpen.{Cond-F, Lt, Le, Eq, Ne, Ge, Gt, Among, Prefix, AllOf, AnyOf, Not}
use Rattle.cite_schema.specs.declared.condition.Cond.TheViews.{roll-Cond}
use Rattle.cite_schema.specs.declared.condition.Cond.TheFolds.{fold-roll-Cond, ind-Cond, map-Cond}
use Rattle.cite_schema.specs.Values.{value_cmp, text_cmp, is_number, is_text}
use Rattle.cite_schema.specs.Conditions.{meets, meets_step, begins_with}
use Rattle.cite_schema.proofs.Rising.{and_first, and_second}
use Rattle.interval_normal.specs.declared.set.Span.{Span}
use Rattle.interval_normal.specs.Spans.{under, has, IsEnd, IsCanonical, IsNextOf}
use Rattle.interval_normal.specs.Cross.{cross}
use Rattle.interval_normal.specs.Flip.{gaps}
use Rattle.interval_normal.specs.PrefixEnds.{raised, prefix_end}
use Rattle.interval_normal.specs.Points.{least_number, least_number_valid, number_least, number_after, number_next, text_least, text_after, text_next, text_exact}
use Rattle.interval_normal.proofs.Order.{IsLine, lt_not_ge}
use Rattle.interval_normal.proofs.Lone.{lone, lone_has}
use Rattle.interval_normal.proofs.Gaps.{or_false, complement_good, complement_has}
use Rattle.interval_normal.proofs.Crossing.{cross_canonical, has_cross}
use Rattle.interval_normal.proofs.Prefixes.{between}
use Rattle.interval_normal.proofs.BrokenTexts.{byte_front, front_is_text, below_broken, none_begins}
use Rattle.subset_query.proofs.Sets.{numbers, texts}
use Rattle.subset_query.proofs.SingleValues.{IsNum, IsTxt}

le_either : (o : Ordering) → (is_lt o || is_eq o) ≡ is_le o
le_either Less = refl
le_either Equal = refl
le_either Greater = refl

ne_not : (o : Ordering) → not (is_eq o) ≡ is_ne o
ne_not Less = refl
ne_not Equal = refl
ne_not Greater = refl

ge_not : (o : Ordering) → not (is_lt o) ≡ is_ge o
ge_not Less = refl
ge_not Equal = refl
ge_not Greater = refl

gt_not : (o : Ordering) → not (is_lt o || is_eq o) ≡ is_gt o
gt_not Less = refl
gt_not Equal = refl
gt_not Greater = refl

either_not : (a b : Bool) → not (not a && not b) ≡ (a || b)
either_not true b = refl
either_not false true = refl
either_not false false = refl

and_always : (b : Bool) → (b && true) ≡ b
and_always true = refl
and_always false = refl

-- the values of the type that pass a test are those of a canonical list
pub record Spanned {P : Type 0} (valid : P → Type 0) (cmp : P → P → Ordering) (test : P → Bool) : Type 0 where
  pub spans : List (Span P)
  pub canonical : IsCanonical valid cmp spans
  pub has_is : (x : P) → valid x → has cmp spans x ≡ test x

module _ {P : Type 0} (valid : P → Type 0) (cmp : P → P → Ordering) (line : IsLine cmp) (bottom : P) (bottom_valid : valid bottom) (least : (x : P) → valid x → cmp x bottom ≢ Less) where
  none : Spanned valid cmp (λ x. false)
  none = record { spans = []; canonical = tt; has_is = λ x v. refl }

  change : (f g : P → Bool) → Spanned valid cmp f → ((x : P) → valid x → f x ≡ g x) → Spanned valid cmp g
  change f g s same = record { spans = s.spans; canonical = s.canonical; has_is = λ x v. s.has_is x v ∙ same x v }

  others : (f : P → Bool) → Spanned valid cmp f → Spanned valid cmp (λ x. not (f x))
  others f s = record {
    spans = gaps cmp (Some bottom) s.spans;
    canonical = complement_good valid cmp line bottom bottom_valid least s.spans s.canonical;
    has_is = λ x v. complement_has valid cmp line bottom bottom_valid least s.spans s.canonical x v ∙ ap not (s.has_is x v);
  }

  every : Spanned valid cmp (λ x. true)
  every = others (λ x. false) none

  both : (f g : P → Bool) → Spanned valid cmp f → Spanned valid cmp g → Spanned valid cmp (λ x. f x && g x)
  both f g s t = record {
    spans = cross cmp s.spans t.spans;
    canonical = cross_canonical valid cmp line s.spans t.spans s.canonical t.canonical;
    has_is = λ x v. has_cross valid cmp line s.spans t.spans x ∙ ap (λ b. b && has cmp t.spans x) (s.has_is x v) ∙ ap (λ b. f x && b) (t.has_is x v);
  }

  either : (f g : P → Bool) → Spanned valid cmp f → Spanned valid cmp g → Spanned valid cmp (λ x. f x || g x)
  either f g s t = change (λ x. not (not (f x) && not (g x))) (λ x. f x || g x)
      (others (λ x. not (f x) && not (g x)) (both (λ x. not (f x)) (λ x. not (g x)) (others f s) (others g t))) (λ x v. either_not (f x) (g x))

  from_on : (p : P) → valid p → Spanned valid cmp (λ x. is_ge (cmp x p))
  from_on p v = record { spans = lone valid cmp line p None; canonical = record { low = v; high = tt }; has_is = λ x w. or_false (is_ge (cmp x p) && true) ∙ and_always (is_ge (cmp x p)) }

  below : (p : P) → valid p → Spanned valid cmp (λ x. is_lt (cmp x p))
  below p v = change (λ x. not (is_ge (cmp x p))) (λ x. is_lt (cmp x p)) (others (λ x. is_ge (cmp x p)) (from_on p v)) (λ x w. sym (lt_not_ge (cmp x p)))

  one : (p : P) (next : Option P) → valid p → IsNextOf valid cmp p next → Spanned valid cmp (λ x. is_eq (cmp x p))
  one p next v is = record { spans = lone valid cmp line p next; canonical = record { low = v; high = ends next is }; has_is = λ x w. lone_has valid cmp line p next x is w }
    where
      ends : (o : Option P) → IsNextOf valid cmp p o → IsEnd valid cmp p o
      ends None h = tt
      ends (Some n) h = (h.0, h.1)

  -- points as cells of a table, and the lists for what one value or one prefix asks of them
  module _ (cell : P → Value)
      (less : (v : Value) → Spanned valid cmp (λ x. is_lt (value_cmp (cell x) v)))
      (same : (v : Value) → Spanned valid cmp (λ x. is_eq (value_cmp (cell x) v)))
      (beginning : (p : List ℕ) → Spanned valid cmp (λ x. begins_with p (cell x))) where
    abbrev Asks : (Value → Bool) → Type 0
    Asks test = Spanned valid cmp (λ x. test (cell x))

    abbrev Q : Cond → Type 0
    Q c = Asks (meets c)

    up_to : (v : Value) → Asks (λ y. is_lt (value_cmp y v) || is_eq (value_cmp y v))
    up_to v = either (λ x. is_lt (value_cmp (cell x) v)) (λ x. is_eq (value_cmp (cell x) v)) (less v) (same v)

    among : (vs : List Value) → Asks (λ y. list_any (λ v. is_eq (value_cmp y v)) vs)
    among [] = none
    among (v ∷ vs) = either (λ x. is_eq (value_cmp (cell x) v)) (λ x. list_any (λ w. is_eq (value_cmp (cell x) w)) vs) (same v) (among vs)

    -- what a condition made of a layer asks is what the layer asks
    made : (l : Cond-F Cond) → Asks (meets_step (map-Cond Cond (Value → Bool) meets l)) → Q (roll-Cond l)
    made l h = change (λ x. meets_step (map-Cond Cond (Value → Bool) meets l) (cell x)) (λ x. meets (roll-Cond l) (cell x)) h (λ x v. sym (ap (λ f. f (cell x)) (fold-roll-Cond (Value → Bool) meets_step l)))

    all_of : (es : List ((c : Cond) × Q c)) → Asks (λ y. list_all (λ m. m y) (map meets (map (λ e. e.0) es)))
    all_of [] = every
    all_of (e ∷ es) = both (λ x. meets e.0 (cell x)) (λ x. list_all (λ m. m (cell x)) (map meets (map (λ e. e.0) es))) e.1 (all_of es)

    any_of : (es : List ((c : Cond) × Q c)) → Asks (λ y. list_any (λ m. m y) (map meets (map (λ e. e.0) es)))
    any_of [] = none
    any_of (e ∷ es) = either (λ x. meets e.0 (cell x)) (λ x. list_any (λ m. m (cell x)) (map meets (map (λ e. e.0) es))) e.1 (any_of es)

    layer : (y : Cond-F ((c : Cond) × Q c)) → Q (roll-Cond (map-Cond ((c : Cond) × Q c) Cond (λ e. e.0) y))
    layer (Lt v) = made (Lt v) (less v)
    layer (Le v) = made (Le v) (change (λ x. is_lt (value_cmp (cell x) v) || is_eq (value_cmp (cell x) v)) (λ x. is_le (value_cmp (cell x) v)) (up_to v) (λ x w. le_either (value_cmp (cell x) v)))
    layer (Eq v) = made (Eq v) (same v)
    layer (Ne v) = made (Ne v) (change (λ x. not (is_eq (value_cmp (cell x) v))) (λ x. is_ne (value_cmp (cell x) v)) (others (λ x. is_eq (value_cmp (cell x) v)) (same v)) (λ x w. ne_not (value_cmp (cell x) v)))
    layer (Ge v) = made (Ge v) (change (λ x. not (is_lt (value_cmp (cell x) v))) (λ x. is_ge (value_cmp (cell x) v)) (others (λ x. is_lt (value_cmp (cell x) v)) (less v)) (λ x w. ge_not (value_cmp (cell x) v)))
    layer (Gt v) = made (Gt v) (change (λ x. not (is_lt (value_cmp (cell x) v) || is_eq (value_cmp (cell x) v))) (λ x. is_gt (value_cmp (cell x) v)) (others (λ x. is_lt (value_cmp (cell x) v) || is_eq (value_cmp (cell x) v)) (up_to v)) (λ x w. gt_not (value_cmp (cell x) v)))
    layer (Among vs) = made (Among vs) (among vs)
    layer (Prefix p) = made (Prefix p) (beginning p)
    layer (AllOf es) = made (AllOf (map (λ e. e.0) es)) (all_of es)
    layer (AnyOf es) = made (AnyOf (map (λ e. e.0) es)) (any_of es)
    layer (Not e) = made (Not e.0) (others (λ x. meets e.0 (cell x)) e.1)

    asks : (c : Cond) → Q c
    asks = ind-Cond Q (λ x y is. subst (λ l. Q (roll-Cond l)) is (layer y))

-- all numbers
pub every_number : Spanned IsNum int_cmp (λ z. true)
every_number = every IsNum int_cmp numbers least_number least_number_valid number_least

no_numbers : Spanned IsNum int_cmp (λ z. false)
no_numbers = none IsNum int_cmp numbers least_number least_number_valid number_least

number_over : (x z : ℤ) → is_number x ≡ true → is_number z ≡ false → int_lt z (pos 0) ≡ false → is_lt (int_cmp x z) ≡ true
number_over x z v out sign = grind (arith, ints, nat_tests)

number_under : (x z : ℤ) → is_number x ≡ true → is_number z ≡ false → int_lt z (pos 0) ≡ true → is_lt (int_cmp x z) ≡ false
number_under x z v out sign = grind (arith, ints, nat_tests)

number_other : (x z : ℤ) → is_number x ≡ true → is_number z ≡ false → is_eq (int_cmp x z) ≡ false
number_other x z v out = grind (arith, ints, nat_tests)

-- below a number that no column holds are all numbers, or none
less_number : (v : Value) → Spanned IsNum int_cmp (λ z. is_lt (value_cmp (Int z) v))
less_number (Int z) = by (is_number z) refl (int_lt z (pos 0)) refl
  where
    by : (inside : Bool) → is_number z ≡ inside → (negative : Bool) → int_lt z (pos 0) ≡ negative → Spanned IsNum int_cmp (λ x. is_lt (int_cmp x z))
    by true e negative f = below IsNum int_cmp numbers least_number least_number_valid number_least z e
    by false e true f = change IsNum int_cmp numbers least_number least_number_valid number_least (λ x. false) (λ x. is_lt (int_cmp x z)) no_numbers (λ x v. sym (number_under x z v e f))
    by false e false f = change IsNum int_cmp numbers least_number least_number_valid number_least (λ x. true) (λ x. is_lt (int_cmp x z)) every_number (λ x v. sym (number_over x z v e f))
less_number (Text t) = every_number

same_number : (v : Value) → Spanned IsNum int_cmp (λ z. is_eq (value_cmp (Int z) v))
same_number (Int z) = by (is_number z) refl
  where
    by : (inside : Bool) → is_number z ≡ inside → Spanned IsNum int_cmp (λ x. is_eq (int_cmp x z))
    by true e = one IsNum int_cmp numbers least_number least_number_valid number_least z (number_after z) e (number_next z e)
    by false e = change IsNum int_cmp numbers least_number least_number_valid number_least (λ x. false) (λ x. is_eq (int_cmp x z)) no_numbers (λ x v. sym (number_other x z v e))
same_number (Text t) = no_numbers

-- the numbers that meet a condition
pub numbers_asked : (c : Cond) → Spanned IsNum int_cmp (λ z. meets c (Int z))
numbers_asked = asks IsNum int_cmp numbers least_number least_number_valid number_least Int less_number same_number (λ p. no_numbers)

-- all texts
pub every_text : Spanned IsTxt text_cmp (λ t. true)
every_text = every IsTxt text_cmp texts [] refl text_least

no_texts : Spanned IsTxt text_cmp (λ t. false)
no_texts = none IsTxt text_cmp texts [] refl text_least

-- where a prefix of bytes ends is a text of bytes
abbrev IsTextEnd : Option (List ℕ) → Type 0
IsTextEnd None = Unit {0}
IsTextEnd (Some e) = is_text e ≡ true

end_is_text : (p : List ℕ) → is_text p ≡ true → IsTextEnd (prefix_end p)
end_is_text [] h = tt
end_is_text (b ∷ bs) h = by (prefix_end bs) (end_is_text bs (and_second _ _ h)) (nat_lt b 255) refl
  where
    next_byte : nat_lt b 255 ≡ true → nat_lt (b + 1) 256 ≡ true
    next_byte e = grind (arith, nat_tests)

    by : (e : Option (List ℕ)) → IsTextEnd e → (lower : Bool) → nat_lt b 255 ≡ lower → IsTextEnd (raised b e)
    by (Some e) k lower is = ap (λ c. c && is_text e) (and_first _ _ h) ∙ k
    by None k true is = subst (λ c. IsTextEnd (cond c (Some ((b + 1) ∷ [])) None)) (sym is) (ap (λ c. c && true) (next_byte is))
    by None k false is = subst (λ c. IsTextEnd (cond c (Some ((b + 1) ∷ [])) None)) (sym is) tt

-- the texts below where a prefix ends
before_end : (e : Option (List ℕ)) → IsTextEnd e → Spanned IsTxt text_cmp (λ t. under text_cmp e t)
before_end None k = every_text
before_end (Some e) k = below IsTxt text_cmp texts [] refl text_least e k

less_text : (v : Value) → Spanned IsTxt text_cmp (λ t. is_lt (value_cmp (Text t) v))
less_text (Int z) = no_texts
less_text (Text t) = by (is_text t) refl
  where
    by : (inside : Bool) → is_text t ≡ inside → Spanned IsTxt text_cmp (λ x. is_lt (text_cmp x t))
    by true e = below IsTxt text_cmp texts [] refl text_least t e
    by false e = change IsTxt text_cmp texts [] refl text_least (λ x. under text_cmp (prefix_end (byte_front t)) x) (λ x. is_lt (text_cmp x t))
        (before_end (prefix_end (byte_front t)) (end_is_text (byte_front t) (front_is_text t))) (λ x v. sym (below_broken t x e v))

same_text : (v : Value) → Spanned IsTxt text_cmp (λ t. is_eq (value_cmp (Text t) v))
same_text (Int z) = no_texts
same_text (Text t) = by (is_text t) refl
  where
    other : (x : List ℕ) → is_text x ≡ true → is_text t ≡ false → (o : Ordering) → text_cmp x t ≡ o → false ≡ is_eq o
    other x v out Less e = refl
    other x v out Equal e = sym (ap is_text (text_exact x t e) ∙ out) ∙ v
    other x v out Greater e = refl

    by : (inside : Bool) → is_text t ≡ inside → Spanned IsTxt text_cmp (λ x. is_eq (text_cmp x t))
    by true e = one IsTxt text_cmp texts [] refl text_least t (text_after t) e (text_next t e)
    by false e = change IsTxt text_cmp texts [] refl text_least (λ x. false) (λ x. is_eq (text_cmp x t)) no_texts (λ x v. other x v e (text_cmp x t) refl)

beginning_texts : (p : List ℕ) → Spanned IsTxt text_cmp (λ t. begins_with p (Text t))
beginning_texts p = by (is_text p) refl
  where
    by : (inside : Bool) → is_text p ≡ inside → Spanned IsTxt text_cmp (λ t. starts_with nat_eq t p)
    by true e = change IsTxt text_cmp texts [] refl text_least (λ t. is_ge (text_cmp t p) && under text_cmp (prefix_end p) t) (λ t. starts_with nat_eq t p)
        (both IsTxt text_cmp texts [] refl text_least (λ t. is_ge (text_cmp t p)) (λ t. under text_cmp (prefix_end p) t) (from_on IsTxt text_cmp texts [] refl text_least p e) (before_end (prefix_end p) (end_is_text p e)))
        (λ t v. between p t v)
    by false e = change IsTxt text_cmp texts [] refl text_least (λ t. false) (λ t. starts_with nat_eq t p) no_texts (λ t v. sym (none_begins p t e v))

-- the texts that meet a condition
pub texts_asked : (c : Cond) → Spanned IsTxt text_cmp (λ t. meets c (Text t))
texts_asked = asks IsTxt text_cmp texts [] refl text_least Text less_text same_text beginning_texts
