-- The canonical lists that hold one value, nothing, or every value.
use Rattle.std.proofs.Common.{◌≡◌, ◌≢◌, ◌↔◌, IsTrue, Bool, true, false, not, ◌&&◌, ◌||◌, List, [], ◌∷◌, Option, Some, None, refl, sym, ap, ◌∙◌, subst, ℕ, suc, length, nat_eq, arith}
use Rattle.std.proofs.lemmas.Bool.Decides.{nat_tests}
use Rattle.std.specs.Ordering.{is_lt, is_eq, is_ge}
use Rattle.std.specs.declared.cmp.Ordering.{Ordering}
use Rattle.std.specs.declared.cmp.Ordering.TheVariants.{Less, Equal, Greater}
use Rattle.interval_normal.specs.declared.set.Span.{Span}
use Rattle.interval_normal.specs.Spans.{under, has, HoldsOne, IsCanonical, IsNextOf}
use Rattle.interval_normal.proofs.Order.{IsLine, greater_less, lt_not_ge}
use Rattle.interval_normal.proofs.Unique.{unique, first, has_low}
use Rattle.interval_normal.proofs.Gaps.{or_false}

module _ {P : Type 0} (valid : P → Type 0) (cmp : P → P → Ordering) (line : IsLine cmp) where
  -- p and what comes next
  abbrev pub lone : P → Option P → List (Span P)
  lone p n = record { low = p; high = n } ∷ []

  lone_canonical : (p : P) (n : Option P) → valid p → IsNextOf valid cmp p n → IsCanonical valid cmp (lone p n)
  lone_canonical p None v is = record { low = v; high = tt }
  lone_canonical p (Some n) v is = record { low = v; high = (is.0, is.1) }

  inside : (p : P) (n : Option P) → IsNextOf valid cmp p n → under cmp n p ≡ true
  inside p None is = refl
  inside p (Some n) is = ap is_lt is.1

  outside : (p : P) (n : Option P) (x : P) → IsNextOf valid cmp p n → valid x → cmp p x ≡ Less → under cmp n x ≡ false
  outside p None x is v l = absurd (is x v l)
  outside p (Some n) x is v l = lt_not_ge (cmp x n) ∙ ap not (is.2 x v l)

  pub lone_has : (p : P) (n : Option P) (x : P) → IsNextOf valid cmp p n → valid x → has cmp (lone p n) x ≡ is_eq (cmp x p)
  lone_has p n x is v = by (cmp x p) refl
    where
      by : (o : Ordering) → cmp x p ≡ o → ((is_ge (cmp x p) && under cmp n x) || false) ≡ is_eq (cmp x p)
      by Less e = ap (λ o. (is_ge o && under cmp n x) || false) e ∙ sym (ap is_eq e)
      by Equal e = ap (λ o. (is_ge o && under cmp n x) || false) e ∙ or_false (under cmp n x) ∙ ap (under cmp n) (line.exact x p e) ∙ inside p n is ∙ sym (ap is_eq e)
      by Greater e = ap (λ o. (is_ge o && under cmp n x) || false) e ∙ or_false (under cmp n x) ∙ outside p n x is v (greater_less cmp line x p e) ∙ sym (ap is_eq e)

  lone_one : (p : P) (n : Option P) → valid p → IsNextOf valid cmp p n → HoldsOne valid cmp (lone p n) p
  lone_one p n v is = record { value = v; alone = λ x w. lone_has p n x is w }

  one_lone : (spans : List (Span P)) (p : P) (n : Option P) → IsNextOf valid cmp p n → IsCanonical valid cmp spans → HoldsOne valid cmp spans p → spans ≡ lone p n
  one_lone spans p n is c h = unique valid cmp line spans (lone p n) c (lone_canonical p n h.value is) (λ x v. h.alone x v ∙ sym (lone_has p n x is v))

  module _ (next : P → Option P) (next_is : (x : P) → valid x → IsNextOf valid cmp x (next x)) where
    -- a span that ends at what follows its low end holds that alone
    pub found : (s : Span P) → IsCanonical valid cmp (s ∷ []) → next s.low ≡ s.high → (p : P) → (Some s.low ≡ Some p) ↔ HoldsOne valid cmp (s ∷ []) p
    found s c e p = (fore, back)
      where
        is : IsNextOf valid cmp s.low s.high
        is = subst (λ o. IsNextOf valid cmp s.low o) e (next_is s.low c.low)

        fore : Some s.low ≡ Some p → HoldsOne valid cmp (s ∷ []) p
        fore same = let one : s.low ≡ p = cc in subst (λ q. HoldsOne valid cmp (s ∷ []) q) one (lone_one s.low s.high c.low is)

        low_of : (l : List (Span P)) → P → P
        low_of [] d = d
        low_of (t ∷ ts) d = t.low

        back : HoldsOne valid cmp (s ∷ []) p → Some s.low ≡ Some p
        back h = ap (λ l. Some (low_of l p)) (one_lone (s ∷ []) p (next p) (next_is p h.value) c h)

    -- any other list holds not one value
    pub not_found : (spans : List (Span P)) → IsCanonical valid cmp spans → ((s : Span P) → spans ≡ s ∷ [] → next s.low ≢ s.high) → (p : P) → (None ≡ Some p) ↔ HoldsOne valid cmp spans p
    not_found spans c other p = (λ e. cc, λ h. absurd (other (record { low = p; high = next p }) (one_lone spans p (next p) (next_is p h.value) c h) refl))

    -- a span that ends elsewhere holds not one value
    pub not_alone : (s : Span P) → IsCanonical valid cmp (s ∷ []) → (next s.low ≡ s.high → ⊥) → (p : P) → (None ≡ Some p) ↔ HoldsOne valid cmp (s ∷ []) p
    not_alone s c n = not_found (s ∷ []) c (λ t e h. let same : t ≡ s = cc in n (subst (λ u. next u.low ≡ u.high) same h))

    -- neither does a list of no span, or of two and more
    pub not_lone : (spans : List (Span P)) → IsCanonical valid cmp spans → (length spans ≡ 1 → ⊥) → (p : P) → (None ≡ Some p) ↔ HoldsOne valid cmp spans p
    not_lone spans c n = not_found spans c (λ s e. absurd (n (ap length e)))

  not_zero : (n : ℕ) → nat_eq (suc n) 0 ≡ false
  not_zero n = grind (arith, nat_tests)

  -- nothing is in a canonical list exactly where its length is 0
  pub nothing_held : (spans : List (Span P)) → IsCanonical valid cmp spans → (empty : Bool) → empty ≡ nat_eq (length spans) 0
      → IsTrue empty ↔ ((x : P) → valid x → has cmp spans x ≡ false)
  nothing_held [] c empty e = (λ t x v. refl, λ h. e)
  nothing_held (s ∷ ss) c empty e = (
    λ t. let clash : true ≡ false = sym t ∙ e ∙ not_zero (length ss) in cc,
    λ h. let clash : true ≡ false = sym (has_low valid cmp line s ss c) ∙ h s.low (first valid cmp line s ss c).low in cc,
  )

  module _ (bottom : P) (is_valid : valid bottom) (least : (x : P) → valid x → cmp x bottom ≢ Less) where
    at_least : (x : P) → valid x → is_ge (cmp x bottom) ≡ true
    at_least x v = by (cmp x bottom) refl
      where
        by : (o : Ordering) → cmp x bottom ≡ o → is_ge o ≡ true
        by Less e = absurd (least x v e)
        by Equal e = refl
        by Greater e = refl

    whole_has : (x : P) → valid x → has cmp (lone bottom None) x ≡ true
    whole_has x v = ap (λ b. (b && true) || false) (at_least x v)

    -- everything is in a canonical list exactly where it is one span from the least value on
    pub whole_held : (spans : List (Span P)) → IsCanonical valid cmp spans → (spans ≡ lone bottom None) ↔ ((x : P) → valid x → has cmp spans x ≡ true)
    whole_held spans c = (λ e x v. ap (λ l. has cmp l x) e ∙ whole_has x v, λ h. unique valid cmp line spans (lone bottom None) c (record { low = is_valid; high = tt }) (λ x v. h x v ∙ sym (whole_has x v)))

    low_of : List (Span P) → P
    low_of [] = bottom
    low_of (t ∷ ts) = t.low

    high_of : List (Span P) → Option P
    high_of [] = None
    high_of (t ∷ ts) = t.high

    pub whole_one : (s : Span P) → IsCanonical valid cmp (s ∷ []) → (whole : Bool) → IsTrue whole ↔ ((s.low ≡ bottom) × (s.high ≡ None))
        → IsTrue whole ↔ ((x : P) → valid x → has cmp (s ∷ []) x ≡ true)
    unfolding low_of high_of
    whole_one s c whole is = (
      λ t. let ends = is.0 t in (whole_held (s ∷ []) c).0 (λ i. record { low = ends.0 i; high = ends.1 i } ∷ []),
      λ h. let e = (whole_held (s ∷ []) c).1 h in is.1 (ap low_of e, ap high_of e),
    )

    pub not_whole : (spans : List (Span P)) → IsCanonical valid cmp spans → (length spans ≡ 1 → ⊥) → IsTrue false ↔ ((x : P) → valid x → has cmp spans x ≡ true)
    not_whole spans c n = (λ t. cc, λ h. absurd (n (ap length ((whole_held spans c).1 h))))
