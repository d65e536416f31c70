-- The gaps of a canonical list are canonical, and hold what the list does not.
use Rattle.std.proofs.Common.{◌≡◌, ◌≢◌, Bool, true, false, not, cond, ◌&&◌, ◌||◌, List, [], ◌∷◌, ◌++◌, Option, Some, None, refl, sym, ap, ◌∙◌, subst}
use Rattle.std.specs.Ordering.{is_lt, is_ge}
use Rattle.std.specs.declared.cmp.Ordering.{Ordering}
use Rattle.std.specs.declared.cmp.Ordering.TheVariants.{Less, Equal, Greater}
use Rattle.interval_normal.specs.declared.set.Span.{Span}
use Rattle.interval_normal.specs.Spans.{under, in_span, has, IsEnd, IsSpan, EndsBelow, IsCanonical}
use Rattle.interval_normal.specs.Flip.{gap, gaps}
use Rattle.interval_normal.proofs.Order.{IsLine, greater_less, less_after, less_before, ge_from_less, ge_from_same, ge_trans, lt_not_ge}
use Rattle.interval_normal.proofs.Unique.{first, rest, has_from}

pub or_false : (b : Bool) → (b || false) ≡ b
or_false true = refl
or_false false = refl

or_assoc : (a b c : Bool) → (a || (b || c)) ≡ ((a || b) || c)
or_assoc true b c = refl
or_assoc false b c = refl

and_no : (a : Bool) → (a && false) ≡ false
and_no true = refl
and_no false = refl

table : (A S U T : Bool) → (S ≡ true → A ≡ true) → (U ≡ false → S ≡ true) → (T ≡ true → S ≡ true) → ((A && not S) || (not U && not T)) ≡ (A && not ((S && U) || T))
table true true true T f g h = refl
table true true false T f g h = refl
table false true U T f g h = let e : false ≡ true = f refl in cc
table A false false T f g h = let e : false ≡ true = g refl in cc
table A false U true f g h = let e : false ≡ true = h refl in cc
table true false true false f g h = refl
table false false true false f g h = refl

module _ {P : Type 0} (valid : P → Type 0) (cmp : P → P → Ordering) (line : IsLine cmp) where
  pub has-append : (a b : List (Span P)) (x : P) → has cmp (a ++ b) x ≡ (has cmp a x || has cmp b x)
  has-append [] b x = refl
  has-append (s ∷ ss) b x = ap (λ c. in_span cmp s x || c) (has-append ss b x) ∙ or_assoc (in_span cmp s x) (has cmp ss x) (has cmp b x)

  -- the list starts at low or above it
  pub StartsFrom : P → List (Span P) → Type 0
  StartsFrom low [] = Unit {0}
  StartsFrom low (s ∷ ss) = is_ge (cmp s.low low) ≡ true

  pub StartsAbove : P → List (Span P) → Type 0
  StartsAbove low [] = Unit {0}
  StartsAbove low (s ∷ ss) = cmp low s.low ≡ Less

  gaps_none : (ss : List (Span P)) → gaps cmp None ss ≡ []
  gaps_none [] = refl
  gaps_none (s ∷ ss) = gaps_none ss

  gap_has : (low q x : P) → is_ge (cmp q low) ≡ true → has cmp (gap cmp low q) x ≡ (is_ge (cmp x low) && is_lt (cmp x q))
  gap_has low q x from = by (cmp low q) refl
    where
      none : (o : Ordering) → false ≡ (is_ge o && is_lt o)
      none Less = refl
      none Equal = refl
      none Greater = refl

      empty : low ≡ q → false ≡ (is_ge (cmp x low) && is_lt (cmp x q))
      empty e = none (cmp x low) ∙ ap (λ w. is_ge (cmp x low) && is_lt (cmp x w)) e

      by : (o : Ordering) → cmp low q ≡ o → has cmp (cond (is_lt o) (record { low = low; high = Some q } ∷ []) []) x ≡ (is_ge (cmp x low) && is_lt (cmp x q))
      by Less e = or_false _
      by Equal e = empty (line.exact low q e)
      by Greater e = let less = greater_less cmp line low q e in let clash : false ≡ true = sym (ap is_ge less) ∙ from in cc

  from_next : (h : P) (s : Span P) (ss : List (Span P)) → IsCanonical valid cmp (s ∷ ss) → s.high ≡ Some h → StartsFrom h ss
  unfolding StartsFrom
  from_next h s [] c e = tt
  from_next h s (t ∷ ts) c e = ge_from_less cmp line h t.low (subst (λ o. EndsBelow cmp o t.low) e c.1)

  pub gaps_has : (low : P) (ss : List (Span P)) → StartsFrom low ss → IsCanonical valid cmp ss → (x : P) → has cmp (gaps cmp (Some low) ss) x ≡ (is_ge (cmp x low) && not (has cmp ss x))
  unfolding StartsFrom
  gaps_has low [] from c x = or_false _
  gaps_has low (s ∷ ss) from c x =
      has-append (gap cmp low s.low) (gaps cmp s.high ss) x
      ∙ ap (λ b. b || has cmp (gaps cmp s.high ss) x) (gap_has low s.low x from ∙ ap (λ b. is_ge (cmp x low) && b) (lt_not_ge (cmp x s.low)))
      ∙ ap (λ b. (is_ge (cmp x low) && not (is_ge (cmp x s.low))) || b) (after s.high refl (λ h e. gaps_has h ss (from_next h s ss c e) (rest valid cmp line s ss c) x))
      ∙ table (is_ge (cmp x low)) (is_ge (cmp x s.low)) (under cmp s.high x) (has cmp ss x)
      (λ e. ge_trans cmp line x s.low low e from) (above s.high (first valid cmp line s ss c).high) (λ e. has_from valid cmp line s ss x c (or_yes (in_span cmp s x) (has cmp ss x) e))
    where
      or_yes : (a b : Bool) → b ≡ true → (a || b) ≡ true
      or_yes true b e = refl
      or_yes false b e = e

      above : (o : Option P) → IsEnd valid cmp s.low o → under cmp o x ≡ false → is_ge (cmp x s.low) ≡ true
      above None e u = cc
      above (Some h) e u = ge_from_less cmp line s.low x (less_after cmp line x h s.low (not_lt (cmp x h) u) e.1)
        where
          not_lt : (o : Ordering) → is_lt o ≡ false → is_ge o ≡ true
          not_lt Less n = cc
          not_lt Equal n = refl
          not_lt Greater n = refl

      after : (o : Option P) → s.high ≡ o → ((h : P) → s.high ≡ Some h → has cmp (gaps cmp (Some h) ss) x ≡ (is_ge (cmp x h) && not (has cmp ss x)))
          → has cmp (gaps cmp s.high ss) x ≡ (not (under cmp s.high x) && not (has cmp ss x))
      after None e more = ap (λ o. has cmp (gaps cmp o ss) x) e ∙ ap (λ l. has cmp l x) (gaps_none ss) ∙ sym (ap (λ o. not (under cmp o x) && not (has cmp ss x)) e)
      after (Some h) e more = ap (λ o. has cmp (gaps cmp o ss) x) e ∙ more h e ∙ ap (λ b. b && not (has cmp ss x)) (ge_not_lt (cmp x h)) ∙ sym (ap (λ o. not (under cmp o x) && not (has cmp ss x)) e)
        where
          ge_not_lt : (o : Ordering) → is_ge o ≡ not (is_lt o)
          ge_not_lt Less = refl
          ge_not_lt Equal = refl
          ge_not_lt Greater = refl

  cons_canonical : (s : Span P) (q : P) (ss : List (Span P)) → IsSpan valid cmp s → s.high ≡ Some q → StartsAbove q ss → IsCanonical valid cmp ss → IsCanonical valid cmp (s ∷ ss)
  unfolding StartsAbove
  cons_canonical s q [] h e a c = h
  cons_canonical s q (t ∷ ts) h e a c = (h, subst (λ o. EndsBelow cmp o t.low) (sym e) a, c)

  pub Good : P → List (Span P) → Type 0
  Good low ss = IsCanonical valid cmp ss × StartsFrom low ss

  from_above : (low q : P) (ss : List (Span P)) → is_ge (cmp q low) ≡ true → StartsAbove q ss → StartsFrom low ss
  unfolding StartsAbove StartsFrom
  from_above low q [] g a = tt
  from_above low q (t ∷ ts) g a = ge_from_less cmp line low t.low (less_before cmp line low q t.low g a)

  above_from : (low h : P) (ss : List (Span P)) → cmp low h ≡ Less → StartsFrom h ss → StartsAbove low ss
  unfolding StartsAbove StartsFrom
  above_from low h [] l f = tt
  above_from low h (t ∷ ts) l f = less_after cmp line t.low h low f l

  pub Above : P → List (Span P) → Type 0
  Above low ss = IsCanonical valid cmp ss × StartsAbove low ss

  -- the gaps behind a span lie above its low end
  tail_good : (s : Span P) (ss : List (Span P)) → IsCanonical valid cmp (s ∷ ss) → (o : Option P) → s.high ≡ o
      → ((h : P) → valid h → s.high ≡ Some h → Good h (gaps cmp (Some h) ss)) → Above s.low (gaps cmp s.high ss)
  unfolding Good Above StartsAbove
  tail_good s ss c None e more = subst (λ l. Above s.low l) (sym (ap (λ o. gaps cmp o ss) e ∙ gaps_none ss)) (tt, tt)
  tail_good s ss c (Some h) e more =
      let end : IsEnd valid cmp s.low (Some h) = subst (λ o. IsEnd valid cmp s.low o) e (first valid cmp line s ss c).high in
      let good : Good h (gaps cmp (Some h) ss) = more h end.0 e in
      subst (λ o. Above s.low (gaps cmp o ss)) (sym e) (good.0, above_from s.low h (gaps cmp (Some h) ss) end.1 good.1)

  gap_good : (low : P) (s : Span P) (tail : List (Span P)) → valid low → is_ge (cmp s.low low) ≡ true → IsSpan valid cmp s → Above s.low tail → Good low (gap cmp low s.low ++ tail)
  unfolding Good Above StartsFrom
  gap_good low s tail v from span above = by (cmp low s.low) refl
    where
      by : (o : Ordering) → cmp low s.low ≡ o → Good low (cond (is_lt o) (record { low = low; high = Some s.low } ∷ []) [] ++ tail)
      by Less e = (cons_canonical (record { low = low; high = Some s.low }) s.low tail (record { low = v; high = (span.low, e) }) refl above.1 above.0, ge_from_same cmp line low)
      by Equal e = (above.0, from_above low s.low tail from above.1)
      by Greater e = (above.0, from_above low s.low tail from above.1)

  pub gaps_good : (low : P) (ss : List (Span P)) → valid low → StartsFrom low ss → IsCanonical valid cmp ss → Good low (gaps cmp (Some low) ss)
  unfolding Good StartsFrom
  gaps_good low [] v from c = (record { low = v; high = tt }, ge_from_same cmp line low)
  gaps_good low (s ∷ ss) v from c = gap_good low s (gaps cmp s.high ss) v from (first valid cmp line s ss c)
      (tail_good s ss c s.high refl (λ h w e. gaps_good h ss w (from_next h s ss c e) (rest valid cmp line s ss c)))

-- a list whose order starts at a bottom
module _ {P : Type 0} (valid : P → Type 0) (cmp : P → P → Ordering) (line : IsLine cmp) (bottom : P) (is_valid : valid bottom) (least : (x : P) → valid x → cmp x bottom ≢ Less) where
  at_least : (x : P) → valid x → is_ge (cmp x bottom) ≡ true
  at_least x v = by (cmp x bottom) refl
    where
      by : (o : Ordering) → cmp x bottom ≡ o → is_ge o ≡ true
      by Less e = absurd (least x v e)
      by Equal e = refl
      by Greater e = refl

  starts : (ss : List (Span P)) → IsCanonical valid cmp ss → StartsFrom valid cmp line bottom ss
  unfolding StartsFrom
  starts [] c = tt
  starts (s ∷ ss) c = at_least s.low (first valid cmp line s ss c).low

  pub complement_good : (ss : List (Span P)) → IsCanonical valid cmp ss → IsCanonical valid cmp (gaps cmp (Some bottom) ss)
  unfolding Good
  complement_good ss c = (gaps_good valid cmp line bottom ss is_valid (starts ss c) c).0

  pub complement_has : (ss : List (Span P)) → IsCanonical valid cmp ss → (x : P) → valid x → has cmp (gaps cmp (Some bottom) ss) x ≡ not (has cmp ss x)
  complement_has ss c x v = gaps_has valid cmp line bottom ss (starts ss c) c x ∙ ap (λ b. b && not (has cmp ss x)) (at_least x v)
