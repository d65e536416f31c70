-- Two canonical lists with the same points are one.
use Rattle.std.proofs.Common.{◌≡◌, Bool, true, false, ◌&&◌, ◌||◌, List, [], ◌∷◌, Option, Some, None, refl, sym, ap, ◌∙◌, subst}
use Rattle.std.specs.Ordering.{is_lt, is_ge}
use Rattle.std.specs.declared.cmp.Ordering.{Ordering}
use Rattle.std.specs.declared.cmp.Ordering.TheVariants.{Less, Equal, Greater}
use Rattle.interval_normal.specs.declared.set.Span.{Span}
use Rattle.interval_normal.specs.Spans.{under, in_span, has, IsEnd, IsSpan, EndsBelow, IsCanonical}
use Rattle.interval_normal.proofs.Order.{IsLine, self_equal, greater_less, less_after, less_not_less, ge_from_less, ge_from_same}

and_first : (a b : Bool) → (a && b) ≡ true → a ≡ true
and_first true b e = refl
and_first false b e = e

and_second : (a b : Bool) → (a && b) ≡ true → b ≡ true
and_second true b e = e
and_second false b e = cc

and_true : (a b : Bool) → a ≡ true → b ≡ true → (a && b) ≡ true
and_true true b d e = e
and_true false b d e = d

and_false : (a b : Bool) → b ≡ false → (a && b) ≡ false
and_false true b e = e
and_false false b e = refl

or_left : (a b : Bool) → a ≡ true → (a || b) ≡ true
or_left true b e = refl
or_left false b e = cc

or_right : (a b : Bool) → (a || b) ≡ true → a ≡ false → b ≡ true
or_right true b e d = cc
or_right false b e d = e

or_else : (a b : Bool) → (a || b) ≡ true → b ≡ false → a ≡ true
or_else true b e d = refl
or_else false b e d = cc

is_lt_less : (o : Ordering) → is_lt o ≡ true → o ≡ Less
is_lt_less Less e = refl
is_lt_less Equal e = cc
is_lt_less Greater e = cc

module _ {P : Type 0} (valid : P → Type 0) (cmp : P → P → Ordering) (line : IsLine cmp) where
  pub first : (s : Span P) (ss : List (Span P)) → IsCanonical valid cmp (s ∷ ss) → IsSpan valid cmp s
  first s [] c = c
  first s (t ∷ ts) c = c.0

  pub rest : (s : Span P) (ss : List (Span P)) → IsCanonical valid cmp (s ∷ ss) → IsCanonical valid cmp ss
  rest s [] c = tt
  rest s (t ∷ ts) c = c.2

  under_low : (l : P) (h : Option P) → IsEnd valid cmp l h → under cmp h l ≡ true
  under_low l None e = refl
  under_low l (Some k) e = ap is_lt e.1

  -- a first span has its low end
  pub low_in : (s : Span P) → IsSpan valid cmp s → in_span cmp s s.low ≡ true
  low_in s h = and_true _ _ (ge_from_same cmp line s.low) (under_low s.low s.high h.high)

  pub has_low : (s : Span P) (ss : List (Span P)) → IsCanonical valid cmp (s ∷ ss) → has cmp (s ∷ ss) s.low ≡ true
  has_low s ss c = or_left _ _ (low_in s (first s ss c))

  lows : (l : P) (h : Option P) (q : P) → IsEnd valid cmp l h → EndsBelow cmp h q → cmp l q ≡ Less
  lows l None q e b = absurd b
  lows l (Some k) q e b = line.total.trans l k q e.1 b

  -- nothing is below the first low end
  pub has_from : (s : Span P) (ss : List (Span P)) (x : P) → IsCanonical valid cmp (s ∷ ss) → has cmp (s ∷ ss) x ≡ true → is_ge (cmp x s.low) ≡ true
  has_from s [] x c h = and_first _ _ (or_else _ _ h refl)
  has_from s (t ∷ ts) x c h = by (in_span cmp s x) refl (λ more. has_from t ts x c.2 more)
    where
      by : (b : Bool) → in_span cmp s x ≡ b → (has cmp (t ∷ ts) x ≡ true → is_ge (cmp x t.low) ≡ true) → is_ge (cmp x s.low) ≡ true
      by true e below = and_first _ _ e
      by false e below =
          let later = below (or_right _ _ h e) in
          ge_from_less cmp line s.low x (less_after cmp line x t.low s.low later (lows s.low s.high t.low c.0.high c.1))

  -- what follows a span lies above its end
  pub beyond : (s : Span P) (ss : List (Span P)) (k x : P) → IsCanonical valid cmp (s ∷ ss) → s.high ≡ Some k → has cmp ss x ≡ true → cmp k x ≡ Less
  beyond s [] k x c e h = cc
  beyond s (t ∷ ts) k x c e h = less_after cmp line x t.low k (has_from t ts x c.2 h) (subst (λ o. EndsBelow cmp o t.low) e c.1)

  -- a span and what follows it have no point in common
  pub apart : (s : Span P) (ss : List (Span P)) (x : P) → IsCanonical valid cmp (s ∷ ss) → in_span cmp s x ≡ true → has cmp ss x ≡ false
  apart s [] x c i = refl
  apart s (t ∷ ts) x c i = by (has cmp (t ∷ ts) x) refl
    where
      ends : (o : Option P) → s.high ≡ o → has cmp (t ∷ ts) x ≡ true → ⊥
      ends None e h = subst (λ o. EndsBelow cmp o t.low) e c.1
      ends (Some k) e h = less_not_less cmp line k x (beyond s (t ∷ ts) k x c e h) (is_lt_less (cmp x k) (subst (λ o. under cmp o x ≡ true) e (and_second _ _ i)))

      by : (b : Bool) → has cmp (t ∷ ts) x ≡ b → has cmp (t ∷ ts) x ≡ false
      by true e = absurd (ends s.high refl e)
      by false e = e

  Same : List (Span P) → List (Span P) → Type 0
  Same a b = (x : P) → valid x → has cmp a x ≡ has cmp b x

  low_not_less : (s t : Span P) (ss ts : List (Span P)) → IsCanonical valid cmp (s ∷ ss) → IsCanonical valid cmp (t ∷ ts) → Same (s ∷ ss) (t ∷ ts) → cmp s.low t.low ≡ Less → ⊥
  unfolding Same
  low_not_less s t ss ts ca cb same less =
      let there = sym (same s.low (first s ss ca).low) ∙ has_low s ss ca in
      let above = has_from t ts s.low cb there in
      let clash = sym above ∙ ap is_ge less in
      cc

  same_low : (s t : Span P) (ss ts : List (Span P)) → IsCanonical valid cmp (s ∷ ss) → IsCanonical valid cmp (t ∷ ts) → Same (s ∷ ss) (t ∷ ts) → s.low ≡ t.low
  unfolding Same
  same_low s t ss ts ca cb same = by (cmp s.low t.low) refl
    where
      by : (o : Ordering) → cmp s.low t.low ≡ o → s.low ≡ t.low
      by Less e = absurd (low_not_less s t ss ts ca cb same e)
      by Equal e = line.exact s.low t.low e
      by Greater e = absurd (low_not_less t s ts ss cb ca (λ x v. sym (same x v)) (greater_less cmp line s.low t.low e))

  not_shorter : (s t : Span P) (ss ts : List (Span P)) → IsCanonical valid cmp (s ∷ ss) → IsCanonical valid cmp (t ∷ ts) → Same (s ∷ ss) (t ∷ ts)
      → s.low ≡ t.low → (h : P) → s.high ≡ Some h → under cmp t.high h ≡ true → ⊥
  unfolding Same
  not_shorter s t ss ts ca cb same low h e u =
      let span : IsEnd valid cmp s.low (Some h) = subst (λ o. IsEnd valid cmp s.low o) e (first s ss ca).high in
      let from : is_ge (cmp h t.low) ≡ true = subst (λ l. is_ge (cmp h l) ≡ true) low (ge_from_less cmp line s.low h span.1) in
      let there : has cmp (t ∷ ts) h ≡ true = or_left _ _ (and_true _ _ from u) in
      let here : has cmp (s ∷ ss) h ≡ true = same h span.0 ∙ there in
      let out : in_span cmp s h ≡ false = and_false _ _ (ap (λ o. under cmp o h) e ∙ ap is_lt (self_equal cmp line h)) in
      let less : cmp h h ≡ Less = beyond s ss h h ca e (or_right _ _ here out) in
      less_not_less cmp line h h less less

  same_high : (s t : Span P) (ss ts : List (Span P)) → IsCanonical valid cmp (s ∷ ss) → IsCanonical valid cmp (t ∷ ts) → Same (s ∷ ss) (t ∷ ts)
      → s.low ≡ t.low → s.high ≡ t.high
  unfolding Same
  same_high s t ss ts ca cb same low = by s.high t.high refl refl
    where
      back : Same (t ∷ ts) (s ∷ ss)
      back x v = sym (same x v)

      shorter : (h : P) → s.high ≡ Some h → under cmp t.high h ≡ true → ⊥
      shorter h e u = not_shorter s t ss ts ca cb same low h e u

      longer : (k : P) → t.high ≡ Some k → under cmp s.high k ≡ true → ⊥
      longer k e u = not_shorter t s ts ss cb ca back (sym low) k e u

      both : (h k : P) → s.high ≡ Some h → t.high ≡ Some k → (o : Ordering) → cmp h k ≡ o → s.high ≡ t.high
      both h k d e Less c = absurd (shorter h d (ap (λ o. under cmp o h) e ∙ ap is_lt c))
      both h k d e Equal c = d ∙ ap Some (line.exact h k c) ∙ sym e
      both h k d e Greater c = absurd (longer k e (ap (λ o. under cmp o k) d ∙ ap is_lt (greater_less cmp line h k c)))

      by : (a b : Option P) → s.high ≡ a → t.high ≡ b → s.high ≡ t.high
      by None None d e = d ∙ sym e
      by (Some h) None d e = absurd (shorter h d (ap (λ o. under cmp o h) e))
      by None (Some k) d e = absurd (longer k e (ap (λ o. under cmp o k) d))
      by (Some h) (Some k) d e = both h k d e (cmp h k) refl

  tails : (s : Span P) (ss ts : List (Span P)) → IsCanonical valid cmp (s ∷ ss) → IsCanonical valid cmp (s ∷ ts) → Same (s ∷ ss) (s ∷ ts) → Same ss ts
  unfolding Same
  tails s ss ts ca cb same x v = by (in_span cmp s x) refl
    where
      by : (b : Bool) → in_span cmp s x ≡ b → has cmp ss x ≡ has cmp ts x
      by true e = apart s ss x ca e ∙ sym (apart s ts x cb e)
      by false e = sym (ap (λ b. b || has cmp ss x) e) ∙ same x v ∙ ap (λ b. b || has cmp ts x) e

  pub unique : (a b : List (Span P)) → IsCanonical valid cmp a → IsCanonical valid cmp b → ((x : P) → valid x → has cmp a x ≡ has cmp b x) → a ≡ b
  unfolding Same
  unique [] [] ca cb same = refl
  unique [] (t ∷ ts) ca cb same = let clash : false ≡ true = same t.low (first t ts cb).low ∙ has_low t ts cb in cc
  unique (s ∷ ss) [] ca cb same = let clash : false ≡ true = sym (same s.low (first s ss ca).low) ∙ has_low s ss ca in cc
  unique (s ∷ ss) (t ∷ ts) ca cb same =
      let low = same_low s t ss ts ca cb same in
      let high = same_high s t ss ts ca cb same low in
      let one : s ≡ t = λ i. record { low = low i; high = high i } in
      let cb' : IsCanonical valid cmp (s ∷ ts) = subst (λ u. IsCanonical valid cmp (u ∷ ts)) (sym one) cb in
      let same' : Same (s ∷ ss) (s ∷ ts) = subst (λ u. Same (s ∷ ss) (u ∷ ts)) (sym one) same in
      let more = unique ss ts (rest s ss ca) (rest s ts cb') (tails s ss ts ca cb' same') in
      λ i. one i ∷ more i
