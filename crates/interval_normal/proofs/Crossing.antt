-- What two canonical lists have in common is canonical, and holds what both hold.
use Rattle.std.proofs.Common.{◌≡◌, Bool, true, false, not, cond, ◌&&◌, ◌||◌, List, [], ◌∷◌, ◌++◌, Option, Some, None, refl, sym, ap, ◌∙◌, subst}
use Rattle.std.specs.List.{AllByRecursion}
use Rattle.std.specs.Ordering.{is_lt, is_ge}
use Rattle.std.specs.declared.cmp.Ordering.{Ordering}
use Rattle.std.specs.declared.cmp.Ordering.TheVariants.{Less, Equal, Greater}
use Rattle.interval_normal.specs.declared.set.Span.{Span}
use Rattle.interval_normal.specs.Spans.{under, in_span, has, IsEnd, IsSpan, EndsBelow, IsCanonical}
use Rattle.interval_normal.specs.Ends.{sooner, later}
use Rattle.interval_normal.specs.Cross.{interval, piece, clip, cross}
use Rattle.interval_normal.proofs.Order.{IsLine, less_after, less_before, ge_from_less, ge_from_same, ge_trans, lt_not_ge}
use Rattle.interval_normal.proofs.Unique.{first, rest}
use Rattle.interval_normal.proofs.Gaps.{has-append, or_false}

swap_and : (a b c d : Bool) → ((a && c) && (b && d)) ≡ ((a && b) && (c && d))
swap_and true b true d = refl
swap_and true true false d = refl
swap_and true false false d = refl
swap_and false b c d = refl

module _ {P : Type 0} (valid : P → Type 0) (cmp : P → P → Ordering) (line : IsLine cmp) where
  not_less_ge : (a b : P) → is_lt (cmp a b) ≡ false → is_ge (cmp a b) ≡ true
  not_less_ge a b h = by (cmp a b) h
    where
      by : (o : Ordering) → is_lt o ≡ false → is_ge o ≡ true
      by Less n = cc
      by Equal n = refl
      by Greater n = refl

  less_yes : (a b : P) → is_lt (cmp a b) ≡ true → cmp a b ≡ Less
  less_yes a b h = by (cmp a b) h
    where
      by : (o : Ordering) → is_lt o ≡ true → o ≡ Less
      by Less n = refl
      by Equal n = cc
      by Greater n = cc

  ge_later : (a b x : P) → is_ge (cmp x (later cmp a b)) ≡ (is_ge (cmp x a) && is_ge (cmp x b))
  ge_later a b x = by (is_lt (cmp a b)) refl
    where
      right : (u v : Bool) → (v ≡ true → u ≡ true) → v ≡ (u && v)
      right true v f = refl
      right false true f = sym (f refl)
      right false false f = refl

      left : (u v : Bool) → (u ≡ true → v ≡ true) → u ≡ (u && v)
      left true v f = sym (f refl)
      left false v f = refl

      by : (c : Bool) → is_lt (cmp a b) ≡ c → is_ge (cmp x (cond c b a)) ≡ (is_ge (cmp x a) && is_ge (cmp x b))
      by true e = right _ _ (λ h. ge_trans cmp line x b a h (ge_from_less cmp line a b (less_yes a b e)))
      by false e = left _ _ (λ h. ge_trans cmp line x a b h (not_less_ge a b e))

  pub under_sooner : (h k : Option P) (x : P) → under cmp (sooner cmp h k) x ≡ (under cmp h x && under cmp k x)
  under_sooner None k x = refl
  under_sooner (Some h) None x = and_yes (is_lt (cmp x h))
    where
      and_yes : (b : Bool) → b ≡ (b && true)
      and_yes true = refl
      and_yes false = refl
  under_sooner (Some h) (Some k) x = by (is_lt (cmp h k)) refl
    where
      left : (u v : Bool) → (u ≡ true → v ≡ true) → u ≡ (u && v)
      left true v f = sym (f refl)
      left false v f = refl

      right : (u v : Bool) → (v ≡ true → u ≡ true) → v ≡ (u && v)
      right true v f = refl
      right false true f = sym (f refl)
      right false false f = refl

      by : (c : Bool) → is_lt (cmp h k) ≡ c → under cmp (cond c (Some h) (Some k)) x ≡ (is_lt (cmp x h) && is_lt (cmp x k))
      by true e = left _ _ (λ l. ap is_lt (line.total.trans x h k (less_yes x h l) (less_yes h k e)))
      by false e = right _ _ (λ l. ap is_lt (less_after cmp line h k x (not_less_ge h k e) (less_yes x k l)))

  has_interval : (low : P) (high : Option P) (x : P) → has cmp (interval cmp low high) x ≡ (is_ge (cmp x low) && under cmp high x)
  has_interval low high x = by (under cmp high low) refl
    where
      none : (o : Option P) → under cmp o low ≡ false → false ≡ (is_ge (cmp x low) && under cmp o x)
      none None e = cc
      none (Some h) e = empty (is_ge (cmp x low)) refl
        where
          not_under : is_ge (cmp x low) ≡ true → false ≡ is_lt (cmp x h)
          not_under g = sym (lt_not_ge (cmp x h) ∙ ap not (ge_trans cmp line x low h g (not_less_ge low h e)))

          empty : (b : Bool) → is_ge (cmp x low) ≡ b → false ≡ (b && is_lt (cmp x h))
          empty true g = not_under g
          empty false g = refl

      by : (b : Bool) → under cmp high low ≡ b → has cmp (cond b (record { low = low; high = high } ∷ []) []) x ≡ (is_ge (cmp x low) && under cmp high x)
      by true e = or_false _
      by false e = none high e

  has_piece : (s t : Span P) (x : P) → has cmp (piece cmp s t) x ≡ (in_span cmp s x && in_span cmp t x)
  has_piece s t x = has_interval (later cmp s.low t.low) (sooner cmp s.high t.high) x
      ∙ ap (λ b. b && under cmp (sooner cmp s.high t.high) x) (ge_later s.low t.low x)
      ∙ ap (λ b. (is_ge (cmp x s.low) && is_ge (cmp x t.low)) && b) (under_sooner s.high t.high x)
      ∙ swap_and (is_ge (cmp x s.low)) (under cmp s.high x) (is_ge (cmp x t.low)) (under cmp t.high x)

  has_clip : (s : Span P) (ts : List (Span P)) (x : P) → has cmp (clip cmp s ts) x ≡ (in_span cmp s x && has cmp ts x)
  has_clip s [] x = by (in_span cmp s x)
    where
      by : (b : Bool) → false ≡ (b && false)
      by true = refl
      by false = refl
  has_clip s (t ∷ ts) x = has-append valid cmp line (piece cmp s t) (clip cmp s ts) x
      ∙ ap (λ b. b || has cmp (clip cmp s ts) x) (has_piece s t x) ∙ ap (λ b. (in_span cmp s x && in_span cmp t x) || b) (has_clip s ts x)
      ∙ by (in_span cmp s x) (in_span cmp t x) (has cmp ts x)
    where
      by : (a b c : Bool) → ((a && b) || (a && c)) ≡ (a && (b || c))
      by true b c = refl
      by false b c = refl

  pub has_cross : (ss ts : List (Span P)) (x : P) → has cmp (cross cmp ss ts) x ≡ (has cmp ss x && has cmp ts x)
  has_cross [] ts x = refl
  has_cross (s ∷ ss) ts x = has-append valid cmp line (clip cmp s ts) (cross cmp ss ts) x
      ∙ ap (λ b. b || has cmp (cross cmp ss ts) x) (has_clip s ts x) ∙ ap (λ b. (in_span cmp s x && has cmp ts x) || b) (has_cross ss ts x)
      ∙ by (in_span cmp s x) (has cmp ss x) (has cmp ts x)
    where
      by : (a b c : Bool) → ((a && c) || (b && c)) ≡ ((a || b) && c)
      by true true c = tt_or c
        where
          tt_or : (c : Bool) → (c || c) ≡ c
          tt_or true = refl
          tt_or false = refl
      by true false c = or_false c
      by false b c = refl

  -- every interval of the list ends below q, and the list starts at p or above it
  abbrev Ends : List (Span P) → P → Type 0
  Ends l q = AllByRecursion (λ (s : Span P). EndsBelow cmp s.high q) l

  abbrev pub From : P → List (Span P) → Type 0
  From p [] = Unit {0}
  From p (s ∷ ss) = is_ge (cmp s.low p) ≡ true

  ends_later : (o : Option P) (q r : P) → EndsBelow cmp o q → is_ge (cmp r q) ≡ true → EndsBelow cmp o r
  ends_later None q r e g = absurd e
  ends_later (Some h) q r e g = less_after cmp line r q h g e

  join : (as' bs : List (Span P)) → IsCanonical valid cmp as' → IsCanonical valid cmp bs → ((b : Span P) (more : List (Span P)) → bs ≡ b ∷ more → Ends as' b.low) → IsCanonical valid cmp (as' ++ bs)
  join [] bs ca cb e = cb
  join (a ∷ []) [] ca cb e = ca
  join (a ∷ []) (b ∷ bs) ca cb e = (ca, (e b bs refl).0, cb)
  join (a ∷ x ∷ xs) bs ca cb e = (ca.0, ca.1, join (x ∷ xs) bs ca.2 cb (λ b more is. (e b more is).1))

  ends_both : (as' bs : List (Span P)) (q : P) → Ends as' q → Ends bs q → Ends (as' ++ bs) q
  ends_both [] bs q h g = g
  ends_both (a ∷ as') bs q h g = (h.0, ends_both as' bs q h.1 g)

  from_both : (as' bs : List (Span P)) (p : P) → From p as' → From p bs → From p (as' ++ bs)
  from_both [] bs p h g = g
  from_both (a ∷ as') bs p h g = h

  from_lower : (l : List (Span P)) (p q : P) → is_ge (cmp q p) ≡ true → From q l → From p l
  from_lower [] p q g f = tt
  from_lower (s ∷ ss) p q g f = ge_trans cmp line s.low q p f g

  IsValid : Option P → Type 0
  IsValid None = Unit {0}
  IsValid (Some h) = valid h

  end_valid : (l : P) (o : Option P) → IsEnd valid cmp l o → IsValid o
  unfolding IsValid
  end_valid l None e = tt
  end_valid l (Some h) e = e.0

  sooner_valid : (h k : Option P) → IsValid h → IsValid k → IsValid (sooner cmp h k)
  unfolding IsValid
  sooner_valid None k v w = w
  sooner_valid (Some h) None v w = v
  sooner_valid (Some h) (Some k) v w = by (is_lt (cmp h k))
    where
      by : (b : Bool) → IsValid (cond b (Some h) (Some k))
      by true = v
      by false = w

  later_valid : (a b : P) → valid a → valid b → valid (later cmp a b)
  later_valid a b v w = by (is_lt (cmp a b))
    where
      by : (c : Bool) → valid (cond c b a)
      by true = w
      by false = v

  ends_left : (h k : Option P) (q : P) → EndsBelow cmp h q → EndsBelow cmp (sooner cmp h k) q
  ends_left None k q e = absurd e
  ends_left (Some h) None q e = e
  ends_left (Some h) (Some k) q e = by (is_lt (cmp h k)) refl
    where
      by : (b : Bool) → is_lt (cmp h k) ≡ b → EndsBelow cmp (cond b (Some h) (Some k)) q
      by true l = e
      by false l = less_before cmp line k h q (not_less_ge h k l) e

  ends_right : (h k : Option P) (q : P) → EndsBelow cmp k q → EndsBelow cmp (sooner cmp h k) q
  ends_right None k q e = e
  ends_right (Some h) None q e = absurd e
  ends_right (Some h) (Some k) q e = by (is_lt (cmp h k)) refl
    where
      by : (b : Bool) → is_lt (cmp h k) ≡ b → EndsBelow cmp (cond b (Some h) (Some k)) q
      by true l = line.total.trans h k q (less_yes h k l) e
      by false l = e

  pub later_left : (a b : P) → is_ge (cmp (later cmp a b) a) ≡ true
  later_left a b = by (is_lt (cmp a b)) refl
    where
      by : (c : Bool) → is_lt (cmp a b) ≡ c → is_ge (cmp (cond c b a) a) ≡ true
      by true l = ge_from_less cmp line a b (less_yes a b l)
      by false l = ge_from_same cmp line a

  pub later_right : (a b : P) → is_ge (cmp (later cmp a b) b) ≡ true
  later_right a b = by (is_lt (cmp a b)) refl
    where
      by : (c : Bool) → is_lt (cmp a b) ≡ c → is_ge (cmp (cond c b a) b) ≡ true
      by true l = ge_from_same cmp line b
      by false l = not_less_ge a b l

  interval_canonical : (low : P) (high : Option P) → valid low → IsValid high → IsCanonical valid cmp (interval cmp low high)
  unfolding IsValid
  interval_canonical low high v w = by (under cmp high low) refl
    where
      end : (o : Option P) → IsValid o → under cmp o low ≡ true → IsEnd valid cmp low o
      end None x u = tt
      end (Some h) x u = (x, less_yes low h u)

      by : (b : Bool) → under cmp high low ≡ b → IsCanonical valid cmp (cond b (record { low = low; high = high } ∷ []) [])
      by true u = record { low = v; high = end high w u }
      by false u = tt

  interval_ends : (low : P) (high : Option P) (q : P) → EndsBelow cmp high q → Ends (interval cmp low high) q
  interval_ends low high q e = by (under cmp high low)
    where
      by : (b : Bool) → Ends (cond b (record { low = low; high = high } ∷ []) []) q
      by true = (e, tt)
      by false = tt

  interval_from : (low : P) (high : Option P) (p : P) → is_ge (cmp low p) ≡ true → From p (interval cmp low high)
  interval_from low high p g = by (under cmp high low)
    where
      by : (b : Bool) → From p (cond b (record { low = low; high = high } ∷ []) [])
      by true = g
      by false = tt

  piece_canonical : (s t : Span P) → IsSpan valid cmp s → IsSpan valid cmp t → IsCanonical valid cmp (piece cmp s t)
  piece_canonical s t a b = interval_canonical (later cmp s.low t.low) (sooner cmp s.high t.high) (later_valid s.low t.low a.low b.low)
      (sooner_valid s.high t.high (end_valid s.low s.high a.high) (end_valid t.low t.high b.high))

  pub from_rest : (t : Span P) (ts : List (Span P)) (p : P) → IsCanonical valid cmp (t ∷ ts) → is_ge (cmp t.low p) ≡ true → From p ts
  from_rest t [] p c g = tt
  from_rest t (u ∷ us) p c g = ge_trans cmp line u.low t.low p (ge_from_less cmp line t.low u.low (lows t.low t.high u.low c.0.high c.1)) g
    where
      lows : (l : P) (h : Option P) (q : P) → IsEnd valid cmp l h → EndsBelow cmp h q → cmp l q ≡ Less
      lows l None q e b = absurd b
      lows l (Some k) q e b = line.total.trans l k q e.1 b

  clip_from : (s : Span P) (ts : List (Span P)) (p : P) → IsCanonical valid cmp ts → From p ts → From p (clip cmp s ts)
  clip_from s [] p c f = tt
  clip_from s (t ∷ ts) p c f = from_both (piece cmp s t) (clip cmp s ts) p
      (interval_from (later cmp s.low t.low) (sooner cmp s.high t.high) p (ge_trans cmp line (later cmp s.low t.low) t.low p (later_right s.low t.low) f))
      (clip_from s ts p (rest valid cmp line t ts c) (from_rest t ts p c f))

  clip_low : (s : Span P) (ts : List (Span P)) → From s.low (clip cmp s ts)
  clip_low s [] = tt
  clip_low s (t ∷ ts) = from_both (piece cmp s t) (clip cmp s ts) s.low (interval_from (later cmp s.low t.low) (sooner cmp s.high t.high) s.low (later_left s.low t.low)) (clip_low s ts)

  clip_ends : (s : Span P) (ts : List (Span P)) (q : P) → EndsBelow cmp s.high q → Ends (clip cmp s ts) q
  clip_ends s [] q e = tt
  clip_ends s (t ∷ ts) q e = ends_both (piece cmp s t) (clip cmp s ts) q (interval_ends (later cmp s.low t.low) (sooner cmp s.high t.high) q (ends_left s.high t.high q e)) (clip_ends s ts q e)

  -- what follows t in the list starts above its end, and so does what is clipped of it
  follows : (t : Span P) (ts l : List (Span P)) → IsCanonical valid cmp (t ∷ ts) → ((p : P) → From p ts → From p l) → (ts ≡ [] → l ≡ []) → (b : Span P) (more : List (Span P)) → l ≡ b ∷ more → EndsBelow cmp t.high b.low
  follows t [] l c f n b more is = absurd (empty (sym (n refl) ∙ is))
    where
      empty : [] ≡ b ∷ more → ⊥
      empty e = cc
  follows t (u ∷ us) l c f n b more is = ends_later t.high u.low b.low c.1 (subst (λ w. From u.low w) is (f u.low (ge_from_same cmp line u.low)))

  clip_canonical : (s : Span P) (ts : List (Span P)) → IsSpan valid cmp s → IsCanonical valid cmp ts → IsCanonical valid cmp (clip cmp s ts)
  clip_canonical s [] a c = tt
  clip_canonical s (t ∷ ts) a c = join (piece cmp s t) (clip cmp s ts) (piece_canonical s t a (first valid cmp line t ts c)) (clip_canonical s ts a (rest valid cmp line t ts c))
      (λ b more is. interval_ends (later cmp s.low t.low) (sooner cmp s.high t.high) b.low (ends_right s.high t.high b.low
      (follows t ts (clip cmp s ts) c (λ p f. clip_from s ts p (rest valid cmp line t ts c) f) (λ e. ap (clip cmp s) e) b more is)))

  cross_from : (ss ts : List (Span P)) (p : P) → IsCanonical valid cmp ss → From p ss → From p (cross cmp ss ts)
  cross_from [] ts p c f = tt
  cross_from (s ∷ ss) ts p c f = from_both (clip cmp s ts) (cross cmp ss ts) p (from_lower (clip cmp s ts) p s.low f (clip_low s ts)) (cross_from ss ts p (rest valid cmp line s ss c) (from_rest s ss p c f))

  pub cross_canonical : (ss ts : List (Span P)) → IsCanonical valid cmp ss → IsCanonical valid cmp ts → IsCanonical valid cmp (cross cmp ss ts)
  cross_canonical [] ts c d = tt
  cross_canonical (s ∷ ss) ts c d = join (clip cmp s ts) (cross cmp ss ts) (clip_canonical s ts (first valid cmp line s ss c) d) (cross_canonical ss ts (rest valid cmp line s ss c) d)
      (λ b more is. clip_ends s ts b.low (follows s ss (cross cmp ss ts) c (λ p f. cross_from ss ts p (rest valid cmp line s ss c) f) (λ e. ap (λ w. cross cmp w ts) e) b more is))
