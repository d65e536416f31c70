-- Canonical lists merged: a span put behind others that start no later.
use Rattle.std.proofs.Common.{◌≡◌, Bool, true, false, cond, ◌&&◌, ◌||◌, List, [], ◌∷◌, ◌++◌, Option, Some, None, refl, sym, ap, ◌∙◌, subst, append_assoc, option_to_list, ℕ, ◌+◌, ◌<◌, ◌≤◌, length, drop, get_or}
use Rattle.std.specs.Ordering.{is_lt, is_le, is_ge, ordering_reverse}
use Rattle.std.specs.declared.cmp.Ordering.{Ordering}
use Rattle.std.specs.declared.cmp.Ordering.TheVariants.{Less, Equal, Greater}
use Rattle.interval_normal.specs.declared.set.Span.{Span}
use Rattle.interval_normal.specs.Spans.{under, in_span, has, IsEnd, IsSpan, EndsBelow, IsCanonical}
use Rattle.interval_normal.specs.Ends.{ends_before, farther, reaches}
use Rattle.interval_normal.specs.Joined.{join_two, join_last, join_all}
use Rattle.interval_normal.proofs.Order.{IsLine, greater_less, less_after, less_before, ge_from_less, ge_trans}
use Rattle.interval_normal.proofs.Unique.{first, rest}
use Rattle.interval_normal.proofs.Gaps.{or_false}
use Rattle.interval_normal.proofs.Places.{split, drop_past}

or_assoc : (a b c : Bool) → (a || (b || c)) ≡ ((a || b) || c)
or_assoc true b c = refl
or_assoc false b c = refl

or_swap : (a b c : Bool) → (a || (b || c)) ≡ (b || (a || c))
or_swap true true c = refl
or_swap true false c = refl
or_swap false b c = refl

lt_true_less : (o : Ordering) → is_lt o ≡ true → o ≡ Less
lt_true_less Less e = refl
lt_true_less Equal e = cc
lt_true_less Greater e = cc

not_lt_ge : (o : Ordering) → is_lt o ≡ false → is_ge o ≡ true
not_lt_ge Less n = cc
not_lt_ge Equal n = refl
not_lt_ge Greater n = refl

ge_not_lt : (o : Ordering) → is_ge o ≡ true → is_lt o ≡ false
ge_not_lt Less n = cc
ge_not_lt Equal n = refl
ge_not_lt Greater n = refl

not_le_greater : (o : Ordering) → is_le o ≡ false → o ≡ Greater
not_le_greater Less n = cc
not_le_greater Equal n = cc
not_le_greater Greater n = refl

-- A and B: behind the low ends; S and T: below the high ends
table : (A S B T : Bool) → (B ≡ true → A ≡ true) → (S ≡ false → B ≡ true) → ((A && (S || T)) || false) ≡ ((A && S) || (B && T))
table true true B T f g = refl
table true false true T f g = or_false T
table true false false T f g = let e : false ≡ true = g refl in cc
table false S true T f g = let e : false ≡ true = f refl in cc
table false S false T f g = refl

-- each span of the list starts at q or below it
abbrev pub UpTo : {P : Type 0} → (P → P → Ordering) → List (Span P) → P → Type 0
UpTo cmp [] q = Unit {0}
UpTo cmp (s ∷ ss) q = (is_ge (cmp q s.low) ≡ true) × UpTo cmp ss q

-- what is written starts no later than the first of what is left
abbrev pub Precedes : {P : Type 0} → (P → P → Ordering) → List (Span P) → List (Span P) → Type 0
Precedes cmp out [] = Unit {0}
Precedes cmp out (t ∷ ts) = UpTo cmp out t.low

-- what was written, and what is left of two lists
pub record Merges {P : Type 0} (valid : P → Type 0) (cmp : P → P → Ordering) (out ls rs left right : List (Span P)) : Type 0 where
  pub written : IsCanonical valid cmp out
  pub left_kept : IsCanonical valid cmp ls
  pub right_kept : IsCanonical valid cmp rs
  pub before_left : Precedes cmp out ls
  pub before_right : Precedes cmp out rs
  pub values : (x : P) → (has cmp out x || (has cmp ls x || has cmp rs x)) ≡ (has cmp left x || has cmp right x)

-- a canonical list that holds what is in one of two lists
pub record Joins {P : Type 0} (valid : P → Type 0) (cmp : P → P → Ordering) (out left right : List (Span P)) : Type 0 where
  pub canonical : IsCanonical valid cmp out
  pub values : (x : P) → has cmp out x ≡ (has cmp left x || has cmp right x)

module _ {P : Type 0} (valid : P → Type 0) (cmp : P → P → Ordering) (line : IsLine cmp) where
  join-snoc : (xs : List (Span P)) (l t : Span P) → join_last cmp (xs ++ (l ∷ [])) t ≡ xs ++ join_two cmp l t
  join-snoc [] l t = refl
  join-snoc (x ∷ []) l t = refl
  join-snoc (x ∷ y ∷ ys) l t = ap (λ m. x ∷ m) (join-snoc (y ∷ ys) l t)

  -- the last span was taken off the list, and is widened
  pub widened : (before xs out : List (Span P)) (r : Option (Span P)) (l t next : Span P) → before ≡ xs ++ option_to_list r → r ≡ Some l → out ≡ xs
      → next ≡ record { low = l.low; high = farther cmp l.high t.high } → reaches cmp l.high t.low ≡ true → out ++ (next ∷ []) ≡ join_last cmp before t
  widened before xs out r l t next e is o n h =
      let whole : before ≡ xs ++ (l ∷ []) = e ∙ ap (λ q. xs ++ option_to_list q) is in
      let two : join_two cmp l t ≡ next ∷ [] = ap (λ b. cond b (record { low = l.low; high = farther cmp l.high t.high } ∷ []) (l ∷ t ∷ [])) h ∙ ap (λ m. m ∷ []) (sym n) in
      ap (λ q. q ++ (next ∷ [])) o ∙ ap (λ q. xs ++ q) (sym two) ∙ sym (join-snoc xs l t) ∙ ap (λ q. join_last cmp q t) (sym whole)

  -- the last span was taken off the list and put back, and another behind it
  pub put_behind : (before xs out : List (Span P)) (r : Option (Span P)) (l t next : Span P) → before ≡ xs ++ option_to_list r → r ≡ Some l → out ≡ xs ++ (l ∷ [])
      → next ≡ t → reaches cmp l.high t.low ≡ false → out ++ (next ∷ []) ≡ join_last cmp before t
  put_behind before xs out r l t next e is o n h =
      let whole : before ≡ xs ++ (l ∷ []) = e ∙ ap (λ q. xs ++ option_to_list q) is in
      let two : join_two cmp l t ≡ l ∷ t ∷ [] = ap (λ b. cond b (record { low = l.low; high = farther cmp l.high t.high } ∷ []) (l ∷ t ∷ [])) h in
      ap (λ q. q ++ (next ∷ [])) o ∙ append_assoc xs (l ∷ []) (next ∷ []) ∙ ap (λ m. xs ++ (l ∷ m ∷ [])) n ∙ ap (λ q. xs ++ q) (sym two)
      ∙ sym (join-snoc xs l t) ∙ ap (λ q. join_last cmp q t) (sym whole)

  -- there was no span
  pub put_first : (before out : List (Span P)) (t next : Span P) → before ≡ [] → out ≡ [] → next ≡ t → out ++ (next ∷ []) ≡ join_last cmp before t
  put_first before out t next b o n = ap (λ q. q ++ (next ∷ [])) o ∙ ap (λ m. m ∷ []) n ∙ ap (λ q. join_last cmp q t) (sym b)

  le_ge : (a b : P) → is_le (cmp a b) ≡ true → is_ge (cmp b a) ≡ true
  le_ge a b h = ap is_ge (line.total.antisymm b a) ∙ by (cmp a b) h
    where
      by : (o : Ordering) → is_le o ≡ true → is_ge (ordering_reverse o) ≡ true
      by Less n = refl
      by Equal n = refl
      by Greater n = cc

  under_farther : (h k : Option P) (x : P) → under cmp (farther cmp h k) x ≡ (under cmp h x || under cmp k x)
  under_farther None k x = refl
  under_farther (Some h) None x = or_yes (is_lt (cmp x h))
    where
      or_yes : (b : Bool) → true ≡ (b || true)
      or_yes true = refl
      or_yes false = refl
  under_farther (Some h) (Some k) x = by (is_lt (cmp h k)) refl
    where
      right : (u v : Bool) → (u ≡ true → v ≡ true) → v ≡ (u || v)
      right true v f = f refl
      right false v f = refl

      left : (u v : Bool) → (v ≡ true → u ≡ true) → u ≡ (u || v)
      left true v f = refl
      left false true f = f refl
      left false false f = refl

      by : (c : Bool) → is_lt (cmp h k) ≡ c → under cmp (cond c (Some k) (Some h)) x ≡ (is_lt (cmp x h) || is_lt (cmp x k))
      by true e = right _ _ (λ l. ap is_lt (line.total.trans x h k (lt_true_less (cmp x h) l) (lt_true_less (cmp h k) e)))
      by false e = left _ _ (λ l. ap is_lt (less_after cmp line h k x (not_lt_ge (cmp h k) e) (lt_true_less (cmp x k) l)))

  -- what is not below the end of a span that reaches low is not below low
  past_reach : (o : Option P) (low x : P) → reaches cmp o low ≡ true → under cmp o x ≡ false → is_ge (cmp x low) ≡ true
  past_reach None low x r u = cc
  past_reach (Some h) low x r u = ge_trans cmp line x h low (not_lt_ge (cmp x h) u) (le_ge low h r)

  two_has : (s t : Span P) (x : P) → is_ge (cmp t.low s.low) ≡ true → has cmp (join_two cmp s t) x ≡ (in_span cmp s x || in_span cmp t x)
  two_has s t x g = by (reaches cmp s.high t.low) refl
    where
      by : (b : Bool) → reaches cmp s.high t.low ≡ b → has cmp (cond b (record { low = s.low; high = farther cmp s.high t.high } ∷ []) (s ∷ t ∷ [])) x ≡ (in_span cmp s x || in_span cmp t x)
      by true r = ap (λ b. (is_ge (cmp x s.low) && b) || false) (under_farther s.high t.high x)
          ∙ table (is_ge (cmp x s.low)) (under cmp s.high x) (is_ge (cmp x t.low)) (under cmp t.high x) (λ h. ge_trans cmp line x t.low s.low h g) (past_reach s.high t.low x r)
      by false r = ap (λ b. in_span cmp s x || b) (or_false (in_span cmp t x))

  end_from : (l m : P) (o : Option P) → is_ge (cmp m l) ≡ true → IsEnd valid cmp m o → IsEnd valid cmp l o
  end_from l m None g e = tt
  end_from l m (Some h) g e = (e.0, less_before cmp line l m h g e.1)

  end_farther : (l : P) (h k : Option P) → IsEnd valid cmp l h → IsEnd valid cmp l k → IsEnd valid cmp l (farther cmp h k)
  end_farther l h k a b = by (ends_before cmp h k)
    where
      by : (c : Bool) → IsEnd valid cmp l (cond c k h)
      by true = b
      by false = a

  apart : (o : Option P) (q : P) → reaches cmp o q ≡ false → EndsBelow cmp o q
  apart None q r = cc
  apart (Some h) q r = greater_less cmp line q h (not_le_greater (cmp q h) r)

  two_canonical : (s t : Span P) → IsSpan valid cmp s → IsSpan valid cmp t → is_ge (cmp t.low s.low) ≡ true → IsCanonical valid cmp (join_two cmp s t)
  two_canonical s t a b g = by (reaches cmp s.high t.low) refl
    where
      by : (c : Bool) → reaches cmp s.high t.low ≡ c → IsCanonical valid cmp (cond c (record { low = s.low; high = farther cmp s.high t.high } ∷ []) (s ∷ t ∷ []))
      by true r = record { low = a.low; high = end_farther s.low s.high t.high a.high (end_from s.low t.low t.high g b.high) }
      by false r = (a, apart s.high t.low r, b)

  last_has : (out : List (Span P)) (t : Span P) (x : P) → UpTo cmp out t.low → has cmp (join_last cmp out t) x ≡ (has cmp out x || in_span cmp t x)
  last_has [] t x u = or_false (in_span cmp t x)
  last_has (s ∷ []) t x u = two_has s t x u.0 ∙ ap (λ b. b || in_span cmp t x) (sym (or_false (in_span cmp s x)))
  last_has (s ∷ w ∷ ws) t x u = ap (λ b. in_span cmp s x || b) (last_has (w ∷ ws) t x u.1) ∙ or_assoc (in_span cmp s x) (has cmp (w ∷ ws) x) (in_span cmp t x)

  cons_last : (s w : Span P) (ws : List (Span P)) (t : Span P) → IsSpan valid cmp s → EndsBelow cmp s.high w.low → IsCanonical valid cmp (join_last cmp (w ∷ ws) t) → IsCanonical valid cmp (s ∷ join_last cmp (w ∷ ws) t)
  cons_last s w [] t a e c = by (reaches cmp w.high t.low) c
    where
      by : (b : Bool) → IsCanonical valid cmp (cond b (record { low = w.low; high = farther cmp w.high t.high } ∷ []) (w ∷ t ∷ []))
          → IsCanonical valid cmp (s ∷ cond b (record { low = w.low; high = farther cmp w.high t.high } ∷ []) (w ∷ t ∷ []))
      by true c = (a, e, c)
      by false c = (a, e, c)
  cons_last s w (v ∷ vs) t a e c = (a, e, c)

  last_canonical : (out : List (Span P)) (t : Span P) → IsCanonical valid cmp out → IsSpan valid cmp t → UpTo cmp out t.low → IsCanonical valid cmp (join_last cmp out t)
  last_canonical [] t c b u = b
  last_canonical (s ∷ []) t c b u = two_canonical s t c b u.0
  last_canonical (s ∷ w ∷ ws) t c b u = cons_last s w ws t c.0 c.1 (last_canonical (w ∷ ws) t c.2 b u.1)

  last_up_to : (out : List (Span P)) (t : Span P) (q : P) → UpTo cmp out t.low → is_ge (cmp q t.low) ≡ true → UpTo cmp (join_last cmp out t) q
  last_up_to [] t q u g = (g, tt)
  last_up_to (s ∷ []) t q u g = by (reaches cmp s.high t.low)
    where
      by : (b : Bool) → UpTo cmp (cond b (record { low = s.low; high = farther cmp s.high t.high } ∷ []) (s ∷ t ∷ [])) q
      by true = (ge_trans cmp line q t.low s.low g u.0, tt)
      by false = (ge_trans cmp line q t.low s.low g u.0, (g, tt))
  last_up_to (s ∷ w ∷ ws) t q u g = (ge_trans cmp line q t.low s.low g u.0, last_up_to (w ∷ ws) t q u.1 g)

  lows : (l : P) (h : Option P) (q : P) → IsEnd valid cmp l h → EndsBelow cmp h q → cmp l q ≡ Less
  lows l None q e b = absurd b
  lows l (Some k) q e b = line.total.trans l k q e.1 b

  precedes_rest : (out : List (Span P)) (t : Span P) (ts : List (Span P)) → IsCanonical valid cmp (t ∷ ts) → UpTo cmp out t.low → Precedes cmp (join_last cmp out t) ts
  precedes_rest out t [] c u = tt
  precedes_rest out t (v ∷ vs) c u = last_up_to out t v.low u (ge_from_less cmp line t.low v.low (lows t.low t.high v.low c.0.high c.1))

  all_canonical : (out ts : List (Span P)) → IsCanonical valid cmp out → IsCanonical valid cmp ts → Precedes cmp out ts → IsCanonical valid cmp (join_all cmp out ts)
  all_canonical out [] c d u = c
  all_canonical out (t ∷ ts) c d u = all_canonical (join_last cmp out t) ts (last_canonical out t c (first valid cmp line t ts d) u) (rest valid cmp line t ts d) (precedes_rest out t ts d u)

  all_has : (out ts : List (Span P)) (x : P) → IsCanonical valid cmp ts → Precedes cmp out ts → has cmp (join_all cmp out ts) x ≡ (has cmp out x || has cmp ts x)
  all_has out [] x d u = sym (or_false (has cmp out x))
  all_has out (t ∷ ts) x d u = all_has (join_last cmp out t) ts x (rest valid cmp line t ts d) (precedes_rest out t ts d u)
      ∙ ap (λ b. b || has cmp ts x) (last_has out t x u) ∙ sym (or_assoc (has cmp out x) (in_span cmp t x) (has cmp ts x))

  pub take_left : (out : List (Span P)) (l : Span P) (ls : List (Span P)) (r : Span P) (rs left right : List (Span P)) → is_lt (cmp l.low r.low) ≡ true
      → Merges valid cmp out (l ∷ ls) (r ∷ rs) left right → Merges valid cmp (join_last cmp out l) ls (r ∷ rs) left right
  take_left out l ls r rs left right lt m = record {
    written = last_canonical out l m.written (first valid cmp line l ls m.left_kept) m.before_left;
    left_kept = rest valid cmp line l ls m.left_kept;
    right_kept = m.right_kept;
    before_left = precedes_rest out l ls m.left_kept m.before_left;
    before_right = last_up_to out l r.low m.before_left (ge_from_less cmp line l.low r.low (lt_true_less (cmp l.low r.low) lt));
    values = λ x. ap (λ b. b || (has cmp ls x || has cmp (r ∷ rs) x)) (last_has out l x m.before_left)
        ∙ sym (or_assoc (has cmp out x) (in_span cmp l x) (has cmp ls x || has cmp (r ∷ rs) x))
        ∙ ap (λ b. has cmp out x || b) (or_assoc (in_span cmp l x) (has cmp ls x) (has cmp (r ∷ rs) x)) ∙ m.values x;
  }

  pub take_right : (out : List (Span P)) (l : Span P) (ls : List (Span P)) (r : Span P) (rs left right : List (Span P)) → is_lt (cmp l.low r.low) ≡ false
      → Merges valid cmp out (l ∷ ls) (r ∷ rs) left right → Merges valid cmp (join_last cmp out r) (l ∷ ls) rs left right
  take_right out l ls r rs left right lt m = record {
    written = last_canonical out r m.written (first valid cmp line r rs m.right_kept) m.before_right;
    left_kept = m.left_kept;
    right_kept = rest valid cmp line r rs m.right_kept;
    before_left = last_up_to out r l.low m.before_right (not_lt_ge (cmp l.low r.low) lt);
    before_right = precedes_rest out r rs m.right_kept m.before_right;
    values = λ x. ap (λ b. b || (has cmp (l ∷ ls) x || has cmp rs x)) (last_has out r x m.before_right)
        ∙ sym (or_assoc (has cmp out x) (in_span cmp r x) (has cmp (l ∷ ls) x || has cmp rs x))
        ∙ ap (λ b. has cmp out x || b) (or_swap (in_span cmp r x) (has cmp (l ∷ ls) x) (has cmp rs x)) ∙ m.values x;
  }

  pub start : (left right : List (Span P)) → IsCanonical valid cmp left → IsCanonical valid cmp right → Merges valid cmp [] left right left right
  start left right c d = record { written = tt; left_kept = c; right_kept = d; before_left = nothing left; before_right = nothing right; values = λ x. refl }
    where
      nothing : (ts : List (Span P)) → Precedes cmp [] ts
      nothing [] = tt
      nothing (t ∷ ts) = tt

  pub left_over : (out rs left right : List (Span P)) → Merges valid cmp out [] rs left right → Joins valid cmp (join_all cmp (join_all cmp out []) rs) left right
  left_over out rs left right m = record {
    canonical = all_canonical out rs m.written m.right_kept m.before_right;
    values = λ x. all_has out rs x m.right_kept m.before_right ∙ m.values x;
  }

  pub right_over : (out ls left right : List (Span P)) → Merges valid cmp out ls [] left right → Joins valid cmp (join_all cmp (join_all cmp out ls) []) left right
  right_over out ls left right m = record {
    canonical = all_canonical out ls m.written m.left_kept m.before_left;
    values = λ x. all_has out ls x m.left_kept m.before_left ∙ ap (λ b. has cmp out x || b) (sym (or_false (has cmp ls x))) ∙ m.values x;
  }

  -- one step of the merge, past s
  pub step_left : (left right out more : List (Span P)) (i j : ℕ) (s t : Span P) → i < length left → s ≡ get_or left i s → j < length right → t ≡ get_or right j t
      → is_lt (cmp s.low t.low) ≡ true → more ≡ join_last cmp out s → Merges valid cmp out (drop i left) (drop j right) left right → Merges valid cmp more (drop (i + 1) left) (drop j right) left right
  step_left left right out more i j s t l is m it lt n w =
      let dl = split left i s l is in
      let dr = split right j t m it in
      let here : Merges valid cmp out (s ∷ drop (i + 1) left) (t ∷ drop (j + 1) right) left right = subst (λ q. Merges valid cmp out q (t ∷ drop (j + 1) right) left right) dl (subst (λ q. Merges valid cmp out (drop i left) q left right) dr w) in
      subst (λ q. Merges valid cmp q (drop (i + 1) left) (drop j right) left right) (sym n)
      (subst (λ q. Merges valid cmp (join_last cmp out s) (drop (i + 1) left) q left right) (sym dr) (take_left out s (drop (i + 1) left) t (drop (j + 1) right) left right lt here))

  -- one step of the merge, past t
  pub step_right : (left right out more : List (Span P)) (i j : ℕ) (s t : Span P) → i < length left → s ≡ get_or left i s → j < length right → t ≡ get_or right j t
      → is_lt (cmp s.low t.low) ≡ false → more ≡ join_last cmp out t → Merges valid cmp out (drop i left) (drop j right) left right → Merges valid cmp more (drop i left) (drop (j + 1) right) left right
  step_right left right out more i j s t l is m it lt n w =
      let dl = split left i s l is in
      let dr = split right j t m it in
      let here : Merges valid cmp out (s ∷ drop (i + 1) left) (t ∷ drop (j + 1) right) left right = subst (λ q. Merges valid cmp out q (t ∷ drop (j + 1) right) left right) dl (subst (λ q. Merges valid cmp out (drop i left) q left right) dr w) in
      subst (λ q. Merges valid cmp q (drop i left) (drop (j + 1) right) left right) (sym n)
      (subst (λ q. Merges valid cmp (join_last cmp out t) q (drop (j + 1) right) left right) (sym dl) (take_right out s (drop (i + 1) left) t (drop (j + 1) right) left right lt here))

  -- the merge ends where one of the lists does, and takes the rest of the other
  pub left_done : (left right out : List (Span P)) (i j : ℕ) → length left ≤ i → Merges valid cmp out (drop i left) (drop j right) left right
      → Joins valid cmp (join_all cmp (join_all cmp out (drop i left)) (drop j right)) left right
  left_done left right out i j l w =
      let e = drop_past left i l in
      subst (λ q. Joins valid cmp (join_all cmp (join_all cmp out q) (drop j right)) left right) (sym e) (left_over out (drop j right) left right (subst (λ q. Merges valid cmp out q (drop j right) left right) e w))

  pub right_done : (left right out : List (Span P)) (i j : ℕ) → length right ≤ j → Merges valid cmp out (drop i left) (drop j right) left right
      → Joins valid cmp (join_all cmp (join_all cmp out (drop i left)) (drop j right)) left right
  right_done left right out i j l w =
      let e = drop_past right j l in
      subst (λ q. Joins valid cmp (join_all cmp (join_all cmp out (drop i left)) q) left right) (sym e) (right_over out (drop i left) left right (subst (λ q. Merges valid cmp out (drop i left) q left right) e w))
