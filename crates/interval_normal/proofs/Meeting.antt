-- Of two lists of spans, what is left to compare once the first spans were compared.
use Rattle.std.proofs.Common.{◌≡◌, Bool, true, false, not, cond, ◌&&◌, List, [], ◌∷◌, ◌++◌, Option, Some, None, refl, sym, ap, ◌∙◌, subst, append_assoc, ℕ, ◌+◌, ◌<◌, ◌≤◌, length, drop, get_or}
use Rattle.std.proofs.lemmas.List.{append-nil}
use Rattle.std.specs.Ordering.{is_lt, is_ge}
use Rattle.std.specs.declared.cmp.Ordering.{Ordering}
use Rattle.std.specs.declared.cmp.Ordering.TheVariants.{Less, Equal, Greater}
use Rattle.interval_normal.specs.declared.set.Span.{Span}
use Rattle.interval_normal.specs.Spans.{under, IsCanonical, EndsBelow}
use Rattle.interval_normal.specs.Ends.{ends_before, sooner, later}
use Rattle.interval_normal.specs.Cross.{piece, clip, cross}
use Rattle.interval_normal.proofs.Order.{IsLine, ge_from_less, ge_trans, lt_not_ge}
use Rattle.interval_normal.proofs.Unique.{rest}
use Rattle.interval_normal.proofs.Places.{split, drop_past, drop_canonical}
use Rattle.interval_normal.proofs.Crossing.{under_sooner, later_left, later_right, From, from_rest}

and_no : (b c : Bool) → c ≡ false → (b && c) ≡ false
and_no true c e = e
and_no false c e = refl

lt_false_ge : (o : Ordering) → is_lt o ≡ false → is_ge o ≡ true
lt_false_ge Less e = cc
lt_false_ge Equal e = refl
lt_false_ge Greater e = refl

lt_true_less : (o : Ordering) → is_lt o ≡ true → o ≡ Less
lt_true_less Less e = refl
lt_true_less Equal e = cc
lt_true_less Greater e = cc

module _ {P : Type 0} (valid : P → Type 0) (cmp : P → P → Ordering) (line : IsLine cmp) where
  not_under : (x a : P) → is_ge (cmp x a) ≡ true → is_lt (cmp x a) ≡ false
  not_under x a g = lt_not_ge (cmp x a) ∙ ap not g

  no_piece : (s t : Span P) → under cmp (sooner cmp s.high t.high) (later cmp s.low t.low) ≡ false → piece cmp s t ≡ []
  no_piece s t e = ap (λ b. cond b (record { low = later cmp s.low t.low; high = sooner cmp s.high t.high } ∷ []) []) e

  -- t starts where s ended, or behind
  piece_behind : (s t : Span P) (a : P) → s.high ≡ Some a → is_ge (cmp t.low a) ≡ true → piece cmp s t ≡ []
  piece_behind s t a e g =
      let x = later cmp s.low t.low in
      let at : under cmp s.high x ≡ false = ap (λ o. under cmp o x) e ∙ not_under x a (ge_trans cmp line x t.low a (later_right valid cmp line s.low t.low) g) in
      no_piece s t (under_sooner valid cmp line s.high t.high x ∙ ap (λ b. b && under cmp t.high x) at)

  -- s starts where t ended, or behind
  piece_before : (s t : Span P) (b : P) → t.high ≡ Some b → is_ge (cmp s.low b) ≡ true → piece cmp s t ≡ []
  piece_before s t b e g =
      let x = later cmp s.low t.low in
      let at : under cmp t.high x ≡ false = ap (λ o. under cmp o x) e ∙ not_under x b (ge_trans cmp line x s.low b (later_left valid cmp line s.low t.low) g) in
      no_piece s t (under_sooner valid cmp line s.high t.high x ∙ and_no (under cmp s.high x) (under cmp t.high x) at)

  clip_behind : (s : Span P) (ts : List (Span P)) (a : P) → s.high ≡ Some a → IsCanonical valid cmp ts → From valid cmp line a ts → clip cmp s ts ≡ []
  clip_behind s [] a e c f = refl
  clip_behind s (t ∷ ts) a e c f = ap (λ l. l ++ clip cmp s ts) (piece_behind s t a e f) ∙ clip_behind s ts a e (rest valid cmp line t ts c) (from_rest valid cmp line t ts a c f)

  cross_behind : (ss : List (Span P)) (t : Span P) (ts : List (Span P)) (b : P) → t.high ≡ Some b → IsCanonical valid cmp ss → From valid cmp line b ss → cross cmp ss (t ∷ ts) ≡ cross cmp ss ts
  cross_behind [] t ts b e c f = refl
  cross_behind (s ∷ ss) t ts b e c f =
      ap (λ l. (l ++ clip cmp s ts) ++ cross cmp ss (t ∷ ts)) (piece_before s t b e f)
      ∙ ap (λ l. clip cmp s ts ++ l) (cross_behind ss t ts b e (rest valid cmp line s ss c) (from_rest valid cmp line s ss b c f))

  -- what follows a span that ends starts behind its end
  behind : (s : Span P) (ss : List (Span P)) (a : P) → IsCanonical valid cmp (s ∷ ss) → s.high ≡ Some a → From valid cmp line a ss
  behind s [] a c e = tt
  behind s (u ∷ us) a c e = ge_from_less cmp line a u.low (subst (λ o. EndsBelow cmp o u.low) e c.1)

  -- nothing follows a span without an end
  last_of_all : (s : Span P) (ss : List (Span P)) → IsCanonical valid cmp (s ∷ ss) → s.high ≡ None → ss ≡ []
  last_of_all s [] c e = refl
  last_of_all s (u ∷ us) c e = absurd (subst (λ o. EndsBelow cmp o u.low) e c.1)

  from_sooner : (a b : P) (ss : List (Span P)) → is_ge (cmp b a) ≡ true → From valid cmp line b ss → From valid cmp line a ss
  from_sooner a b [] g f = tt
  from_sooner a b (s ∷ ss) g f = ge_trans cmp line s.low b a f g

  pub cross-nil : (ss : List (Span P)) → cross cmp ss [] ≡ []
  cross-nil [] = refl
  cross-nil (s ∷ ss) = cross-nil ss

  no_clip_cross : (s t : Span P) (ss ts : List (Span P)) → clip cmp s ts ≡ [] → cross cmp (s ∷ ss) (t ∷ ts) ≡ piece cmp s t ++ cross cmp ss (t ∷ ts)
  no_clip_cross s t ss ts e = ap (λ l. (piece cmp s t ++ l) ++ cross cmp ss (t ∷ ts)) e ∙ ap (λ l. l ++ cross cmp ss (t ∷ ts)) (append-nil (piece cmp s t))

  -- s ends first: it has nothing in common with what follows t
  pub cross_first : (s t : Span P) (ss ts : List (Span P)) → IsCanonical valid cmp (s ∷ ss) → IsCanonical valid cmp (t ∷ ts) → ends_before cmp s.high t.high ≡ true
      → cross cmp (s ∷ ss) (t ∷ ts) ≡ piece cmp s t ++ cross cmp ss (t ∷ ts)
  cross_first s t ss ts c d e = no_clip_cross s t ss ts (by s.high t.high refl refl e)
    where
      by : (h k : Option P) → s.high ≡ h → t.high ≡ k → ends_before cmp h k ≡ true → clip cmp s ts ≡ []
      by None k eh ek b = cc
      by (Some a) None eh ek b = ap (clip cmp s) (last_of_all t ts d ek)
      by (Some a) (Some k) eh ek b = clip_behind s ts a eh (rest valid cmp line t ts d) (from_sooner a k ts (ge_from_less cmp line a k (lt_true_less (cmp a k) b)) (behind t ts k d ek))

  regroup : (s t : Span P) (ss ts : List (Span P)) → cross cmp ss (t ∷ ts) ≡ cross cmp ss ts → cross cmp (s ∷ ss) (t ∷ ts) ≡ piece cmp s t ++ cross cmp (s ∷ ss) ts
  regroup s t ss ts e = ap (λ l. (piece cmp s t ++ clip cmp s ts) ++ l) e ∙ append_assoc (piece cmp s t) (clip cmp s ts) (cross cmp ss ts)

  -- s does not end first: what follows it has nothing in common with t
  pub cross_second : (s t : Span P) (ss ts : List (Span P)) → IsCanonical valid cmp (s ∷ ss) → IsCanonical valid cmp (t ∷ ts) → ends_before cmp s.high t.high ≡ false
      → cross cmp (s ∷ ss) (t ∷ ts) ≡ piece cmp s t ++ cross cmp (s ∷ ss) ts
  cross_second s t ss ts c d e = regroup s t ss ts (by s.high t.high refl refl e)
    where
      by : (h k : Option P) → s.high ≡ h → t.high ≡ k → ends_before cmp h k ≡ false → cross cmp ss (t ∷ ts) ≡ cross cmp ss ts
      by None k eh ek b = ap (λ l. cross cmp l (t ∷ ts)) (last_of_all s ss c eh) ∙ sym (ap (λ l. cross cmp l ts) (last_of_all s ss c eh))
      by (Some a) None eh ek b = cc
      by (Some a) (Some k) eh ek b = cross_behind ss t ts k ek (rest valid cmp line s ss c) (from_sooner k a ss (lt_false_ge (cmp a k) b) (behind s ss a c eh))

  step : (left right : List (Span P)) (i j : ℕ) (s t : Span P) → IsCanonical valid cmp left → IsCanonical valid cmp right → i < length left → s ≡ get_or left i s → j < length right → t ≡ get_or right j t
      → (IsCanonical valid cmp (s ∷ drop (i + 1) left) × (drop i left ≡ s ∷ drop (i + 1) left)) × (IsCanonical valid cmp (t ∷ drop (j + 1) right) × (drop j right ≡ t ∷ drop (j + 1) right))
  step left right i j s t c d l is m it =
      let dl = split left i s l is in
      let dr = split right j t m it in
      ((subst (λ l. IsCanonical valid cmp l) dl (drop_canonical valid cmp line left i c), dl), (subst (λ l. IsCanonical valid cmp l) dr (drop_canonical valid cmp line right j d), dr))

  -- one step of the walk, past s
  pub step_first : (left right out more whole : List (Span P)) (i j : ℕ) (s t : Span P) → IsCanonical valid cmp left → IsCanonical valid cmp right
      → i < length left → s ≡ get_or left i s → j < length right → t ≡ get_or right j t → ends_before cmp s.high t.high ≡ true → more ≡ out ++ piece cmp s t
      → out ++ cross cmp (drop i left) (drop j right) ≡ whole → more ++ cross cmp (drop (i + 1) left) (drop j right) ≡ whole
  step_first left right out more whole i j s t c d l is m it e n w =
      let both = step left right i j s t c d l is m it in
      let dl = both.0.1 in
      let dr = both.1.1 in
      ap (λ q. q ++ cross cmp (drop (i + 1) left) (drop j right)) n ∙ append_assoc out (piece cmp s t) (cross cmp (drop (i + 1) left) (drop j right))
      ∙ ap (λ q. out ++ (piece cmp s t ++ cross cmp (drop (i + 1) left) q)) dr
      ∙ ap (λ q. out ++ q) (sym (cross_first s t (drop (i + 1) left) (drop (j + 1) right) both.0.0 both.1.0 e))
      ∙ ap (λ q. out ++ cross cmp q (t ∷ drop (j + 1) right)) (sym dl) ∙ ap (λ q. out ++ cross cmp (drop i left) q) (sym dr) ∙ w

  -- one step of the walk, past t
  pub step_second : (left right out more whole : List (Span P)) (i j : ℕ) (s t : Span P) → IsCanonical valid cmp left → IsCanonical valid cmp right
      → i < length left → s ≡ get_or left i s → j < length right → t ≡ get_or right j t → ends_before cmp s.high t.high ≡ false → more ≡ out ++ piece cmp s t
      → out ++ cross cmp (drop i left) (drop j right) ≡ whole → more ++ cross cmp (drop i left) (drop (j + 1) right) ≡ whole
  step_second left right out more whole i j s t c d l is m it e n w =
      let both = step left right i j s t c d l is m it in
      let dl = both.0.1 in
      let dr = both.1.1 in
      ap (λ q. q ++ cross cmp (drop i left) (drop (j + 1) right)) n ∙ append_assoc out (piece cmp s t) (cross cmp (drop i left) (drop (j + 1) right))
      ∙ ap (λ q. out ++ (piece cmp s t ++ cross cmp q (drop (j + 1) right))) dl
      ∙ ap (λ q. out ++ q) (sym (cross_second s t (drop (i + 1) left) (drop (j + 1) right) both.0.0 both.1.0 e))
      ∙ ap (λ q. out ++ cross cmp q (t ∷ drop (j + 1) right)) (sym dl) ∙ ap (λ q. out ++ cross cmp (drop i left) q) (sym dr) ∙ w

  -- the walk ends where one of the lists does
  pub left_done : (left right out whole : List (Span P)) (i j : ℕ) → length left ≤ i → out ++ cross cmp (drop i left) (drop j right) ≡ whole → out ≡ whole
  left_done left right out whole i j l w = sym (append-nil out) ∙ ap (λ q. out ++ cross cmp q (drop j right)) (sym (drop_past left i l)) ∙ w

  pub right_done : (left right out whole : List (Span P)) (i j : ℕ) → length right ≤ j → out ++ cross cmp (drop i left) (drop j right) ≡ whole → out ≡ whole
  right_done left right out whole i j l w = sym (append-nil out) ∙ ap (λ q. out ++ q) (sym (cross-nil (drop i left))) ∙ ap (λ q. out ++ cross cmp (drop i left) q) (sym (drop_past right j l)) ∙ w
