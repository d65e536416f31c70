-- A value sought in a canonical list: the last span that starts at it or below decides.
use Rattle.std.proofs.Common.{◌≡◌, ℕ, zero, suc, ◌<◌, ◌≤◌, Bool, true, false, ◌&&◌, ◌||◌, List, [], ◌∷◌, Option, Some, None, length, get_or, slice_index_or, refl, sym, ap, ◌∙◌, arith}
use Rattle.std.specs.List.{AllWithin}
use Rattle.std.specs.Ordering.{is_lt, is_ge}
use Rattle.std.specs.declared.cmp.Ordering.{Ordering}
use Rattle.std.specs.declared.cmp.Ordering.TheVariants.{Less, Equal, Greater}
use Rattle.interval_normal.specs.declared.set.Span.{Span}
use Rattle.interval_normal.specs.Spans.{under, has, IsEnd, EndsBelow, IsCanonical}
use Rattle.interval_normal.proofs.Order.{IsLine, ge_from_less, ge_trans}
use Rattle.interval_normal.proofs.Unique.{rest}
use Rattle.interval_normal.proofs.Gaps.{or_false}

module _ {P : Type 0} (valid : P → Type 0) (cmp : P → P → Ordering) (line : IsLine cmp) where
  -- none of the spans from a place on has started
  abbrev pub AreLater : P → List (Span P) → ℕ → Type 0
  AreLater x spans i = AllWithin (λ (s : Span P). is_ge (cmp x s.low) ≡ false) spans i (length spans)

  -- the spans below a place have started
  abbrev pub AreStarted : P → List (Span P) → ℕ → Type 0
  AreStarted x spans i = AllWithin (λ (s : Span P). is_ge (cmp x s.low) ≡ true) spans 0 i

  pub none_started : (spans : List (Span P)) (x : P) → AreLater x spans 0 → has cmp spans x ≡ false
  none_started [] x h = refl
  none_started (s ∷ ss) x h = ap (λ b. (b && under cmp s.high x) || has cmp ss x) (h 0 s (omega arith) (omega arith)) ∙ none_started ss x (λ k d l m. h (suc k) d (omega arith) (omega arith))

  passed : (l : P) (o : Option P) (q x : P) → EndsBelow cmp o q → is_ge (cmp x q) ≡ true → under cmp o x ≡ false
  passed l None q x e g = absurd e
  passed l (Some h) q x e g = by (cmp x h) (ge_trans cmp line x q h g (ge_from_less cmp line h q e))
    where
      by : (o : Ordering) → is_ge o ≡ true → is_lt o ≡ false
      by Less n = cc
      by Equal n = refl
      by Greater n = refl

  and_no : (a b : Bool) → b ≡ false → (a && b) ≡ false
  and_no true b e = e
  and_no false b e = refl

  pub last_started : (spans : List (Span P)) (j : ℕ) (x : P) (s : Span P) → IsCanonical valid cmp spans → j < length spans → s ≡ get_or spans j s → AreStarted x spans (suc j) → AreLater x spans (suc j)
      → has cmp spans x ≡ under cmp s.high x
  last_started [] j x s c l is h g = absurd (omega arith)
  last_started (t ∷ ts) zero x s c l is h g =
      ap (λ b. (b && under cmp t.high x) || has cmp ts x) (h 0 t (omega arith) (omega arith))
      ∙ ap (λ b. under cmp t.high x || b) (none_started ts x (λ k d m n. g (suc k) d (omega arith) (omega arith)))
      ∙ or_false (under cmp t.high x) ∙ ap (λ u. under cmp u.high x) (sym is)
  last_started (t ∷ []) (suc j) x s c l is h g = absurd (omega arith)
  last_started (t ∷ u ∷ us) (suc j) x s c l is h g =
      ap (λ b. b || has cmp (u ∷ us) x) (and_no (is_ge (cmp x t.low)) (under cmp t.high x) (passed t.low t.high u.low x c.1 (h 1 u (omega arith) (omega arith))))
      ∙ last_started (u ∷ us) j x s c.2 (omega arith) is (λ k d m n. h (suc k) d (omega arith) (omega arith)) (λ k d m n. g (suc k) d (omega arith) (omega arith))

  -- the spans of a canonical list that have started come first
  pub are_partitioned : (spans : List (Span P)) (x : P) → IsCanonical valid cmp spans → (i j : ℕ) (d : Span P) → i ≤ j → j < length spans
      → is_ge (cmp x (slice_index_or spans j d).low) ≡ true → is_ge (cmp x (slice_index_or spans i d).low) ≡ true
  are_partitioned [] x c i j d le lt h = absurd (omega arith)
  are_partitioned (s ∷ ss) x c zero zero d le lt h = h
  are_partitioned (s ∷ []) x c zero (suc j) d le lt h = absurd (omega arith)
  are_partitioned (s ∷ t ∷ ts) x c zero (suc j) d le lt h =
      ge_trans cmp line x t.low s.low (are_partitioned (t ∷ ts) x c.2 0 j d (omega arith) (omega arith) h) (ge_from_less cmp line s.low t.low (lows s.low s.high t.low c.0.high c.1))
    where
      lows : (l : P) (h : Option P) (q : P) → IsEnd valid cmp l h → EndsBelow cmp h q → cmp l q ≡ Less
      lows l None q e b = absurd b
      lows l (Some k) q e b = line.total.trans l k q e.1 b
  are_partitioned (s ∷ ss) x c (suc i) zero d le lt h = absurd (omega arith)
  are_partitioned (s ∷ ss) x c (suc i) (suc j) d le lt h = are_partitioned ss x (rest valid cmp line s ss c) i j d (omega arith) (omega arith) h
