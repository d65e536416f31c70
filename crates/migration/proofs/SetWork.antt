-- Canonical lists of spans for one value, and for a set with a value put in or taken out.
use Rattle.std.proofs.Common.{◌≡◌, ◌≢◌, Bool, true, false, not, ◌&&◌, List, [], ◌∷◌, Option, Some, None, refl, ap, ◌∙◌}
use Rattle.std.specs.Prelude.{if◌then◌else◌}
use Rattle.std.specs.Ordering.{is_eq}
use Rattle.std.specs.declared.cmp.Ordering.{Ordering}
use Rattle.std.specs.declared.cmp.Ordering.TheVariants.{Less}
use Rattle.interval_normal.specs.declared.set.Span.{Span}
use Rattle.interval_normal.specs.Cross.{cross}
use Rattle.interval_normal.specs.Flip.{gaps}
use Rattle.interval_normal.specs.Spans.{has, IsSpan, IsCanonical, IsNextOf}
use Rattle.interval_normal.proofs.Order.{IsLine}
use Rattle.interval_normal.proofs.Crossing.{cross_canonical, has_cross}
use Rattle.interval_normal.proofs.Gaps.{complement_good, complement_has}
use Rattle.interval_normal.proofs.Lone.{lone_has}

module _ {P : Type 0} (valid : P → Type 0) (cmp : P → P → Ordering) (line : IsLine cmp) (bottom : P) (bottom_valid : valid bottom) (least : (x : P) → valid x → cmp x bottom ≢ Less) (next : P → Option P) (next_is : (x : P) → valid x → IsNextOf valid cmp x (next x)) where
  -- the value alone
  abbrev pub one_value : P → List (Span P)
  one_value p = record { low = p; high = next p } ∷ []

  pub one_canonical : (p : P) → valid p → IsCanonical valid cmp (one_value p)
  one_canonical p v = by (next p) (next_is p v)
    where
      by : (n : Option P) → IsNextOf valid cmp p n → IsSpan valid cmp (record { low = p; high = n })
      by None is = record { low = v; high = tt }
      by (Some n) is = record { low = v; high = (is.0, is.1) }

  pub one_has : (p x : P) → valid p → valid x → has cmp (one_value p) x ≡ is_eq (cmp x p)
  one_has p x v w = lone_has valid cmp line p (next p) x (next_is p v) w

  -- the spans with the value put in, or taken out
  abbrev pub with_value : Bool → P → List (Span P) → List (Span P)
  with_value true p ss = gaps cmp (Some bottom) (cross cmp (gaps cmp (Some bottom) ss) (gaps cmp (Some bottom) (one_value p)))
  with_value false p ss = cross cmp ss (gaps cmp (Some bottom) (one_value p))

  outside : (ss : List (Span P)) → IsCanonical valid cmp ss → IsCanonical valid cmp (gaps cmp (Some bottom) ss)
  outside ss c = complement_good valid cmp line bottom bottom_valid least ss c

  pub with_canonical : (b : Bool) (p : P) (ss : List (Span P)) → valid p → IsCanonical valid cmp ss → IsCanonical valid cmp (with_value b p ss)
  with_canonical true p ss v c = outside _ (cross_canonical valid cmp line _ _ (outside ss c) (outside (one_value p) (one_canonical p v)))
  with_canonical false p ss v c = cross_canonical valid cmp line ss _ c (outside (one_value p) (one_canonical p v))

  put_in : (h e : Bool) → not (not h && not e) ≡ (if e then true else h)
  put_in true true = refl
  put_in true false = refl
  put_in false true = refl
  put_in false false = refl

  taken_out : (h e : Bool) → (h && not e) ≡ (if e then false else h)
  taken_out true true = refl
  taken_out true false = refl
  taken_out false true = refl
  taken_out false false = refl

  not_one : (p x : P) → valid p → valid x → has cmp (gaps cmp (Some bottom) (one_value p)) x ≡ not (is_eq (cmp x p))
  not_one p x v w = complement_has valid cmp line bottom bottom_valid least (one_value p) (one_canonical p v) x w ∙ ap not (one_has p x v w)

  pub with_has : (b : Bool) (p : P) (ss : List (Span P)) (x : P) → valid p → IsCanonical valid cmp ss → valid x → has cmp (with_value b p ss) x ≡ (if is_eq (cmp x p) then b else has cmp ss x)
  with_has true p ss x v c w =
      complement_has valid cmp line bottom bottom_valid least _ (cross_canonical valid cmp line _ _ (outside ss c) (outside (one_value p) (one_canonical p v))) x w
      ∙ ap not (has_cross valid cmp line (gaps cmp (Some bottom) ss) (gaps cmp (Some bottom) (one_value p)) x
      ∙ ap (λ a. a && has cmp (gaps cmp (Some bottom) (one_value p)) x) (complement_has valid cmp line bottom bottom_valid least ss c x w)
      ∙ ap (λ a. not (has cmp ss x) && a) (not_one p x v w))
      ∙ put_in (has cmp ss x) (is_eq (cmp x p))
  with_has false p ss x v c w =
      has_cross valid cmp line ss (gaps cmp (Some bottom) (one_value p)) x ∙ ap (λ a. has cmp ss x && a) (not_one p x v w) ∙ taken_out (has cmp ss x) (is_eq (cmp x p))
