-- The spans that hold every value.
use Rattle.std.proofs.Common.{◌≡◌, ◌≢◌, ◌↔◌, IsTrue, Bool, true, false, ◌&&◌, List, [], ◌∷◌, Option, Some, None, refl, sym, ap, ◌∙◌}
use Rattle.std.specs.Prelude.{is_none}
use Rattle.std.specs.Ordering.{is_eq}
use Rattle.std.specs.declared.cmp.Ordering.{Ordering}
use Rattle.std.specs.declared.cmp.Ordering.TheVariants.{Less, Equal, Greater}
use Rattle.interval_normal.specs.declared.set.Span.{Span}
use Rattle.interval_normal.specs.Spans.{has, IsCanonical}
use Rattle.interval_normal.proofs.Order.{IsLine, self_equal}
use Rattle.interval_normal.proofs.Lone.{lone, whole_held}
use Rattle.subset_query.specs.Printed.{is_whole}

module _ {P : Type 0} (valid : P → Type 0) (cmp : P → P → Ordering) (line : IsLine cmp) (bottom : P) (is_valid : valid bottom) (least : (x : P) → valid x → cmp x bottom ≢ Less) where
  -- the one span from the least value on passes
  fore : (spans : List (Span P)) → spans ≡ lone valid cmp line bottom None → is_whole cmp bottom spans ≡ true
  fore spans e = ap (is_whole cmp bottom) e ∙ ap (λ o. is_eq o && true) (self_equal cmp line bottom)

  one_span : (s : Span P) (o : Ordering) (h : Option P) → cmp s.low bottom ≡ o → s.high ≡ h → (is_eq o && is_none h) ≡ true → s ≡ record { low = bottom; high = None }
  one_span s Equal None low high e = ap (λ p. record { low = p; high = s.high }) (line.exact s.low bottom low) ∙ ap (λ h. record { low = bottom; high = h }) high
  one_span s Equal (Some h) low high e = cc
  one_span s Less h low high e = cc
  one_span s Greater h low high e = cc

  -- nothing else does
  pub back : (spans : List (Span P)) → is_whole cmp bottom spans ≡ true → spans ≡ lone valid cmp line bottom None
  back [] e = cc
  back (s ∷ []) e = ap (λ t. t ∷ []) (one_span s (cmp s.low bottom) s.high refl refl e)
  back (s ∷ t ∷ ts) e = cc

  -- a test that says whether every value is held is that test
  pub full-is_whole : (spans : List (Span P)) → IsCanonical valid cmp spans → (full : Bool) → (IsTrue full ↔ ((x : P) → valid x → has cmp spans x ≡ true)) → full ≡ is_whole cmp bottom spans
  full-is_whole spans c full says = by full (is_whole cmp bottom spans) refl refl
    where
      by : (b w : Bool) → full ≡ b → is_whole cmp bottom spans ≡ w → b ≡ w
      by true true e f = refl
      by false false e f = refl
      by true false e f = sym (fore spans ((whole_held valid cmp line bottom is_valid least spans c).1 (says.0 e))) ∙ f
      by false true e f = sym e ∙ says.1 ((whole_held valid cmp line bottom is_valid least spans c).0 (back spans f))
