-- Lists of half-open intervals over an order, and when one is canonical.
use Rattle.std.specs.Prelude.{◌≡◌, ◌≢◌, Bool, true, ◌&&◌, List, [], ◌∷◌, Option, Some, None, ⊤}
use Rattle.std.specs.List.{list_any}
use Rattle.std.specs.declared.cmp.Ordering.{Ordering}
use Rattle.std.specs.declared.cmp.Ordering.TheVariants.{Less}
use Rattle.std.specs.Ordering.{is_lt, is_ge, is_eq}
use Rattle.interval_normal.specs.declared.set.Span.{Span}

-- whether x is below an upper end, or there is no end
abbrev pub under : {P : Type 0} → (P → P → Ordering) → Option P → P → Bool
under cmp None x = true
under cmp (Some h) x = is_lt (cmp x h)

-- whether x is in the span: not below its low end, and below its high end
abbrev pub in_span : {P : Type 0} → (P → P → Ordering) → Span P → P → Bool
in_span cmp s x = is_ge (cmp x s.low) && under cmp s.high x

-- whether x is in one of the spans
abbrev pub has : {P : Type 0} → (P → P → Ordering) → List (Span P) → P → Bool
has cmp spans x = list_any (λ s. in_span cmp s x) spans

-- the spans hold p, and no other value of the type
pub record HoldsOne {P : Type 0} (valid : P → Type 0) (cmp : P → P → Ordering) (spans : List (Span P)) (p : P) : Type 0 where
  pub value : valid p
  pub alone : (x : P) → valid x → has cmp spans x ≡ is_eq (cmp x p)

-- an upper end above low that is a value of the type, or none
abbrev pub IsEnd : {P : Type 0} → (P → Type 0) → (P → P → Ordering) → P → Option P → Type 0
IsEnd valid cmp low None = ⊤
IsEnd valid cmp low (Some h) = valid h × (cmp low h ≡ Less)

-- an interval that is not empty, with values of the type as its ends
pub record IsSpan {P : Type 0} (valid : P → Type 0) (cmp : P → P → Ordering) (s : Span P) : Type 0 where
  pub low : valid s.low
  pub high : IsEnd valid cmp s.low s.high

-- an upper end that is there, and strictly below p
abbrev pub EndsBelow : {P : Type 0} → (P → P → Ordering) → Option P → P → Type 0
EndsBelow cmp None p = ⊥
EndsBelow cmp (Some h) p = cmp h p ≡ Less

-- intervals that are not empty, rise, and do not touch
abbrev pub IsCanonical : {P : Type 0} → (P → Type 0) → (P → P → Ordering) → List (Span P) → Type 0
IsCanonical valid cmp [] = ⊤
IsCanonical valid cmp (s ∷ []) = IsSpan valid cmp s
IsCanonical valid cmp (s ∷ t ∷ ts) = IsSpan valid cmp s × EndsBelow cmp s.high t.low × IsCanonical valid cmp (t ∷ ts)

-- n is the least value above x, or there is no value above x
abbrev pub IsNextOf : {P : Type 0} → (P → Type 0) → (P → P → Ordering) → P → Option P → Type 0
IsNextOf {P} valid cmp x None = (y : P) → valid y → cmp x y ≢ Less
IsNextOf {P} valid cmp x (Some n) = valid n × (cmp x n ≡ Less) × ((y : P) → valid y → cmp x y ≡ Less → is_ge (cmp y n) ≡ true)
