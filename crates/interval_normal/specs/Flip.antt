-- The intervals between the intervals of a canonical list, from a point on.
use Rattle.std.specs.Prelude.{cond, List, [], ◌∷◌, ◌++◌, Option, Some, None}
use Rattle.std.specs.declared.cmp.Ordering.{Ordering}
use Rattle.std.specs.Ordering.{is_lt}
use Rattle.interval_normal.specs.declared.set.Span.{Span}

-- from low up to q, if that is not empty
abbrev pub gap : {P : Type 0} → (P → P → Ordering) → P → P → List (Span P)
gap cmp low q = cond (is_lt (cmp low q)) (record { low = low; high = Some q } ∷ []) []

-- the gap from where the last span ended, if it ended, up to q
abbrev pub gap_from : {P : Type 0} → (P → P → Ordering) → Option P → P → List (Span P)
gap_from cmp None q = []
gap_from cmp (Some low) q = gap cmp low q

-- where the next gap starts
abbrev pub ends_at : {P : Type 0} → Option P → Option P → Option P
ends_at None high = None
ends_at (Some low) high = high

-- the gap behind the last span
abbrev pub last_gap : {P : Type 0} → Option P → List (Span P)
last_gap None = []
last_gap (Some low) = record { low = low; high = None } ∷ []

-- the gaps from a point on
abbrev pub gaps : {P : Type 0} → (P → P → Ordering) → Option P → List (Span P) → List (Span P)
gaps cmp low [] = last_gap low
gaps cmp low (s ∷ ss) = gap_from cmp low s.low ++ gaps cmp (ends_at low s.high) ss
