-- Spans put behind others, and joined with the last one where the two meet or touch.
use Rattle.std.specs.Prelude.{cond, List, [], ◌∷◌}
use Rattle.std.specs.declared.cmp.Ordering.{Ordering}
use Rattle.interval_normal.specs.declared.set.Span.{Span}
use Rattle.interval_normal.specs.Ends.{reaches, farther}

-- two spans, the first of which starts first, in one list
abbrev pub join_two : {P : Type 0} → (P → P → Ordering) → Span P → Span P → List (Span P)
join_two cmp s t = cond (reaches cmp s.high t.low) (record { low = s.low; high = farther cmp s.high t.high } ∷ []) (s ∷ t ∷ [])

-- a span put behind a list
abbrev pub join_last : {P : Type 0} → (P → P → Ordering) → List (Span P) → Span P → List (Span P)
join_last cmp [] t = t ∷ []
join_last cmp (s ∷ []) t = join_two cmp s t
join_last cmp (s ∷ u ∷ us) t = s ∷ join_last cmp (u ∷ us) t

-- each span of a list put behind another list in turn
abbrev pub join_all : {P : Type 0} → (P → P → Ordering) → List (Span P) → List (Span P) → List (Span P)
join_all cmp out [] = out
join_all cmp out (t ∷ ts) = join_all cmp (join_last cmp out t) ts
