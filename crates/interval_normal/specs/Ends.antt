-- The ends of spans, compared.
use Rattle.std.specs.Prelude.{Bool, true, false, cond, Option, Some, None}
use Rattle.std.specs.declared.cmp.Ordering.{Ordering}
use Rattle.std.specs.Ordering.{is_lt, is_le}

-- the later of two points
abbrev pub later : {P : Type 0} → (P → P → Ordering) → P → P → P
later cmp a b = cond (is_lt (cmp a b)) b a

-- whether the first of two upper ends comes before the other
abbrev pub ends_before : {P : Type 0} → (P → P → Ordering) → Option P → Option P → Bool
ends_before cmp None k = false
ends_before cmp (Some h) None = true
ends_before cmp (Some h) (Some k) = is_lt (cmp h k)

-- the sooner of two upper ends
abbrev pub sooner : {P : Type 0} → (P → P → Ordering) → Option P → Option P → Option P
sooner cmp h k = cond (ends_before cmp h k) h k

-- the farther of two upper ends
abbrev pub farther : {P : Type 0} → (P → P → Ordering) → Option P → Option P → Option P
farther cmp h k = cond (ends_before cmp h k) k h

-- whether a span with this upper end meets or touches one that starts at low
abbrev pub reaches : {P : Type 0} → (P → P → Ordering) → Option P → P → Bool
reaches cmp None low = true
reaches cmp (Some h) low = is_le (cmp low h)
