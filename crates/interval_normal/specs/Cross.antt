-- What two lists of intervals have in common.
use Rattle.std.specs.Prelude.{cond, List, [], ◌∷◌, ◌++◌, Option}
use Rattle.std.specs.declared.cmp.Ordering.{Ordering}
use Rattle.interval_normal.specs.declared.set.Span.{Span}
use Rattle.interval_normal.specs.Spans.{under}
use Rattle.interval_normal.specs.Ends.{later, sooner}

-- the interval from low to high, unless it is empty
abbrev pub interval : {P : Type 0} → (P → P → Ordering) → P → Option P → List (Span P)
interval cmp low high = cond (under cmp high low) (record { low = low; high = high } ∷ []) []

-- what two spans have in common
abbrev pub piece : {P : Type 0} → (P → P → Ordering) → Span P → Span P → List (Span P)
piece cmp s t = interval cmp (later cmp s.low t.low) (sooner cmp s.high t.high)

-- what a span has in common with each span of a list
abbrev pub clip : {P : Type 0} → (P → P → Ordering) → Span P → List (Span P) → List (Span P)
clip cmp s [] = []
clip cmp s (t ∷ ts) = piece cmp s t ++ clip cmp s ts

-- what each span of a list has in common with each span of another
abbrev pub cross : {P : Type 0} → (P → P → Ordering) → List (Span P) → List (Span P) → List (Span P)
cross cmp [] bs = []
cross cmp (s ∷ ss) bs = clip cmp s bs ++ cross cmp ss bs
