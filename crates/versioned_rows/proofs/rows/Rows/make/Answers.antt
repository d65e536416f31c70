use Rattle.std.proofs.Common.{refl, sym, subst}
use Rattle.std.specs.List.Sorted.{IsStrictlySortedBy}
use Rattle.versioned_rows.specs.Keeping.{IsRows}
use Rattle.versioned_rows.proofs.rows.Rows.make.Goals as goal

pub invariant_of-result : goal.invariant_of-result
unfolding IsStrictlySortedBy
invariant_of-result c = subst (λ kept. IsRows (record { last = 1; kept = kept }) 0 0) (sym c.make.ensures) (record { history = record { sorted = tt; there = tt; settled = tt; tables = λ v. tt }; counted = refl; weighed = refl })
