use Rattle.std.proofs.Common.{sym, subst, refl}
use Rattle.std.specs.List.Sorted.{IsStrictlySortedBy}
use Rattle.shared_pages.specs.Sequences.{IsSequence}
use Rattle.shared_pages.proofs.sequence.Sequence.make.Goals as goal

pub invariant_of-result : goal.invariant_of-result
unfolding IsStrictlySortedBy
invariant_of-result g c = subst (λ l. IsSequence g.T.Item.cmp l 0) (sym c.new.ensures.items) (record { whole = tt; sorted = tt; counted = refl })
