use Rattle.std.proofs.Common.{◌≡◌, true, false, ◌∙◌, subst, sym}
use Rattle.subset_query.specs.Settling.{AreFixing}
use Rattle.subset_query.proofs.Settled.{none_at, fixing_more}
use Rattle.subset_query.proofs.fixed.fixed_values.Goals as goal

never : false ≡ true → ⊥
never e = cc

pub returns-then-is_empty : goal.returns-then-is_empty
returns-then-is_empty c = none_at c.args.sets.now c.loop-set.set-index c.set-item.result c.loop-set-test.true c.set-item.is (c.is_empty.ensures.empty.0 c.if-is_empty.true)

pub loop-set-preserved : goal.loop-set-preserved
loop-set-preserved c =
    subst (AreFixing _) (sym c.in_ok-push.ensures.ok)
    (fixing_more c.args.sets.now c.loop-set.set-index c.set-item.result c.loop-set.fixed c.in_ok-value.value c.loop-set-test.true c.set-item.is c.loop-set.invariant (record {
      canonical = c.is_empty.ensures.canonical;
      some_value = λ none. never (sym c.if-is_empty.false ∙ c.is_empty.ensures.empty.1 none);
      one = c.in_ok-value.ensures;
    }))
