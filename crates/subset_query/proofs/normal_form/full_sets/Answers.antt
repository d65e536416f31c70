use Rattle.std.proofs.Common.{sym, subst}
use Rattle.std.proofs.lemmas.List.{take_all}
use Rattle.subset_query.proofs.Chosen.{AreFull, full_more, full_kinds, full_rows}
use Rattle.subset_query.proofs.normal_form.full_sets.Goals as goal

pub loop-column-preserved : goal.loop-column-preserved
loop-column-preserved c =
    subst (AreFull _) (sym c.in_ok-push.ensures.ok)
    (full_more c.args.columns.now c.loop-column.column-index c.column-item.result c.loop-column.sets c.in_ok-set.set c.loop-column-test.true c.column-item.is c.loop-column.invariant
    (record { of_kind = c.in_ok-set.ensures.kind; all = c.in_ok-set.ensures.full }))

all : (c : goal.After-loop-column) → AreFull c.args.columns.now c.loop-column.sets
all c = subst (λ cs. AreFull cs c.loop-column.sets) (take_all c.loop-column.column-index c.args.columns.now c.loop-column-test.false) c.loop-column.invariant

pub returns-clause-kinds : goal.returns-clause-kinds
returns-clause-kinds c = full_kinds c.args.columns.now c.loop-column.sets (all c)

pub returns-clause-full : goal.returns-clause-full
returns-clause-full c = full_rows c.args.columns.now c.loop-column.sets (all c)
