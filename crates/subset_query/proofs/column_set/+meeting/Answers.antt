use Rattle.std.proofs.Common.{◌||◌, not, ◌∙◌, ap, sym, List}
use Rattle.std.specs.List.{list_all, list_any}
use Rattle.cite_schema.specs.Conditions.{meets}
use Rattle.interval_normal.specs.Spans.{has}
use Rattle.cite_schema.specs.declared.condition.Cond.{Cond}
use Rattle.subset_query.proofs.Folding.{meets-AllOf, meets-AnyOf, meets-Not}
use Rattle.subset_query.proofs.LoopEnds.{all_at_end, any_at_end, any_one_more}
use Rattle.subset_query.proofs.column_set.+meeting.Goals as goal

pub meeting_set-returns-in_ok-all-in-AllOf : goal.meeting_set-returns-in_ok-all-in-AllOf
meeting_set-returns-in_ok-all-in-AllOf g t c = λ x v.
    c.in_ok-all-in-AllOf.ensures x v
    ∙ ap (λ (cs : List Cond). list_all (λ k. meets k (g.P.KindPoint.cell x)) cs) c.as_slice-in-AllOf.ensures
    ∙ sym (meets-AllOf c.in-AllOf.conds (g.P.KindPoint.cell x))
    ∙ sym (ap (λ k. meets k (g.P.KindPoint.cell x)) c.in-AllOf.is)

pub meeting_set-returns-in_ok-any-in-AnyOf : goal.meeting_set-returns-in_ok-any-in-AnyOf
meeting_set-returns-in_ok-any-in-AnyOf g t c = λ x v.
    c.in_ok-any-in-AnyOf.ensures x v
    ∙ ap (λ (cs : List Cond). list_any (λ k. meets k (g.P.KindPoint.cell x)) cs) c.as_slice-in-AnyOf.ensures
    ∙ sym (meets-AnyOf c.in-AnyOf.conds (g.P.KindPoint.cell x))
    ∙ sym (ap (λ k. meets k (g.P.KindPoint.cell x)) c.in-AnyOf.is)

pub common_set-returns : goal.common_set-returns
common_set-returns g t c = λ x v. all_at_end (λ k. meets k (g.P.KindPoint.cell x)) _ _ c.args.conds.now c.loop-cond.cond-index c.loop-cond-test.false (c.loop-cond.invariant x v)

pub joined_set-returns : goal.joined_set-returns
joined_set-returns g t c = λ x v. any_at_end (λ k. meets k (g.P.KindPoint.cell x)) _ _ c.args.conds.now c.loop-cond.cond-index c.loop-cond-test.false (c.loop-cond.invariant x v)

pub joined_set-loop-cond-preserved : goal.joined_set-loop-cond-preserved
joined_set-loop-cond-preserved g t c = λ x v.
    any_one_more (λ k. meets k (g.P.KindPoint.cell x)) c.args.conds.now c.loop-cond.cond-index c.cond-item.result _ _ _ c.loop-cond-test.true c.cond-item.is
    (c.in_ok-joined.ensures x v ∙ ap (λ b. has g.P.Point.cmp c.loop-cond.joined x || b) (c.in_ok-met.ensures x v))
    (c.loop-cond.invariant x v)

pub meeting_set-returns-in_ok-others-in-Not : goal.meeting_set-returns-in_ok-others-in-Not
meeting_set-returns-in_ok-others-in-Not g t c = λ x v.
    c.in_ok-others-in-Not.ensures x v
    ∙ ap not (c.in_ok-met-in-Not.ensures x v)
    ∙ ap (λ k. not (meets k (g.P.KindPoint.cell x))) c.get.ensures
    ∙ sym (meets-Not c.in-Not.inner (g.P.KindPoint.cell x))
    ∙ sym (ap (λ k. meets k (g.P.KindPoint.cell x)) c.in-Not.is)
