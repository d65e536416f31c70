use Rattle.std.proofs.Common.{◌∙◌, sym, ap, arith}
use Rattle.subset_query.specs.Settling.{own_kind}
use Rattle.subset_query.proofs.Chosen.{never_unknown, same_count, found_within, own_at, own_is, narrow_more}
use Rattle.subset_query.proofs.normal_form.chosen_sets.Goals as goal

pub unreachable-requires : goal.unreachable-requires
unreachable-requires c = never_unknown c.args.columns.now c.args.conds.now c.loop-on.on-index c.on-item.result c.requires c.loop-on-test.true c.on-item.is c.in_default.ensures

pub index-requires : goal.index-requires
index-requires c =
    let within = found_within c.args.columns.now c.on-item.result.column c.in-Some.place (sym c.in-Some.ensures) in
    let same = same_count c.args.columns.now c.loop-on.sets.items c.loop-on.invariant.kinds in
    omega arith

pub intersection-requires : goal.intersection-requires
intersection-requires c =
    ap own_kind c.index.ensures
    ∙ own_at c.args.columns.now c.loop-on.sets.items c.in-Some.place c.index-columns-place.result c.index.result.now c.loop-on.invariant.kinds (found_within c.args.columns.now c.on-item.result.column c.in-Some.place (sym c.in-Some.ensures))
    ∙ sym (own_is _ c.in_ok-met.met c.in_ok-met.ensures.kind)

pub index_mut-requires : goal.index_mut-requires
index_mut-requires c =
    let within = found_within c.args.columns.now c.on-item.result.column c.in-Some.place (sym c.in-Some.ensures) in
    let same = same_count c.args.columns.now c.loop-on.sets.items c.loop-on.invariant.kinds in
    omega arith

pub loop-on-preserved : goal.loop-on-preserved
loop-on-preserved c =
    narrow_more c.args.columns.now c.loop-on.sets.items c.args.conds.now c.loop-on.on-index c.on-item.result c.in-Some.place c.index-columns-place.result c.index.result.now c.in_ok-met.met c.in_ok-narrowed.narrowed
    c.loop-on-test.true c.on-item.is c.loop-on.invariant c.in-Some.ensures c.index.ensures c.in_ok-met.ensures.kind c.in_ok-met.ensures.meets c.in_ok-narrowed.ensures.kind c.in_ok-narrowed.ensures.both
