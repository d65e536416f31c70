use Rattle.std.proofs.Common.{◌≡◌, ◌+◌, ◌^◌, ◌-◌, Some, refl, sym, ap, subst}
use Rattle.std.specs.Prelude.{min}
use Rattle.std.specs.Fn.{FnReturnsAt}
use Rattle.std.specs.List.{Contains}
use Rattle.std.specs.Option.{option_copied}
use Rattle.shared_pages.specs.Walks.{to_come}
use Rattle.versioned_rows.specs.Keeping.{WasThere}
use Rattle.versioned_rows.specs.Turns.{Makes}
use Rattle.versioned_rows.specs.Weights.{row_weight}
use Rattle.versioned_rows.proofs.Stepping.{rows_in}
use Rattle.versioned_rows.proofs.Turning.{next_there, next_in, kept_pair, turning_made, turning_lost, lost_keyed}
use Rattle.versioned_rows.proofs.mapping.turn_all.Goals as goal

pub turn-requires : goal.turn-requires
turn-requires g c x e =
    c.requires.callable x
    (subst (Contains (rows_in c.args.kept.now)) (sym e)
    (next_in (FnReturnsAt g.F.Fn c.args.f) c.args.kept.now (to_come c.loop-item.item-iterator) (to_come c.next.new.self) (option_copied c.loop-item.lost) c.loop-item.rows.items c.loop-item.weight c.in-Some.item.now c.loop-item.invariant.2
    c.in-Some.ensures.steps))

pub loop-item-preserved-in-Continue-branch-3 : goal.loop-item-preserved-in-Continue-branch-3
loop-item-preserved-in-Continue-branch-3 g c =
    let made : Makes (FnReturnsAt g.F.Fn c.args.f) c.in-Some.item.now (Some c.in-Some-2.new) = subst (Makes (FnReturnsAt g.F.Fn c.args.f) c.in-Some.item.now) c.in-Some-2.is c.in_ok-new.ensures in
    let within = next_in (FnReturnsAt g.F.Fn c.args.f) c.args.kept.now (to_come c.loop-item.item-iterator) (to_come c.next.new.self) (option_copied c.loop-item.lost) c.loop-item.rows.items c.loop-item.weight c.in-Some.item.now c.loop-item.invariant.2
    c.in-Some.ensures.steps in
    let was = next_there (FnReturnsAt g.F.Fn c.args.f) (WasThere (2 ^ 32 - 1)) c.args.kept.now (to_come c.loop-item.item-iterator) (to_come c.next.new.self) (option_copied c.loop-item.lost) c.loop-item.rows.items c.loop-item.weight c.in-Some.item.now
    c.loop-item.invariant.2 c.in-Some.ensures.steps c.requires.there in (
      tt,
      tt,
      turning_made (FnReturnsAt g.F.Fn c.args.f) c.args.kept.now (to_come c.loop-item.item-iterator) (to_come c.next.new.self) (option_copied c.loop-item.lost) c.loop-item.rows.items c.push.new.rows.items c.loop-item.weight c.heavier-weight.result
          c.in-Some.item.now c.in-Some-2.new c.loop-item.invariant.2 c.in-Some.ensures.steps
          (kept_pair (FnReturnsAt g.F.Fn c.args.f) (2 ^ 32 - 1) c.in-Some.item.now c.in-Some-2.new c.in-Some-2.new.row made.0 (c.requires.keeps c.in-Some.item.now.row c.in-Some-2.new.row within made.0) was refl made.1 made.2)
          (subst (λ r. c.heavier-weight.result ≡ min (c.loop-item.weight + row_weight r) (2 ^ 64 - 1)) c.get.ensures c.heavier-weight.ensures) c.in_ok-push-in-Some-2.ensures,
    )

pub loop-item-preserved : goal.loop-item-preserved
loop-item-preserved g c = (
  tt,
  tt,
  turning_lost (FnReturnsAt g.F.Fn c.args.f) c.args.kept.now (to_come c.loop-item.item-iterator) (to_come c.next.new.self) (option_copied c.loop-item.lost) (option_copied c.earlier-lost.result) c.loop-item.rows.items c.loop-item.weight c.in-Some.item.now
      c.loop-item.invariant.2 c.in-Some.ensures.steps (subst (Makes (FnReturnsAt g.F.Fn c.args.f) c.in-Some.item.now) c.in-None-2.is c.in_ok-new.ensures) c.earlier-lost.ensures,
)

pub overflow-requires : goal.overflow-requires
overflow-requires g c =
    lost_keyed (FnReturnsAt g.F.Fn c.args.f) c.args.kept.now (to_come c.loop-item.item-iterator) (option_copied c.loop-item.lost) c.loop-item.rows.items c.loop-item.weight c.in-Some-lost.first.now (2 ^ 32 - 1) c.in-None.ensures.steps.0 (ap option_copied c.in-Some-lost.is)
    c.loop-item.invariant.2 c.requires.there
