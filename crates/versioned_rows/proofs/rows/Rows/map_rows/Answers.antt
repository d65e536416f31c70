use Rattle.std.proofs.Common.{◌<◌, ◌+◌, ◌-◌, ◌^◌, List, sym, ap, subst, arith}
use Rattle.std.proofs.lemmas.Result.{err_from_is_err_and}
use Rattle.std.specs.Fn.{FnReturnsAt}
use Rattle.std.specs.List.{Contains}
use Rattle.versioned_rows.specs.declared.rows.KeptRow.{KeptRow}
use Rattle.versioned_rows.specs.Histories.{RowHistory, rows_of}
use Rattle.versioned_rows.specs.Keeping.{IsRows}
use Rattle.versioned_rows.specs.Nexts.{IsNextByCalls, TellsFirstLost}
use Rattle.versioned_rows.proofs.Ruling.{next_given, fault_given}
use Rattle.versioned_rows.proofs.Turning.{sorted_turned, turned_whole, turned_rows, lost_told, weight_within, there_within}
use Rattle.versioned_rows.proofs.rows.Rows.map_rows.Goals as goal

pub turn_all-requires-clause-keeps : goal.turn_all-requires-clause-keeps
turn_all-requires-clause-keeps g c r t i k = c.requires.keeps r t (subst (λ (s : RowHistory). Contains (rows_of s) r) c.self.view_is i) k

pub turn_all-requires-clause-there : goal.turn_all-requires-clause-there
turn_all-requires-clause-there g c =
    let few = subst (λ n. n < 2 ^ 32 - 1) (sym (ap (λ (s : RowHistory). s.last) c.self.view_is)) c.requires.last in there_within c.self.inside.last (2 ^ 32 - 1) c.self.inside.kept (omega arith) c.self.invariant.history.there

pub returns-in_err-turned-clause-fault : goal.returns-in_err-turned-clause-fault
returns-in_err-turned-clause-fault g c =
    let p = err_from_is_err_and c.from_residual.result c.from_residual.ensures.1 in
    rw (p.1, p.2) (
    subst (λ (s : RowHistory). TellsFirstLost (FnReturnsAt g.F.Fn c.args.f) s c.in_err-turned.field-0.0) c.self.view_is
    (lost_told (FnReturnsAt g.F.Fn c.args.f) c.self.inside.kept c.self.inside.last c.in_err-turned.field-0.0 c.self.invariant.history c.in_err-turned.ensures))

pub returns-in_err-turned-clause-fault_by_rule : goal.returns-in_err-turned-clause-fault_by_rule
returns-in_err-turned-clause-fault_by_rule g c =
    let p = err_from_is_err_and c.from_residual.result c.from_residual.ensures.1 in
    rw (p.1, p.2) (
    λ rule follows. fault_given rule (FnReturnsAt g.F.Fn c.args.f) follows c.args.self.now c.in_err-turned.field-0.0 (
    subst (λ (s : RowHistory). TellsFirstLost (FnReturnsAt g.F.Fn c.args.f) s c.in_err-turned.field-0.0) c.self.view_is
    (lost_told (FnReturnsAt g.F.Fn c.args.f) c.self.inside.kept c.self.inside.last c.in_err-turned.field-0.0 c.self.invariant.history c.in_err-turned.ensures)))

pub of_items-requires : goal.of_items-requires
of_items-requires g c = sorted_turned (FnReturnsAt g.F.Fn c.args.f) c.self.inside.kept c.in_ok-turned.turned.rows.items c.in_ok-turned.ensures.0 c.self.invariant.history.sorted

pub invariant_of-result : goal.invariant_of-result
invariant_of-result g c =
    subst (λ (kept : List KeptRow). IsRows (record { last = c.self.inside.last + 1; kept = kept }) c.self.inside.alive c.in_ok-turned.turned.weight) (sym c.in_ok-kept.ensures)
    (turned_rows (FnReturnsAt g.F.Fn c.args.f) c.self.inside.kept c.in_ok-turned.turned.rows.items c.self.inside.last c.self.inside.alive c.self.inside.weight c.in_ok-turned.turned.weight c.self.invariant c.in_ok-turned.ensures.0 c.in_ok-turned.ensures.1
    (weight_within (FnReturnsAt g.F.Fn c.args.f) c.self.inside.kept c.in_ok-turned.turned.rows.items c.self.inside.last c.args.self.now c.self.view_is c.self.invariant.history c.in_ok-turned.ensures.0 c.requires.weight))

pub returns-clause-next : goal.returns-clause-next
returns-clause-next g c =
    subst (λ (s : RowHistory). IsNextByCalls (FnReturnsAt g.F.Fn c.args.f) s (record { last = c.self.inside.last + 1; kept = c.in_ok-kept.kept })) c.self.view_is (
    subst (λ (kept : List KeptRow). IsNextByCalls (FnReturnsAt g.F.Fn c.args.f) (record { last = c.self.inside.last; kept = c.self.inside.kept }) (record { last = c.self.inside.last + 1; kept = kept })) (sym c.in_ok-kept.ensures)
    (turned_whole (FnReturnsAt g.F.Fn c.args.f) c.self.inside.kept c.in_ok-turned.turned.rows.items c.self.inside.last c.in_ok-turned.ensures.0 c.self.invariant.history).next)

pub returns-clause-next_by_rule : goal.returns-clause-next_by_rule
returns-clause-next_by_rule g c rule follows =
    next_given rule (FnReturnsAt g.F.Fn c.args.f) follows c.args.self.now (record { last = c.self.inside.last + 1; kept = c.in_ok-kept.kept })
    (subst (λ (s : RowHistory). IsNextByCalls (FnReturnsAt g.F.Fn c.args.f) s (record { last = c.self.inside.last + 1; kept = c.in_ok-kept.kept })) c.self.view_is (
    subst (λ (kept : List KeptRow). IsNextByCalls (FnReturnsAt g.F.Fn c.args.f) (record { last = c.self.inside.last; kept = c.self.inside.kept }) (record { last = c.self.inside.last + 1; kept = kept })) (sym c.in_ok-kept.ensures)
    (turned_whole (FnReturnsAt g.F.Fn c.args.f) c.self.inside.kept c.in_ok-turned.turned.rows.items c.self.inside.last c.in_ok-turned.ensures.0 c.self.invariant.history).next))
