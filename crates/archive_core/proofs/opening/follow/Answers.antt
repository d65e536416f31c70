use Rattle.std.proofs.Common.{◌≡◌, ℕ, List, true, false, sym, ap, ◌∙◌, subst, arith}
use Rattle.std.specs.Prelude.{Bool, Ok}
use Rattle.cite_schema.specs.declared.memory.NoMemory.{NoMemory}
use Rattle.cite_disk.proofs.Moments.{quiet_then}
use Rattle.archive_journal.specs.Walks.{IsWhole}
use Rattle.archive_state.specs.Following.{Grows}
use Rattle.archive_core.specs.Keeping.{payloads_of}
use Rattle.archive_core.specs.Opening.{IsSpoilt}
use Rattle.archive_core.proofs.Walking.{heard_false, heard_true, if_some, spoilt_entry, spoilt_record, walk_on}
use Rattle.archive_core.proofs.opening.follow.Goals as goal

pub returns-then-not-branch-clause-damaged : goal.returns-then-not-branch-clause-damaged
returns-then-not-branch-clause-damaged g c = λ at told honest.
    let k = g.D.Disk in
    let w = c.records.invariant.walked in
    let p = c.in-Ok-Some.payload in
    let now = c.step.new.disk in
    let is : c.take.result ≡ Ok false = c.in_ok-take-in-Ok-Some.was ∙ ap (λ (b : Bool). Ok b) c.if-not-branch.true in
    let never = heard_false NoMemory w.history c.as_slice.result.now c.records.follower c.take.new.self c.take.result (c.take.ensures w.history w.follows) is in
    let here = if_some _ c.in-Ok-Some.field-0 p c.in-Ok-Some.field-0-is c.in-Ok-Some.ensures.next honest (payloads_of w.history) (w.here honest) in
    let spoilt : IsSpoilt (k.seen c.records.disk) c.records.walk.at =
    spoilt_entry k.honest honest (k.seen c.records.disk) c.records.walk c.records.follower w (if_some _ c.in-Ok-Some.field-0 p c.in-Ok-Some.field-0-is c.in-Ok-Some.ensures.open_gate)
    p (k.seen now) c.step.new.self.at c.step.new.self.gate (if_some _ c.in-Ok-Some.field-0 p c.in-Ok-Some.field-0-is c.in-Ok-Some.ensures.small) (c.in-Ok-Some.ensures.quiet honest).same here
    (λ e fits same. never e fits (c.as_slice.ensures ∙ same)) in
    let place : c.place-at.result ≡ at = cc in
    subst (λ (n : ℕ). IsSpoilt (k.seen c.args.disk.now) n) (sym c.place-at.ensures ∙ place)
    (subst (λ (l : List ℕ). IsSpoilt l c.records.walk.at) (c.records.invariant.quiet honest).same spoilt)

pub records-preserved : goal.records-preserved
records-preserved g c =
    let k = g.D.Disk in
    let w = c.records.invariant.walked in
    let p = c.in-Ok-Some.payload in
    let is : c.take.result ≡ Ok true = c.in_ok-take-in-Ok-Some.was ∙ ap (λ (b : Bool). Ok b) c.if-not-branch.false in
    let heard = heard_true NoMemory w.history c.as_slice.result.now c.records.follower c.take.new.self c.take.result (c.take.ensures w.history w.follows) is in
    record {
      walked = walk_on k.honest (k.seen c.records.disk) (k.seen c.step.new.disk) c.records.walk c.step.new.self c.records.follower c.take.new.self w p
          (if_some _ c.in-Ok-Some.field-0 p c.in-Ok-Some.field-0-is c.in-Ok-Some.ensures.further)
          (if_some _ c.in-Ok-Some.field-0 p c.in-Ok-Some.field-0-is c.in-Ok-Some.ensures.next)
          (subst (λ (l : List ℕ). Grows w.history l c.take.new.self) c.as_slice.ensures heard);
      quiet = λ honest. quiet_then k.seen k.images k.moment k.left_since c.args.disk.now c.records.disk c.step.new.disk (c.records.invariant.quiet honest) (c.in-Ok-Some.ensures.quiet honest);
      later = omega (arith, c.records.invariant.later, c.in-Ok-Some.ensures.later);
    }

pub returns-in-Damaged-clause-damaged : goal.returns-in-Damaged-clause-damaged
returns-in-Damaged-clause-damaged g c = λ at told honest.
    let k = g.D.Disk in
    let w = c.records.invariant.walked in
    let d = c.in-Err.ensures.damaged c.in-Damaged.at c.in-Damaged.is in
    let spoilt : IsSpoilt (k.seen c.records.disk) c.records.walk.at =
    spoilt_record k.honest honest (k.seen c.records.disk) c.records.walk c.records.follower w d.1 (λ p whole. d.2 honest p (subst (λ (n : ℕ). IsWhole (k.seen c.records.disk) n p) (sym d.0) whole)) in
    let place : c.in-Damaged.at ≡ at = cc in
    subst (λ (n : ℕ). IsSpoilt (k.seen c.args.disk.now) n) (sym d.0 ∙ place)
    (subst (λ (l : List ℕ). IsSpoilt l c.records.walk.at) (c.records.invariant.quiet honest).same spoilt)
