use Rattle.std.proofs.Common.{◌≡◌, ◌+◌, ◌∷◌, ◌++◌, [], List, ℕ, subst, sym, ◌∙◌, arith}
use Rattle.archive_journal.specs.Walks.{IsAt, IsRecord, IsWhole}
use Rattle.archive_journal.proofs.Places.{at_next}
use Rattle.archive_journal.proofs.walk.Walk.step.Goals as goal

pub returns-in-Ok-None-clause-damaged : goal.returns-in-Ok-None-clause-damaged
returns-in-Ok-None-clause-damaged g c = λ at e.
    let same : at ≡ c.args.self.now.at = cc in
    let none = rw c.in-Ok-None.field-0-is at c.in-Ok-None.ensures.none in
    (same, c.if-self-ne1.false, λ honest p w. none honest p (subst (λ (k : ℕ). IsWhole (g.D.Disk.seen c.args.disk.now) k p) same w))

pub returns-in-Ok-None-whole_record-clause-damaged :
    goal.returns-in-Ok-None-whole_record-clause-damaged
returns-in-Ok-None-whole_record-clause-damaged g c = λ at e.
    let same : at ≡ c.args.self.now.at = cc in
    let none = rw c.in-Ok-None-whole_record.field-0-is at c.in-Ok-None-whole_record.ensures.none in
    (same, c.if-self-ne1.false, λ honest p w. none honest p (subst (λ (k : ℕ). IsWhole (g.D.Disk.seen c.payload_length.new.disk) k p) same (subst (λ (l : List ℕ). IsWhole l at p) (sym (c.in-Ok-Some.ensures.quiet honest).same) w)))

pub returns-in-Ok-Some-whole_record-clause-next : goal.returns-in-Ok-Some-whole_record-clause-next
returns-in-Ok-Some-whole_record-clause-next g c = λ honest ps is.
    let b = g.D.Disk.seen c.args.disk.now in
    let at = c.args.self.now.at in
    let p = c.in-Ok-Some-whole_record.payload.items in
    let next = c.in-Ok-Some-whole_record.next in
    let whole = rw c.in-Ok-Some-whole_record.field-0-is at c.in-Ok-Some-whole_record.ensures.whole in
    let size = rw c.in-Ok-Some-whole_record.field-0-is at c.in-Ok-Some-whole_record.ensures.size in
    let same = (c.in-Ok-Some.ensures.quiet honest).same in
    let later = (c.in-Ok-Some-whole_record.ensures.quiet honest).same in
    let told = subst (λ (l : List ℕ). IsAt l (ps ++ p ∷ []) (at + (c.in-Ok-Some.size + 37)) next) (sym (later ∙ same))
    (at_next b ps at c.args.self.now.gate is p next (at + (c.in-Ok-Some.size + 37)) c.if-self-ne1.false (subst (λ (l : List ℕ). IsRecord l at p next) same (whole honest)) (omega (arith, size))) in
    subst (λ (q : List ℕ). IsAt (g.D.Disk.seen c.whole_record.new.disk) (ps ++ q ∷ []) (at + (c.in-Ok-Some.size + 37)) next) (sym c.from_vec.ensures) told
