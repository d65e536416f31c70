use Rattle.std.proofs.Common.{◌≡◌, false, true, IsTrue, Some, None, sym, ◌∙◌, subst, arith}
use Rattle.cite_schema.specs.Headings.{Heading}
use Rattle.subset_query.specs.Forms.{IsSettled}
use Rattle.migration.specs.Harmless.{printed_of, all_harmless}
use Rattle.archive_state.proofs.MoveForms.{ready_form, carried_shows, looked, carried_seen, tells_none, tells_over, tells_other, tells_form, tells_harmless}
use Rattle.archive_state.proofs.migrating.form_after.Goals as goal

pub carry_normal_at-requires-clause-settled : goal.carry_normal_at-requires-clause-settled
carry_normal_at-requires-clause-settled c =
    let there = looked c.args.seen.now c.store.result.now c.args.number c.in-Some.citation.now c.store.ensures c.in-Some.ensures in
    subst (λ (h : Heading). IsSettled h.columns c.in-Some.citation.now.normal) (sym c.schema-schema.ensures) (ready_form c.args.seen.now c.args.number c.in-Some.citation.now c.requires.seen there).settled

pub returns-in_default-carried : goal.returns-in_default-carried
returns-in_default-carried c = λ history a leads shows.
    tells_none history a c.args.seen.now leads shows c.args.steps.now c.args.moving.now.rows c.requires.rows c.args.number c.in-Some.citation.now
    (looked c.args.seen.now c.store.result.now c.args.number c.in-Some.citation.now c.store.ensures c.in-Some.ensures)
    (carried_seen c.schema-schema.result.now c.args.seen.now.schema c.args.steps.now c.in-Some.citation.now.normal c.in_ok-carried.carried None c.schema-schema.ensures c.in_default-carried.is c.in_ok-carried.ensures)

pub execute-requires-clause-first : goal.execute-requires-clause-first
execute-requires-clause-first c =
    (ready_form c.args.seen.now c.args.number c.in-Some.citation.now c.requires.seen (looked c.args.seen.now c.store.result.now c.args.number c.in-Some.citation.now c.store.ensures c.in-Some.ensures)).first

pub execute-requires-clause-last : goal.execute-requires-clause-last
execute-requires-clause-last c =
    let ready = ready_form c.args.seen.now c.args.number c.in-Some.citation.now c.requires.seen (looked c.args.seen.now c.store.result.now c.args.number c.in-Some.citation.now c.store.ensures c.in-Some.ensures) in
    omega (arith, ready.last, c.requires.rows.last)

pub execute-requires-clause-items : goal.execute-requires-clause-items
execute-requires-clause-items c =
    let ready = ready_form c.args.seen.now c.args.number c.in-Some.citation.now c.requires.seen (looked c.args.seen.now c.store.result.now c.args.number c.in-Some.citation.now c.store.ensures c.in-Some.ensures) in
    carried_shows c.args.seen.now.schema c.args.moving.now.schema c.args.steps.now c.in-Some.citation.now.normal c.in-Some-carried.form c.requires.steps ready.settled
    (carried_seen c.schema-schema.result.now c.args.seen.now.schema c.args.steps.now c.in-Some.citation.now.normal c.in_ok-carried.carried (Some c.in-Some-carried.form) c.schema-schema.ensures c.in-Some-carried.is c.in_ok-carried.ensures)

pub returns-in-Err-TooLarge : goal.returns-in-Err-TooLarge
returns-in-Err-TooLarge c = λ history a leads shows.
    let over = rw c.in-Err-TooLarge.field-0-is at c.in-Err-TooLarge.ensures.fault in
    tells_over history a c.args.seen.now leads shows c.args.steps.now c.args.moving.now.rows c.requires.rows c.args.number c.in-Some.citation.now
    (looked c.args.seen.now c.store.result.now c.args.number c.in-Some.citation.now c.store.ensures c.in-Some.ensures) c.in-Some-carried.form
    (carried_seen c.schema-schema.result.now c.args.seen.now.schema c.args.steps.now c.in-Some.citation.now.normal c.in_ok-carried.carried (Some c.in-Some-carried.form) c.schema-schema.ensures c.in-Some-carried.is c.in_ok-carried.ensures)
    c.in-Err-TooLarge.field-0-0 over

pub returns-then-branch : goal.returns-then-branch
returns-then-branch c = λ history a leads shows.
    let safe = subst (λ (h : Heading). IsTrue (all_harmless h.columns c.args.steps.now (printed_of c.in-Some.citation.now.normal))) c.schema-schema.ensures (subst IsTrue c.in_ok-harmless.ensures c.if-branch.true) in
    tells_harmless history a c.args.seen.now leads shows c.args.steps.now c.args.moving.now.rows c.requires.rows c.args.number c.in-Some.citation.now
    (looked c.args.seen.now c.store.result.now c.args.number c.in-Some.citation.now c.store.ensures c.in-Some.ensures) c.in-Some-carried.form
    (carried_seen c.schema-schema.result.now c.args.seen.now.schema c.args.steps.now c.in-Some.citation.now.normal c.in_ok-carried.carried (Some c.in-Some-carried.form) c.schema-schema.ensures c.in-Some-carried.is c.in_ok-carried.ensures)
    c.args.moving.now.schema c.requires.steps safe

pub returns-then-branch-2 : goal.returns-then-branch-2
returns-then-branch-2 c = λ history a leads shows.
    tells_form history a c.args.seen.now leads shows c.args.steps.now c.args.moving.now.rows c.requires.rows c.args.number c.in-Some.citation.now
    (looked c.args.seen.now c.store.result.now c.args.number c.in-Some.citation.now c.store.ensures c.in-Some.ensures) c.in-Some-carried.form
    (carried_seen c.schema-schema.result.now c.args.seen.now.schema c.args.steps.now c.in-Some.citation.now.normal c.in_ok-carried.carried (Some c.in-Some-carried.form) c.schema-schema.ensures c.in-Some-carried.is c.in_ok-carried.ensures)
    c.as_slice.result.now (rw c.as_slice.ensures c.in-Ok.ensures.given) ((c.in_ok-gave-in-Ok.ensures history a leads shows).0 c.if-branch-2.true)

pub returns : goal.returns
returns c = λ history a leads shows.
    tells_other history a c.args.seen.now leads shows c.args.steps.now c.args.moving.now.rows c.requires.rows c.args.number c.in-Some.citation.now
    (looked c.args.seen.now c.store.result.now c.args.number c.in-Some.citation.now c.store.ensures c.in-Some.ensures) c.in-Some-carried.form
    (carried_seen c.schema-schema.result.now c.args.seen.now.schema c.args.steps.now c.in-Some.citation.now.normal c.in_ok-carried.carried (Some c.in-Some-carried.form) c.schema-schema.ensures c.in-Some-carried.is c.in_ok-carried.ensures)
    c.as_slice.result.now (rw c.as_slice.ensures c.in-Ok.ensures.given)
    (λ gave. let yes : c.in_ok-gave-in-Ok.field-0 ≡ true = (c.in_ok-gave-in-Ok.ensures history a leads shows).1 gave in
    let clash : true ≡ false = sym yes ∙ c.if-branch-2.false in absurd (cc))

pub harmless-requires-clause-settled : goal.harmless-requires-clause-settled
harmless-requires-clause-settled c =
    let there = looked c.args.seen.now c.store.result.now c.args.number c.in-Some.citation.now c.store.ensures c.in-Some.ensures in
    subst (λ (h : Heading). IsSettled h.columns c.in-Some.citation.now.normal) (sym c.schema-schema.ensures) (ready_form c.args.seen.now c.args.number c.in-Some.citation.now c.requires.seen there).settled
