use Rattle.std.proofs.Common.{rules, ◌≡◌, ◌<◌, ◌+◌, ◌++◌, ◌∷◌, [], List, length, sym, ap, ◌∙◌, subst, arith, length-append}
use Rattle.subset_query.specs.declared.form.Normal.{Normal}
use Rattle.archive_state.specs.Migrations.{AreFormsAfter, TellsFormAfter}
use Rattle.archive_state.proofs.MoveForms.{first_harmed, one_carried}
use Rattle.archive_state.proofs.migrating.forms_after.Goals as goal

pub returns-in-Ok-None : goal.returns-in-Ok-None
returns-in-Ok-None c = λ history a leads shows.
    let within : c.loop-place.place < length c.args.seen.now.store = subst (λ n. c.loop-place.place < n) c.issued-place-end.ensures c.loop-place-test.true in
    first_harmed a c.args.seen.now shows c.args.steps.now c.loop-place.place c.loop-place.forms c.loop-place.invariant.0 (c.loop-place.invariant.1 history a leads shows) within
    (subst (TellsFormAfter a c.args.steps.now (c.loop-place.place + 1)) c.in-Ok-None.field-0-is (c.in-Ok-None.ensures history a leads shows))

pub loop-place-preserved : goal.loop-place-preserved
loop-place-preserved c =
    let within : c.loop-place.place < length c.args.seen.now.store = subst (λ n. c.loop-place.place < n) c.issued-place-end.ensures c.loop-place-test.true in
    let pushed : c.push.new.self ≡ c.loop-place.forms ++ c.in-Ok-Some.form ∷ [] = search rules in
    let more = ap (λ (fs : List Normal). length fs) pushed ∙ length-append c.loop-place.forms (c.in-Ok-Some.form ∷ []) in (
      omega (arith, more, c.loop-place.invariant.0),
      λ history a leads shows.
          subst (AreFormsAfter a c.args.steps.now a.minted) (sym pushed)
          (one_carried a c.args.seen.now shows c.args.steps.now c.loop-place.place c.loop-place.forms c.loop-place.invariant.0 (c.loop-place.invariant.1 history a leads shows) within c.in-Ok-Some.form
          (subst (TellsFormAfter a c.args.steps.now (c.loop-place.place + 1)) c.in-Ok-Some.field-0-is (c.in-Ok-Some.ensures history a leads shows))),
    )
