use Rattle.std.proofs.Common.{◌≡◌, ◌+◌, ◌++◌, length, Some, sym, ap, ◌∙◌}
use Rattle.std.specs.List.Sorted.{IsStrictlySortedBy}
use Rattle.std.proofs.lemmas.Result.{IfOk-weaker}
use Rattle.query_store.specs.declared.numbered.Numbered.{Numbered}
use Rattle.query_store.specs.Places.{entries}
use Rattle.query_store.proofs.Numbers.{put_behind}
use Rattle.query_store.proofs.room.with_newest.Goals as goal

pub edit-requires : goal.edit-requires
unfolding IsStrictlySortedBy
edit-requires c = tt

pub edit-requires-in-Some : goal.edit-requires-in-Some
unfolding IsStrictlySortedBy
edit-requires-in-Some c = (tt, tt)

pub returns-in_ok-citation-in-Some : goal.returns-in_ok-citation-in-Some
returns-in_ok-citation-in-Some c =
    let older = c.args.older.now in
    let entry : Numbered = record { number = c.len.result + 1; citation = c.in_ok-citation-in-Some.citation } in
    let newest : Some c.in_ok-citation-in-Some.citation ≡ c.args.newest.now = ap Some c.in_ok-citation-in-Some.ensures ∙ sym c.in-Some.is in
    IfOk-weaker c.edit-in-Some.result _ _
    (λ all e. e ∙ put_behind older entry c.requires.numbered (ap (λ n. n + 1) c.len.ensures.value)
    ∙ ap (λ n. older ++ entries (n + 1) (Some c.in_ok-citation-in-Some.citation)) c.len.ensures.value
    ∙ ap (λ o. older ++ entries (length older + 1) o) newest)
    c.edit-in-Some.ensures
