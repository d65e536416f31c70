use Rattle.std.proofs.Common.{◌≡◌, subst, arith, Option, ℕ, false, take, nat_lt, count_by, ◌==◌}
use Rattle.std.proofs.lemmas.Bool.Decides.{nat_tests}
use Rattle.cite_http.specs.Heads.{HeadEnd}
use Rattle.cite_http.proofs.Searching.{searched_all, searched_head}
use Rattle.cite_http.proofs.reading.find.Goals as goal

pub returns-then-text-lt16384-clause-searched : goal.returns-then-text-lt16384-clause-searched
returns-then-text-lt16384-clause-searched c =
    let P : Option ℕ → Type 0 = λ o. HeadEnd c.args.text.now o in
    searched_all c.args.text.now (subst P c.in_default.is c.find_end.ensures) (omega arith)

pub returns-clause-searched : goal.returns-clause-searched
returns-clause-searched c =
    let P : Option ℕ → Type 0 = λ o. HeadEnd c.args.text.now o in
    let t : nat_lt 66 (count_by (λ b. b == 10) (take c.in-Some.n c.args.text.now)) ≡ false = rw (← c.feeds.ensures) (grind (arith, nat_tests)) in
    searched_head c.args.text.now c.in-Some.n c.with_head.result (subst P c.in-Some.is c.find_end.ensures) t c.with_head.ensures.waits c.with_head.ensures.searched
