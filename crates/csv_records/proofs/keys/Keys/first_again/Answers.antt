use Rattle.std.proofs.Common.{subst, sym, ℕ, ℤ, Option, List}
use Rattle.std.specs.Prelude.{MatchOption}
use Rattle.std.specs.Ordering.{int_cmp}
use Rattle.csv_records.specs.Keys.{ComesAgain, IsLeast, AreApart, IsFirstAgain}
use Rattle.csv_records.proofs.FirstAgain.{first_of_kinds}
use Rattle.csv_records.proofs.keys.Keys.first_again.Goals as goal

pub returns : goal.returns
returns g c bytes keys by_bytes are =
    subst (λ (o : Option ℕ). MatchOption o (AreApart keys) (λ n. IsFirstAgain keys n)) (sym c.lesser.ensures)
    (first_of_kinds g.T.Ord.cmp bytes by_bytes c.args.self keys c.least_again-number.result c.least_again-text.result are
    (subst (λ (l : List (ℤ × ℕ)). IsLeast (ComesAgain int_cmp l) c.least_again-number.result) c.as_mut_slice.ensures.value c.least_again-number.ensures)
    (subst (λ l. IsLeast (ComesAgain g.T.Ord.cmp l) c.least_again-text.result) c.as_mut_slice-2.ensures.value c.least_again-text.ensures))
