-- Where each citation is decided, the first that hits is found; and a call is refused, or what follows decides.
use Rattle.std.proofs.Common.{◌≡◌, ℕ, zero, suc, ◌⊎◌, inl, inr, List, [], ◌∷◌, Option, Some, None, refl}
use Rattle.std.specs.List.{AllByRecursion}
use Rattle.archive_model.specs.declared.answers.Refused.{Refused}
use Rattle.archive_model.specs.Archives.{Archive, Minted}
use Rattle.archive_model.specs.Outcomes.{Outcome, refuses, RefusedOr}
use Rattle.archive_model.specs.Citing.{IsFirst}

-- where each citation misses or hits, there is a first that hits, or all miss
pub first_or_none : (P Miss Hit : Minted → Type 0) → ((m : Minted) → P m → Miss m ⊎ Hit m) → (ms : List Minted) → AllByRecursion P ms → ((n : ℕ) × IsFirst Miss Hit ms n) ⊎ AllByRecursion Miss ms
first_or_none P Miss Hit decided [] all = inr tt
first_or_none P Miss Hit decided (m ∷ ms) all = by (decided m all.0) (first_or_none P Miss Hit decided ms all.1)
  where
    by : Miss m ⊎ Hit m → ((n : ℕ) × IsFirst Miss Hit ms n) ⊎ AllByRecursion Miss ms → ((n : ℕ) × IsFirst Miss Hit (m ∷ ms) n) ⊎ AllByRecursion Miss (m ∷ ms)
    by (inr hit) more = inl (zero, hit)
    by (inl miss) (inl (n, first)) = inl (suc n, (miss, first))
    by (inl miss) (inr none) = inr (miss, none)

-- a call that is not refused has an outcome, so it has one at all
pub refused_or : {R : Type 0} (a : Archive) (r : Option Refused) (Rest : Outcome R → Type 0) → (r ≡ None → (o : Outcome R) × Rest o) → (o : Outcome R) × RefusedOr a r o (Rest o)
refused_or a None Rest more = more refl
refused_or a (Some x) Rest more = (refuses a x, refl)
