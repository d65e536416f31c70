-- Which limit of some counts is passed first.
use Rattle.std.proofs.Common.{◌≡◌, ℕ, ◌<◌, ◌≤◌, Bool, true, false, cond, List, [], ◌∷◌, Option, Some, None, min, refl, ap, ◌∙◌, arith}
use Rattle.std.specs.Prelude.{option_map, nat_lt}
use Rattle.std.specs.List.{AllByRecursion, find}
use Rattle.std.proofs.lemmas.Bool.Decides.{nat_tests}
use Rattle.archive_model.specs.Limits.{Counted, limit, limit_number, quantity}
use Rattle.archive_model.specs.Archives.{Archive}
use Rattle.archive_model.specs.declared.answers.Refused.TheVariants as refusals
use Rattle.archive_model.specs.Outcomes.{over}
use Rattle.archive_state.specs.Limiting.{passed}

-- the test of a number over a limit
pub is_over : (most n : ℕ) → most < n → nat_lt most n ≡ true
is_over most n h = grind (arith, nat_tests)

-- and of one within it
pub is_within : (most n : ℕ) → n ≤ most → nat_lt most n ≡ false
is_within most n h = grind (arith, nat_tests)

-- where the test fails, the number is within the limit
pub not_over : (most n : ℕ) → nat_lt most n ≡ false → n ≤ most
not_over most n h = grind (arith, nat_tests)

-- the first count is over its limit
pub passed_here : (amounts : Counted → ℕ) (c : Counted) (cs : List Counted) → limit c < amounts c → passed amounts (c ∷ cs) ≡ Some (limit_number c)
passed_here amounts c cs h = ap (λ b. option_map limit_number (cond b (Some c) (find (λ d. nat_lt (limit d) (amounts d)) cs))) (is_over (limit c) (amounts c) h)

-- it is not, and the others decide
pub passed_later : (amounts : Counted → ℕ) (c : Counted) (cs : List Counted) → amounts c ≤ limit c → passed amounts (c ∷ cs) ≡ passed amounts cs
passed_later amounts c cs h = ap (λ b. option_map limit_number (cond b (Some c) (find (λ d. nat_lt (limit d) (amounts d)) cs))) (is_within (limit c) (amounts c) h)

-- tests that say the same of each element find the same one
pub same_found : {X : Type 0} (p q : X → Bool) (xs : List X) → AllByRecursion (λ x. p x ≡ q x) xs → find p xs ≡ find q xs
same_found p q [] h = refl
same_found p q (x ∷ xs) h = ap (λ b. cond b (Some x) (find p xs)) h.0 ∙ ap (λ o. cond (q x) (Some x) o) (same_found p q xs h.1)

-- a refusal names the limit's number
mapped_twice : (o : Option Counted) → option_map (λ c. refusals.Full (limit_number c)) o ≡ option_map (λ l. refusals.Full l) (option_map limit_number o)
mapped_twice None = refl
mapped_twice (Some c) = refl

-- what would be passed is what an archive is over, where as much is counted in the archive as far as the limits tell
pub over_is_passed : (a : Archive) (amounts : Counted → ℕ) (cs : List Counted) → AllByRecursion (λ c. nat_lt (limit c) (quantity a c) ≡ nat_lt (limit c) (amounts c)) cs
    → over a cs ≡ option_map (λ l. refusals.Full l) (passed amounts cs)
over_is_passed a amounts cs h =
    ap (option_map (λ c. refusals.Full (limit_number c))) (same_found (λ c. nat_lt (limit c) (quantity a c)) (λ c. nat_lt (limit c) (amounts c)) cs h)
    ∙ mapped_twice (find (λ c. nat_lt (limit c) (amounts c)) cs)

-- where none is passed, each is within
pub none_passed : (amounts : Counted → ℕ) (cs : List Counted) → passed amounts cs ≡ None → AllByRecursion (λ c. amounts c ≤ limit c) cs
none_passed amounts [] e = tt
none_passed amounts (c ∷ cs) e = by (nat_lt (limit c) (amounts c)) refl e (λ k. none_passed amounts cs k)
  where
    by : (b : Bool) → nat_lt (limit c) (amounts c) ≡ b → option_map limit_number (cond b (Some c) (find (λ d. nat_lt (limit d) (amounts d)) cs)) ≡ None
        → (passed amounts cs ≡ None → AllByRecursion (λ d. amounts d ≤ limit d) cs) → (amounts c ≤ limit c) × AllByRecursion (λ d. amounts d ≤ limit d) cs
    by true h k more = absurd (cc)
    by false h k more = (not_over (limit c) (amounts c) h, more k)

-- a count that is capped far above its limit is over it where the whole is
pub capped_over : (most cap n : ℕ) → most < cap → nat_lt most n ≡ nat_lt most (min n cap)
capped_over most cap n h = grind (arith, nat_tests)

-- and is the whole where it is within
pub uncapped : (most cap n : ℕ) → most < cap → min n cap ≤ most → min n cap ≡ n
uncapped most cap n h k = omega arith
