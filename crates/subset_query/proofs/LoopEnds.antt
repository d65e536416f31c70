-- What a loop over a list has shown once nothing is left of the list.
use Rattle.std.proofs.Common.{◌≡◌, ℕ, suc, ◌+◌, ◌<◌, ◌≤◌, Bool, true, false, ◌&&◌, ◌||◌, List, drop, drop-cons, get_or, length, refl, ap, sym, ◌∙◌, arith}
use Rattle.std.specs.List.{list_all, list_any}
use Rattle.std.proofs.Math.Bool.{or_assoc}
use Rattle.std.proofs.Math.ListN.{drop_of_length-le}

or_false : (b : Bool) → b ≡ (b || false)
or_false true = refl
or_false false = refl

and_true : (b : Bool) → b ≡ (b && true)
and_true true = refl
and_true false = refl

-- some element passes, as far as was looked, or one of the rest; and there is no rest
pub any_at_end : {X : Type 0} (test : X → Bool) (so_far whole : Bool) (xs : List X) (i : ℕ) → length xs ≤ i → (so_far || list_any test (drop i xs)) ≡ whole → so_far ≡ whole
any_at_end test so_far whole xs i e h = or_false so_far ∙ ap (λ rest. so_far || list_any test rest) (sym (drop_of_length-le xs {i = i} e)) ∙ h

-- each element passes, as far as was looked, and each of the rest; and there is no rest
pub all_at_end : {X : Type 0} (test : X → Bool) (so_far whole : Bool) (xs : List X) (i : ℕ) → length xs ≤ i → (so_far && list_all test (drop i xs)) ≡ whole → so_far ≡ whole
all_at_end test so_far whole xs i e h = and_true so_far ∙ ap (λ rest. so_far && list_all test rest) (sym (drop_of_length-le xs {i = i} e)) ∙ h

after : (i : ℕ) → suc i ≡ i + 1
after i = omega arith

-- some element from a place on passes where the one there does or one behind it
any_from : {X : Type 0} (test : X → Bool) (xs : List X) (i : ℕ) (d : X) → i < length xs → d ≡ get_or xs i d → list_any test (drop i xs) ≡ (test d || list_any test (drop (i + 1) xs))
any_from test xs i d lt is =
    ap (list_any test) (drop-cons xs i d lt)
    ∙ ap (λ y. test y || list_any test (drop (suc i) xs)) (sym is)
    ∙ ap (λ j. test d || list_any test (drop j xs)) (after i)

-- a look at one element more
pub any_one_more : {X : Type 0} (test : X → Bool) (xs : List X) (i : ℕ) (d : X) (so_far now whole : Bool) → i < length xs → d ≡ get_or xs i d
    → now ≡ (so_far || test d) → (so_far || list_any test (drop i xs)) ≡ whole → (now || list_any test (drop (i + 1) xs)) ≡ whole
any_one_more test xs i d so_far now whole lt is e h =
    ap (λ b. b || list_any test (drop (i + 1) xs)) e
    ∙ or_assoc so_far (test d) (list_any test (drop (i + 1) xs))
    ∙ ap (λ b. so_far || b) (sym (any_from test xs i d lt is))
    ∙ h
