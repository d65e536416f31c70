-- The first fault of a list.
use Rattle.std.proofs.Common.{◌≡◌, List, [], ◌∷◌, Option, Some, None, refl, ap, ◌∙◌}
use Rattle.std.specs.Option.{option_or}
use Rattle.subset_query.specs.Checks.{first_of}
use Rattle.subset_query.specs.declared.checks.QueryFault.{QueryFault}

-- behind a fault that does not apply the others are told
first_of-none : (o : Option QueryFault) (faults : List (Option QueryFault)) → o ≡ None → first_of (o ∷ faults) ≡ first_of faults
first_of-none o faults e = ap (λ k. first_of (k ∷ faults)) e

-- of one alone that one
first_of-last : (o : Option QueryFault) → first_of (o ∷ []) ≡ o
first_of-last None = refl
first_of-last (Some fault) = refl

-- of five of which four do not apply the fifth
pub five_faults : (a b c d e : Option QueryFault) → a ≡ None → b ≡ None → c ≡ None → d ≡ None → first_of (a ∷ b ∷ c ∷ d ∷ e ∷ []) ≡ e
five_faults a b c d e na nb nc nd = first_of-none a _ na ∙ first_of-none b _ nb ∙ first_of-none c _ nc ∙ first_of-none d _ nd ∙ first_of-last e

-- where no fault of the first list applies, the second list tells
pub behind : (a b : Option QueryFault) → a ≡ None → option_or a b ≡ b
behind a b e = ap (λ k. option_or k b) e
