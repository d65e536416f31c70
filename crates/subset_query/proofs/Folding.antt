-- What is said of a condition that holds others, from what is said of those.
use Rattle.std.proofs.Common.{◌≡◌, ◌≢◌, ℕ, ◌+◌, ◌-◌, Bool, not, ◌&&◌, ◌||◌, List, [], ◌∷◌, map, refl, ap, sym, ◌∙◌, arith}
use Rattle.std.specs.Prelude.{nat_lt, max}
use Rattle.std.specs.List.{list_all, list_any}
use Rattle.std.proofs.lemmas.Bool.Decides.{nat_tests}
use Rattle.cite_schema.specs.Conditions.{meets, meets_step}
use Rattle.cite_schema.specs.declared.value.Value.{Value}
use Rattle.cite_schema.specs.declared.condition.Cond.{Cond, AllOf, AnyOf, Not}
use Rattle.cite_schema.specs.declared.condition.Cond.TheOpen as open_
use Rattle.cite_schema.specs.declared.condition.Cond.TheOpen.{Cond-F}
use Rattle.cite_schema.specs.declared.condition.Cond.TheVariants.{rolls-AllOf, rolls-AnyOf, rolls-Not}
use Rattle.cite_schema.specs.declared.condition.Cond.TheFolds.{fold-Cond, fold-roll-Cond}
use Rattle.subset_query.specs.Checks.{greatest, depth_of, depth_step, all_pass, passes_step}

-- a fold of a conjunction is a step over the folds of its members
pub fold-AllOf : (A : Type 0) (step : Cond-F A → A) (cs : List Cond) → fold-Cond A step (AllOf cs) ≡ step (open_.AllOf (map (fold-Cond A step) cs))
fold-AllOf A step cs = ap (fold-Cond A step) (sym (rolls-AllOf cs)) ∙ fold-roll-Cond A step (open_.AllOf cs)

-- likewise of a disjunction
pub fold-AnyOf : (A : Type 0) (step : Cond-F A → A) (cs : List Cond) → fold-Cond A step (AnyOf cs) ≡ step (open_.AnyOf (map (fold-Cond A step) cs))
fold-AnyOf A step cs = ap (fold-Cond A step) (sym (rolls-AnyOf cs)) ∙ fold-roll-Cond A step (open_.AnyOf cs)

-- a test of all that a function makes of a list
list_all-map : {X Y : Type 0} (p : Y → Bool) (f : X → Y) (xs : List X) → list_all p (map f xs) ≡ list_all (λ x. p (f x)) xs
list_all-map p f [] = refl
list_all-map p f (x ∷ xs) = ap (λ b. p (f x) && b) (list_all-map p f xs)

-- a test of some of what a function makes of a list
list_any-map : {X Y : Type 0} (p : Y → Bool) (f : X → Y) (xs : List X) → list_any p (map f xs) ≡ list_any (λ x. p (f x)) xs
list_any-map p f [] = refl
list_any-map p f (x ∷ xs) = ap (λ b. p (f x) || b) (list_any-map p f xs)

pub meets-AllOf : (cs : List Cond) (x : Value) → meets (AllOf cs) x ≡ list_all (λ c. meets c x) cs
meets-AllOf cs x = ap (λ f. f x) (fold-AllOf (Value → Bool) meets_step cs) ∙ list_all-map (λ m. m x) meets cs

pub meets-AnyOf : (cs : List Cond) (x : Value) → meets (AnyOf cs) x ≡ list_any (λ c. meets c x) cs
meets-AnyOf cs x = ap (λ f. f x) (fold-AnyOf (Value → Bool) meets_step cs) ∙ list_any-map (λ m. m x) meets cs

pub meets-Not : (inner : Cond) (x : Value) → meets (Not inner) x ≡ not (meets inner x)
meets-Not inner x = ap (λ c. meets c x) (sym (rolls-Not inner)) ∙ ap (λ f. f x) (fold-roll-Cond (Value → Bool) meets_step (open_.Not inner))

lt-one_more : (l n : ℕ) → l ≢ 0 → nat_lt l (1 + n) ≡ nat_lt (l - 1) n
lt-one_more l n h = grind (arith, nat_tests)

lt-max : (l a b : ℕ) → nat_lt l (max a b) ≡ (nat_lt l a || nat_lt l b)
lt-max l a b = grind (arith, nat_tests)

-- the deepest member is below a level where one member is
lt-greatest : (l : ℕ) (cs : List Cond) → nat_lt l (greatest (map depth_of cs)) ≡ list_any (λ c. nat_lt l (depth_of c)) cs
lt-greatest l [] = grind (arith, nat_tests)
lt-greatest l (c ∷ cs) = lt-max l (depth_of c) (greatest (map depth_of cs)) ∙ ap (λ b. nat_lt l (depth_of c) || b) (lt-greatest l cs)

-- a conjunction is deeper than a level where one of its members is deeper than the level before
pub deeper-AllOf : (l : ℕ) (cs : List Cond) → l ≢ 0 → list_any (λ c. nat_lt (l - 1) (depth_of c)) cs ≡ nat_lt l (depth_of (AllOf cs))
deeper-AllOf l cs h = sym (lt-greatest (l - 1) cs) ∙ sym (lt-one_more l (greatest (map depth_of cs)) h) ∙ sym (ap (λ n. nat_lt l n) (fold-AllOf ℕ depth_step cs))

-- likewise a disjunction
pub deeper-AnyOf : (l : ℕ) (cs : List Cond) → l ≢ 0 → list_any (λ c. nat_lt (l - 1) (depth_of c)) cs ≡ nat_lt l (depth_of (AnyOf cs))
deeper-AnyOf l cs h = sym (lt-greatest (l - 1) cs) ∙ sym (lt-one_more l (greatest (map depth_of cs)) h) ∙ sym (ap (λ n. nat_lt l n) (fold-AnyOf ℕ depth_step cs))

pub all_pass-AllOf : (test : Value → Bool) (cs : List Cond) → list_all (λ c. all_pass test c) cs ≡ all_pass test (AllOf cs)
all_pass-AllOf test cs = sym (fold-AllOf Bool (passes_step test) cs ∙ list_all-map (λ b. b) (all_pass test) cs)

pub all_pass-AnyOf : (test : Value → Bool) (cs : List Cond) → list_all (λ c. all_pass test c) cs ≡ all_pass test (AnyOf cs)
all_pass-AnyOf test cs = sym (fold-AnyOf Bool (passes_step test) cs ∙ list_all-map (λ b. b) (all_pass test) cs)
