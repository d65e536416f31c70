-- Rows of kept rows and of lines, counted and weighed.
use Rattle.std.proofs.Common.{◌≡◌, ℕ, ◌+◌, List, [], ◌∷◌, ◌++◌, ◌-◌, ◌^◌, ◌≤◌, min, IsPermutation, refl, sym, ap, ◌∙◌, arith}
use Rattle.std.specs.List.{sum_by}
use Rattle.std.proofs.lemmas.List.Sums.{sum_by-cons}
use Rattle.std.proofs.lemmas.List.Sorted.{sum_by-IsPermutation}
use Rattle.cite_schema.specs.declared.value.Value.{Value}
use Rattle.cite_schema.specs.declared.line.Line.{Line}
use Rattle.cite_schema.specs.declared.line.Line.TheVariants.{Put, Change, Remove}
use Rattle.cite_schema.specs.Lines.{brought}
use Rattle.versioned_rows.specs.Weights.{row_weight, rows_weight}

-- the row that a line brings, as a list
abbrev pub brought_by : Line → List (List Value)
brought_by (Put r) = r ∷ []
brought_by (Change r) = r ∷ []
brought_by (Remove v) = []

pub brought-cons : (l : Line) (ls : List Line) → brought (l ∷ ls) ≡ brought_by l ++ brought ls
brought-cons (Put r) ls = refl
brought-cons (Change r) ls = refl
brought-cons (Remove v) ls = refl

weight_sum : (rows : List (List Value)) → rows_weight rows ≡ sum_by row_weight rows
weight_sum [] = refl
weight_sum (r ∷ rs) = ap (λ n. row_weight r + n) (weight_sum rs) ∙ sym (sum_by-cons row_weight r rs)

-- rows weigh the same in any order
pub rows_weight-permutation : (xs ys : List (List Value)) → IsPermutation xs ys → rows_weight ys ≡ rows_weight xs
rows_weight-permutation xs ys p = weight_sum ys ∙ sum_by-IsPermutation row_weight xs ys p ∙ sym (weight_sum xs)

pub rows_weight-append : (xs ys : List (List Value)) → rows_weight (xs ++ ys) ≡ rows_weight xs + rows_weight ys
rows_weight-append [] ys = omega arith
rows_weight-append (x ∷ xs) ys = let more = rows_weight-append xs ys in omega arith

-- a capped sum with nothing more to come
pub capped_end : (sum more all : ℕ) → more ≡ 0 → sum ≤ 2 ^ 64 - 1 → min (sum + more) (2 ^ 64 - 1) ≡ min all (2 ^ 64 - 1) → sum ≡ min all (2 ^ 64 - 1)
capped_end sum more all e l h = small sum more e l ∙ h
  where
    small : (sum more : ℕ) → more ≡ 0 → sum ≤ 2 ^ 64 - 1 → sum ≡ min (sum + more) (2 ^ 64 - 1)
    small sum more e l = omega arith
