-- The words of a command as a list.
use Rattle.std.proofs.Common.{◌≡◌, ◌<◌, ◌≤◌, List, [], ◌∷◌, map, length, get_or, drop, refl, ap, sym, ◌∙◌, arith, subst, ℕ, codes}
use Rattle.cite_schema.specs.declared.schema.Column.{Column}
use Rattle.cite_schema.specs.declared.dataset.Dataset.{Dataset}
use Rattle.cite_cli.specs.declared.bounds.Bounds.{Bounds}
use Rattle.cite_cli.specs.Select.{AreBounds, IsSelect}
use Rattle.cite_cli.specs.Init.{said_column, IsInit}

pub four_words : {A B : Type 0} (f : A → B) (xs : List A) (a b c d : A) → 4 ≤ length xs → length xs < 5 → a ≡ get_or xs 0 a → b ≡ get_or xs 1 b → c ≡ get_or xs 2 c → d ≡ get_or xs 3 d
    → map f xs ≡ f a ∷ f b ∷ f c ∷ f d ∷ []
four_words f [] a b c d le lt p q r s = absurd (omega arith)
four_words f (u ∷ []) a b c d le lt p q r s = absurd (omega arith)
four_words f (u ∷ v ∷ []) a b c d le lt p q r s = absurd (omega arith)
four_words f (u ∷ v ∷ w ∷ []) a b c d le lt p q r s = absurd (omega arith)
four_words f (u ∷ v ∷ w ∷ x ∷ []) a b c d le lt p q r s = rw (p, q, r, s) refl
four_words f (u ∷ v ∷ w ∷ x ∷ y ∷ more) a b c d le lt p q r s = absurd (omega arith)

-- words that say no bounds are no `select`
pub no_bounds : (words : List (List ℕ)) (command column low high : List ℕ) → words ≡ command ∷ column ∷ low ∷ high ∷ [] → ((bounds : Bounds) → AreBounds low high bounds → ⊥) → (other : List ℕ) (bounds : Bounds) → IsSelect words other bounds → ⊥
no_bounds words command column low high e none other bounds form =
    let l : form.low ≡ low = cc in
    let h : form.high ≡ high = cc in
    none bounds (subst (λ (t : List ℕ). AreBounds t high bounds) l (subst (λ (t : List ℕ). AreBounds form.low t bounds) h form.bounds_are))

map_after : {A : Type 0} (f : A → List ℕ) (xs : List A) → map (λ w. said_column (f w)) xs ≡ map said_column (map f xs)
map_after f [] = refl
map_after f (x ∷ xs) = ap (λ (cs : List Column). said_column (f x) ∷ cs) (map_after f xs)

-- six words or more, of which the first is `init`
pub init_form : {A : Type 0} (f : A → List ℕ) (xs : List A) (a b c d e : A) (rest : List A) → 5 ≤ length xs → a ≡ get_or xs 0 a → b ≡ get_or xs 1 b → c ≡ get_or xs 2 c → d ≡ get_or xs 3 d → e ≡ get_or xs 4 e
    → rest ≡ drop 5 xs → (rest ≡ [] → ⊥) → f a ≡ codes "init"
    → IsInit (map f xs) (record { prefix = f b; publisher = f c; creator = f d; title = f e }) (map (λ w. said_column (f w)) rest)
init_form f [] a b c d e rest le p q r s t same some init = absurd (omega arith)
init_form f (u ∷ []) a b c d e rest le p q r s t same some init = absurd (omega arith)
init_form f (u ∷ v ∷ []) a b c d e rest le p q r s t same some init = absurd (omega arith)
init_form f (u ∷ v ∷ w ∷ []) a b c d e rest le p q r s t same some init = absurd (omega arith)
init_form f (u ∷ v ∷ w ∷ x ∷ []) a b c d e rest le p q r s t same some init = absurd (omega arith)
init_form f (u ∷ v ∷ w ∷ x ∷ y ∷ []) a b c d e rest le p q r s t same some init = absurd (some same)
init_form f (u ∷ v ∷ w ∷ x ∷ y ∷ z ∷ more) a b c d e rest le p q r s t same some init = record {
  first = f z;
  more = map f more;
  words_are =
      let h : f u ≡ codes "init" = ap f (sym p) ∙ init in
      rw (h, q, r, s, t) refl;
  columns_are = ap (map (λ w. said_column (f w))) same ∙ map_after f (z ∷ more);
}
