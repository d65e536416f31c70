-- The first fault of a name, as far as the columns were seen.
use Rattle.std.proofs.Common.{◌≡◌, ℕ, suc, ◌<◌, ◌+◌, Bool, true, false, List, [], ◌∷◌, ◌++◌, Some, length, take, drop, get_or, refl, sym, ap, ◌∙◌, arith, drop-cons, length-take}
use Rattle.std.specs.Prelude.{if◌then◌else◌}
use Rattle.std.proofs.lemmas.List.{take_more}
use Rattle.cite_schema.specs.Headings.{name_fault, is_name, is_named_before}
use Rattle.cite_schema.specs.declared.schema.Column.{Column}
use Rattle.cite_schema.specs.declared.schema.SchemaFault.TheVariants.{BadName, NameTwice}

one_more : (i : ℕ) → suc i ≡ i + 1
one_more i = omega arith

-- what stands from a place on is the column there and those behind it
split : (cs : List Column) (i : ℕ) (c : Column) → i < length cs → c ≡ get_or cs i c → drop i cs ≡ c ∷ drop (suc i) cs
split cs i c lt is = drop-cons cs i c lt ∙ ap (λ x. x ∷ drop (suc i) cs) (sym is)

front_length : (cs : List Column) (i : ℕ) → i < length cs → length (take i cs) ≡ i
front_length cs i lt = omega (arith, length-take {A = Column})

by_tests : (m n : Bool) (before cs : List Column) (c : Column) → is_name c.name ≡ m → is_named_before before c.name ≡ n
    → name_fault before (c ∷ cs) ≡ (if m then (if n then Some (NameTwice (length before)) else name_fault (before ++ c ∷ []) cs) else Some (BadName (length before)))
by_tests m n before cs c e f = rw (e, f) refl

pub bad_here : (cs : List Column) (i : ℕ) (c : Column) → i < length cs → c ≡ get_or cs i c → is_name c.name ≡ false → name_fault (take i cs) (drop i cs) ≡ Some (BadName i)
bad_here cs i c lt is bad =
    ap (name_fault (take i cs)) (split cs i c lt is) ∙ by_tests false (is_named_before (take i cs) c.name) (take i cs) (drop (suc i) cs) c bad refl
    ∙ ap (λ n. Some (BadName n)) (front_length cs i lt)

pub twice_here : (cs : List Column) (i : ℕ) (c : Column) → i < length cs → c ≡ get_or cs i c → is_name c.name ≡ true → is_named_before (take i cs) c.name ≡ true
    → name_fault (take i cs) (drop i cs) ≡ Some (NameTwice i)
twice_here cs i c lt is good twice =
    ap (name_fault (take i cs)) (split cs i c lt is) ∙ by_tests true true (take i cs) (drop (suc i) cs) c good twice
    ∙ ap (λ n. Some (NameTwice n)) (front_length cs i lt)

pub good_here : (cs : List Column) (i : ℕ) (c : Column) → i < length cs → c ≡ get_or cs i c → is_name c.name ≡ true → is_named_before (take i cs) c.name ≡ false
    → name_fault (take i cs) (drop i cs) ≡ name_fault (take (i + 1) cs) (drop (i + 1) cs)
good_here cs i c lt is good new =
    ap (name_fault (take i cs)) (split cs i c lt is) ∙ by_tests true false (take i cs) (drop (suc i) cs) c good new
    ∙ ap (λ front. name_fault front (drop (suc i) cs)) (ap (λ x. take i cs ++ x ∷ []) is ∙ sym (take_more cs i c lt))
    ∙ ap (λ j. name_fault (take (i + 1) cs) (drop j cs)) (one_more i)
