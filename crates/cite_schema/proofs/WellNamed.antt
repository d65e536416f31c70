-- What columns that make a schema are: 1 to 64, each name of the form, and no two of one name.
use Rattle.std.proofs.Common.{◌≡◌, ◌≢◌, ℕ, suc, ◌<◌, ◌≤◌, Bool, true, false, ◌||◌, ◌==◌, IsTrue, List, [], ◌∷◌, ◌++◌, Option, Some, None, length, refl, sym, ap, ◌∙◌, subst, arith, append_assoc}
use Rattle.std.specs.Prelude.{if◌then◌else◌, is_none, nat_lt}
use Rattle.std.specs.List.{AllByRecursion, AllPairs}
use Rattle.std.specs.Ordering.{is_eq}
use Rattle.std.specs.declared.cmp.Ordering.{Ordering}
use Rattle.std.specs.declared.cmp.Ordering.TheVariants.{Less, Equal, Greater}
use Rattle.std.proofs.lemmas.Bool.Decides.{nat_tests}
use Rattle.std.proofs.lemmas.Cmp.{tied_itself}
use Rattle.std.proofs.lemmas.List.Elements.{recursion_from_All, All-from_recursion}
use Rattle.std.proofs.lemmas.List.Folds.{list_any-append}
use Rattle.std.proofs.lemmas.List.Kept.{AllPairs-cons}
use Rattle.cite_schema.specs.Values.{text_cmp}
use Rattle.cite_schema.specs.Headings.{is_name, is_named_before, name_fault, heading_fault, is_heading, AreWellNamed, SchemasAreWellNamed}
use Rattle.cite_schema.specs.declared.schema.Column.{Column}
use Rattle.cite_schema.specs.declared.schema.SchemaFault.{SchemaFault}
use Rattle.cite_schema.specs.declared.schema.SchemaFault.TheVariants.{NoColumns, TooManyColumns, BadName, NameTwice}
use Rattle.cite_schema.proofs.Orders.{text_total, text_exact}

-- the names of the two columns differ
abbrev pub Apart : Column → Column → Type 0
Apart c d = c.name ≢ d.name

was_equal : (o : Ordering) → is_eq o ≡ true → o ≡ Equal
was_equal Less e = cc
was_equal Equal e = refl
was_equal Greater e = cc

unlike : (a b : List ℕ) → is_eq (text_cmp a b) ≡ false → a ≢ b
unlike a b n e = let tied : is_eq (text_cmp a b) ≡ true = ap is_eq (subst (λ t. text_cmp a t ≡ Equal) e (tied_itself text_total a)) in absurd (cc)

differing : (a b : List ℕ) → a ≢ b → is_eq (text_cmp a b) ≡ false
differing a b n = by (is_eq (text_cmp a b)) refl
  where
    by : (t : Bool) → is_eq (text_cmp a b) ≡ t → t ≡ false
    by true e = absurd (n (text_exact a b (was_equal _ e)))
    by false e = refl

either : (a b : Bool) → (a || b) ≡ false → (a ≡ false) × (b ≡ false)
either true b e = absurd (cc)
either false b e = (refl, e)

neither : (a b : Bool) → a ≡ false → b ≡ false → (a || b) ≡ false
neither true b d e = d
neither false b d e = e

-- each of the columns has a name of the form, and one that is new behind those in front
Good : List Column → List Column → Type 0
Good front [] = Unit {0}
Good front (c ∷ cs) = (is_name c.name ≡ true) × (is_named_before front c.name ≡ false) × Good (front ++ c ∷ []) cs

named_fault : List Column → Column → Bool → Bool → Option SchemaFault → Option SchemaFault
named_fault front c good twice rest = if good then (if twice then Some (NameTwice (length front)) else rest) else Some (BadName (length front))

no_fault : (front : List Column) (c : Column) (good twice : Bool) (rest : Option SchemaFault) → named_fault front c good twice rest ≡ None → (good ≡ true) × (twice ≡ false) × (rest ≡ None)
unfolding named_fault
no_fault front c true true rest e = absurd (cc)
no_fault front c true false rest e = (refl, refl, e)
no_fault front c false twice rest e = absurd (cc)

good_fault : (front : List Column) (c : Column) (good twice : Bool) (rest : Option SchemaFault) → good ≡ true → twice ≡ false → named_fault front c good twice rest ≡ rest
unfolding named_fault
good_fault front c good twice rest p q = rw (p, q) refl

good_from : (front cs : List Column) → name_fault front cs ≡ None → Good front cs
unfolding Good named_fault
good_from front [] e = tt
good_from front (c ∷ cs) e =
    let (good, new, rest) = no_fault front c (is_name c.name) (is_named_before front c.name) (name_fault (front ++ c ∷ []) cs) e in
    (good, new, good_from (front ++ c ∷ []) cs rest)

fault_from : (front cs : List Column) → Good front cs → name_fault front cs ≡ None
unfolding Good named_fault
fault_from front [] g = refl
fault_from front (c ∷ cs) g =
    good_fault front c (is_name c.name) (is_named_before front c.name) (name_fault (front ++ c ∷ []) cs) g.0 g.1 ∙ fault_from (front ++ c ∷ []) cs g.2

names_good : (front cs : List Column) → Good front cs → AllByRecursion (λ c. is_name c.name ≡ true) cs
unfolding Good
names_good front [] g = tt
names_good front (c ∷ cs) g = (g.0, names_good (front ++ c ∷ []) cs g.2)

-- the columns behind differ in name from one in front
behind_apart : (front back : List Column) (c : Column) (cs : List Column) → Good (front ++ c ∷ back) cs → AllByRecursion (Apart c) cs
unfolding Good
behind_apart front back c [] g = tt
behind_apart front back c (d ∷ ds) g =
    let split = sym (list_any-append (λ x. is_eq (text_cmp x.name d.name)) front (c ∷ back)) ∙ g.1 in
    let (before, at) = either _ _ split in
    let (here, after) = either _ _ at in
    (unlike c.name d.name here, behind_apart front (back ++ d ∷ []) c ds (subst (λ (f : List Column). Good f ds) (append_assoc front (c ∷ back) (d ∷ [])) g.2))

apart_from : (front cs : List Column) → Good front cs → AllPairs Apart cs
unfolding Good
apart_from front [] g = λ i j d lt le. absurd (omega arith)
apart_from front (c ∷ cs) g = AllPairs-cons Apart c cs (All-from_recursion (Apart c) cs (behind_apart front [] c cs g.2)) (apart_from (front ++ c ∷ []) cs g.2)

-- no column in front has the name of one behind
AllNew : List Column → List Column → Type 0
AllNew front cs = AllByRecursion (λ c. is_named_before front c.name ≡ false) cs

new_more : (front cs : List Column) (c : Column) → AllNew front cs → AllByRecursion (Apart c) cs → AllNew (front ++ c ∷ []) cs
unfolding AllNew
new_more front [] c n a = tt
new_more front (d ∷ ds) c n a =
    (list_any-append (λ x. is_eq (text_cmp x.name d.name)) front (c ∷ []) ∙ neither _ _ n.0 (neither _ false (differing c.name d.name a.0) refl), new_more front ds c n.1 a.1)

good_by : (front cs : List Column) → AllByRecursion (λ c. is_name c.name ≡ true) cs → AllPairs Apart cs → AllNew front cs → Good front cs
unfolding Good AllNew
good_by front [] h a n = tt
good_by front (c ∷ cs) h a n =
    let behind = recursion_from_All (Apart c) cs (λ k e lt. a 0 (suc k) e (omega arith) (omega arith)) in
    (h.0, n.0, good_by (front ++ c ∷ []) cs h.1 (λ i j d lt le. a (suc i) (suc j) d (omega arith) (omega arith)) (new_more front cs c n.1 behind))

all_new : (cs : List Column) → AllNew [] cs
unfolding AllNew
all_new [] = tt
all_new (c ∷ cs) = (refl, all_new cs)

counts : (none many : Bool) (rest : Option SchemaFault) → (if none then Some NoColumns else (if many then Some TooManyColumns else rest)) ≡ None → (none ≡ false) × (many ≡ false) × (rest ≡ None)
counts true many rest e = absurd (cc)
counts false true rest e = absurd (cc)
counts false false rest e = (refl, refl, e)

counted : (none many : Bool) (rest : Option SchemaFault) → none ≡ false → many ≡ false → (if none then Some NoColumns else (if many then Some TooManyColumns else rest)) ≡ rest
counted none many rest p q = rw (p, q) refl

none_there : {A : Type 0} (o : Option A) → is_none o ≡ true → o ≡ None
none_there None e = refl
none_there (Some x) e = absurd (cc)

some_columns : (n : ℕ) → (n == 0) ≡ false → 0 < n
some_columns n e = grind (arith, nat_tests)

few_columns : (n : ℕ) → nat_lt 64 n ≡ false → n ≤ 64
few_columns n e = grind (arith, nat_tests)

not_none : (n : ℕ) → 0 < n → (n == 0) ≡ false
not_none n e = grind (arith, nat_tests)

not_many : (n : ℕ) → n ≤ 64 → nat_lt 64 n ≡ false
not_many n e = grind (arith, nat_tests)

-- columns that make a schema are well named
pub are_well_named : (columns : List Column) → IsTrue (is_heading columns) → AreWellNamed columns
are_well_named columns h =
    let (none, many, rest) = counts (length columns == 0) (nat_lt 64 (length columns)) (name_fault [] columns) (none_there (heading_fault columns) h) in
    let good = good_from [] columns rest in
    record {
      some = some_columns (length columns) none;
      few = few_columns (length columns) many;
      named = All-from_recursion (λ c. is_name c.name ≡ true) columns (names_good [] columns good);
      apart = apart_from [] columns good;
    }

-- columns that are well named make a schema
pub well_named_is : (columns : List Column) → AreWellNamed columns → IsTrue (is_heading columns)
well_named_is columns w =
    let good = good_by [] columns (recursion_from_All (λ c. is_name c.name ≡ true) columns w.named) w.apart (all_new columns) in
    ap is_none (counted (length columns == 0) (nat_lt 64 (length columns)) (name_fault [] columns) (not_none (length columns) w.some) (not_many (length columns) w.few) ∙ fault_from [] columns good)

pub schemas_are_well_named : SchemasAreWellNamed
schemas_are_well_named columns = (are_well_named columns, well_named_is columns)
