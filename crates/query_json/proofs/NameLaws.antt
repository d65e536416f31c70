-- The order of the columns' names.
use Rattle.std.proofs.Common.{◌≡◌, ℕ, List, [], ◌∷◌, ◌++◌, map, Option, Some, None, option_map, string_bytes, refl, sym, ap, ◌∙◌, subst}
use Rattle.std.proofs.lemmas.List.{append-nil}
use Rattle.std.specs.List.{AllByRecursion}
use Rattle.std.specs.List.Sorted.{IsStrictlySortedBy}
use Rattle.std.specs.Map.{keys_of}
use Rattle.std.specs.String.{string_cmp}
use Rattle.std.specs.declared.cmp.Ordering.TheVariants.{Less}
use Rattle.serde_json.specs.View.{view, members_view}
use Rattle.cite_schema.specs.Values.{text_cmp}
use Rattle.cite_schema.specs.TableTexts.{before}
use Rattle.cite_schema.specs.declared.condition.Cond.{Cond}
use Rattle.cite_schema.specs.declared.query.OnColumn.{OnColumn}
use Rattle.query_json.specs.Conditions.{condition_of}
use Rattle.query_json.specs.Queries.{column_conditions, on_column, NamesRise}
use Rattle.query_json.proofs.MemberLaws.{Entry}

abbrev column_names : List OnColumn → List (List ℕ)
column_names conditions = map (λ c. c.column) conditions

abbrev entry_names : List Entry → List (List ℕ)
entry_names es = map (λ e. string_bytes e.0) es

-- one more condition has one more name
names_more : (name : List ℕ) (names : List (List ℕ)) (first : Option Cond) (rest : Option (List OnColumn)) (conditions : List OnColumn)
    → ((cs : List OnColumn) → rest ≡ Some cs → column_names cs ≡ names)
    → before (option_map (on_column name) first) rest ≡ Some conditions → column_names conditions ≡ name ∷ names
names_more name names None rest conditions of_rest h = cc
names_more name names (Some c) None conditions of_rest h = cc
names_more name names (Some c) (Some cs) conditions of_rest h =
    let same : on_column name c ∷ cs ≡ conditions = cc in
    ap column_names (sym same) ∙ ap (λ ns. name ∷ ns) (of_rest cs refl)

-- the conditions of an object have its members' names
names_of : (es : List Entry) (conditions : List OnColumn) → column_conditions (members_view es) ≡ Some conditions → column_names conditions ≡ entry_names es
names_of [] conditions h = let same : [] ≡ conditions = cc in ap column_names (sym same)
names_of (e ∷ es) conditions h =
    names_more (string_bytes e.0) (entry_names es) (condition_of (view e.1)) (column_conditions (members_view es)) conditions (names_of es) h

-- a name that is below the members' names as strings is below them as bytes
below_names : (e : Entry) (es : List Entry) → AllByRecursion (λ k. string_cmp e.0 k ≡ Less) (keys_of es)
    → AllByRecursion (λ n. text_cmp (string_bytes e.0) n ≡ Less) (entry_names es)
below_names e [] h = tt
below_names e (x ∷ es) h = (h.0, below_names e es h.1)

-- the names of members in order rise
names_sorted : (es : List Entry) → IsStrictlySortedBy string_cmp (keys_of es) → IsStrictlySortedBy text_cmp (entry_names es)
unfolding IsStrictlySortedBy
names_sorted [] h = tt
names_sorted (e ∷ es) h = (below_names e es h.0, names_sorted es h.1)

-- no condition has no name
pub NamesRise-empty : (conditions : List OnColumn) → conditions ≡ [] → NamesRise conditions
unfolding IsStrictlySortedBy
NamesRise-empty conditions none = let P : List OnColumn → Type 0 = NamesRise in subst P (sym none) tt

-- the names of an object's conditions rise
pub NamesRise-column_conditions : (es : List Entry) (conditions : List OnColumn) → IsStrictlySortedBy string_cmp (keys_of es)
    → column_conditions (members_view es) ≡ Some conditions → NamesRise conditions
NamesRise-column_conditions es conditions ordered h =
    let P : List (List ℕ) → Type 0 = λ names. IsStrictlySortedBy text_cmp names in
    subst P (sym (names_of es conditions h)) (names_sorted es ordered)

-- the same at the end of a loop that put the conditions behind one another
pub NamesRise-read : (es left : List Entry) (conditions : List OnColumn) → IsStrictlySortedBy string_cmp (keys_of es)
    → option_map (λ more. conditions ++ more) (column_conditions (members_view left)) ≡ column_conditions (members_view es)
    → left ≡ [] → NamesRise conditions
NamesRise-read es left conditions ordered invariant none =
    let read : Some (conditions ++ []) ≡ column_conditions (members_view es) =
    ap (λ l. option_map (λ more. conditions ++ more) (column_conditions (members_view l))) (sym none) ∙ invariant in
    NamesRise-column_conditions es conditions ordered (sym read ∙ ap Some (append-nil conditions))
