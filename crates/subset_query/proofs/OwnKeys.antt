-- Rows with keys of their own: in tables, among the rows that a form picks, and as they are arranged.
use Rattle.std.proofs.Common.{◌≡◌, ◌≢◌, ℕ, suc, Bool, true, false, cond, IsTrue, List, [], ◌∷◌, refl, sym, subst, filter, IsPermutation, arith}
use Rattle.std.specs.List.{AllByRecursion}
use Rattle.std.specs.Ordering.{is_lt}
use Rattle.std.specs.declared.cmp.Ordering.TheVariants.{Equal}
use Rattle.std.proofs.lemmas.List.Elements.{recursion_from_All}
use Rattle.std.proofs.lemmas.List.Sorted.{IsPermutation-refl}
use Rattle.cite_schema.specs.Tables.{key_cmp, rises, is_table}
use Rattle.cite_schema.specs.Answers.{IsAnswer}
use Rattle.cite_schema.specs.declared.value.Value.{Value}
use Rattle.cite_schema.specs.declared.schema.Column.{Column}
use Rattle.cite_schema.specs.declared.item.Item.{Item}
use Rattle.cite_schema.specs.declared.item.Dir.{Dir}
use Rattle.cite_schema.proofs.Rising.{and_second, differ_from_rises}
use Rattle.cite_schema.proofs.Orders.{key_total}
use Rattle.stable_order.specs.Rows.{by_order, at_column, ToldApart}
use Rattle.stable_order.proofs.Arranged.{rows_rise}
use Rattle.subset_query.specs.Forms.{formed, in_sets}
use Rattle.subset_query.specs.Keys.{HaveOwnKeys}
use Rattle.subset_query.specs.declared.form.ColumnSet.{ColumnSet}
use Rattle.subset_query.specs.declared.form.Normal.TheVariants.{Nothing, Some}

-- the rows of a table have keys of their own
pub table_own : (columns : List Column) (rows : List (List Value)) → IsTrue (is_table columns rows) → HaveOwnKeys rows
table_own columns rows h = differ_from_rises key_cmp key_total rows rows (IsPermutation-refl rows) (and_second _ _ h)

-- rows with keys of their own can be arranged
each_told : (rows : List (List Value)) → HaveOwnKeys rows → ToldApart at_column rows
each_told [] d = tt
each_told (r ∷ rs) d =
    (recursion_from_All (λ t. key_cmp r t ≢ Equal) rs (λ k e lt. d 0 (suc k) e (omega arith) (omega arith)), each_told rs (λ i j e lt le. d (suc i) (suc j) e (omega arith) (omega arith)))

all_kept : {X : Type 0} (P : X → Type 0) (keeps : X → Bool) (xs : List X) → AllByRecursion P xs → AllByRecursion P (filter keeps xs)
all_kept P keeps [] h = tt
all_kept P keeps (x ∷ xs) h = by (keeps x) (all_kept P keeps xs h.1)
  where
    by : (b : Bool) → AllByRecursion P (filter keeps xs) → AllByRecursion P (cond b (x ∷ filter keeps xs) (filter keeps xs))
    by true k = (h.0, k)
    by false k = k

-- so can those of them that pass a test
told_kept : (keeps : List Value → Bool) (rows : List (List Value)) → ToldApart at_column rows → ToldApart at_column (filter keeps rows)
told_kept keeps [] h = tt
told_kept keeps (r ∷ rs) h = by (keeps r) (told_kept keeps rs h.1)
  where
    by : (b : Bool) → ToldApart at_column (filter keeps rs) → ToldApart at_column (cond b (r ∷ filter keeps rs) (filter keeps rs))
    by true k = (all_kept (λ t. key_cmp r t ≢ Equal) keeps rs h.0, k)
    by false k = k

pub kept_told : (keeps : List Value → Bool) (kept rows : List (List Value)) → kept ≡ filter keeps rows → HaveOwnKeys rows → ToldApart at_column kept
kept_told keeps kept rows e h = subst (λ k. ToldApart at_column k) (sym e) (told_kept keeps rows (each_told rows h))

-- the picked rows, arranged, are the form's answer
pub arranged_answer : (sets : List ColumnSet) (items : List Item) (order : List Dir) (rows kept picked : List (List Value)) → kept ≡ filter (in_sets sets) rows → IsPermutation kept picked
    → IsTrue (rises (λ r t. is_lt (by_order at_column order r t)) picked) → IsAnswer (formed (Some sets items order)) rows picked
arranged_answer sets items order rows kept picked e moved in_order = record {
  same = subst (λ k. IsPermutation k picked) e moved;
  in_order = rows_rise order picked in_order;
}

none_kept : {X : Type 0} (xs : List X) → [] ≡ filter (λ x. false) xs
none_kept [] = refl
none_kept (x ∷ xs) = none_kept xs

-- no rows are the answer of a form that picks nothing
pub no_answer : (labels : List (List ℕ)) (rows : List (List Value)) → IsAnswer (formed (Nothing labels)) rows []
no_answer labels rows = record {
  same = subst (λ k. IsPermutation k []) (none_kept rows) (IsPermutation-refl []);
  in_order = refl;
}
