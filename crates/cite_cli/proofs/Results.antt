-- The rows that were picked, in the order of the form, are the answer of the query on the table of the input.
use Rattle.std.proofs.Common.{◌≡◌, ◌≢◌, ◌<◌, ℕ, Bool, true, false, cond, List, [], ◌∷◌, None, length, filter, refl, sym, ap, ◌∙◌, subst, arith, IsPermutation}
use Rattle.std.specs.Option.{option_or}
use Rattle.std.proofs.lemmas.List.Sorted.{IsPermutation-sym, IsPermutation-trans}
use Rattle.std.specs.declared.cmp.Ordering.TheVariants.{Equal}
use Rattle.std.proofs.lemmas.List.Kept.{AllPairs-filter}
use Rattle.cite_schema.specs.declared.value.Value.{Value}
use Rattle.cite_schema.specs.declared.schema.Column.{Column}
use Rattle.cite_schema.specs.declared.item.Item.{Item}
use Rattle.cite_schema.specs.Answers.{Alike, IsAnswer, Gives}
use Rattle.cite_schema.specs.Layout.{laid_out}
use Rattle.cite_schema.specs.Queries.{asked}
use Rattle.cite_schema.specs.Tables.{key_cmp}
use Rattle.cite_schema.specs.TableTexts.{IsTableOf, Spells}
use Rattle.cite_schema.proofs.Arranging.{arranged, arranged_keeps}
use Rattle.cite_schema.proofs.Orders.{key_total}
use Rattle.cite_schema.proofs.TableTexts.{has_table, is_table_of}
use Rattle.subset_query.specs.Forms.{formed, IsSettled}
use Rattle.subset_query.specs.Keys.{HaveOwnKeys}
use Rattle.subset_query.specs.declared.form.Normal.{Normal}
use Rattle.subset_query.specs.declared.form.Normal.TheVariants as normal
use Rattle.cite_cli.specs.declared.bounds.Bounds.{Bounds}
use Rattle.csv_records.specs.Records.{records_of}
use Rattle.cite_cli.specs.Refusals.{column_fault, lines_fault, table_fault, records_fault}
use Rattle.cite_cli.specs.Parts.{IsHeader, ArePicked}
use Rattle.cite_cli.specs.Select.{select_query, IsResult}

-- what passes a test once passes it again
filter_again : {X : Type 0} (p : X → Bool) (xs : List X) → filter p (filter p xs) ≡ filter p xs
filter_again p [] = refl
filter_again p (x ∷ xs) = by (p x) refl (filter_again p xs)
  where
    by : (b : Bool) → p x ≡ b → filter p (filter p xs) ≡ filter p xs → filter p (cond b (x ∷ filter p xs) (filter p xs)) ≡ cond b (x ∷ filter p xs) (filter p xs)
    by true e more = ap (λ b. cond b (x ∷ filter p (filter p xs)) (filter p (filter p xs))) e ∙ ap (λ l. x ∷ l) more
    by false e more = more

-- the settled form of a query shows something
pub some_items : (columns : List Column) (form : Normal) → IsSettled columns form → 0 < length (formed form).items
some_items columns (normal.Nothing []) settled = absurd (settled refl)
some_items columns (normal.Nothing (l ∷ ls)) settled = omega arith
some_items columns (normal.Some sets [] order) settled = absurd (settled.some_item refl)
some_items columns (normal.Some sets (i ∷ is) order) settled = omega arith

-- the picked rows have keys of their own
pub picked_apart : (columns : List Column) (keeps : List Value → Bool) (lines : List (List (List ℕ))) (picked : List (List Value)) → ArePicked columns keeps lines picked → HaveOwnKeys picked
picked_apart columns keeps lines picked are = subst HaveOwnKeys (sym are.picked_are) (AllPairs-filter (λ r t. key_cmp r t ≢ Equal) keeps are.rows are.apart)

module _ (column : List ℕ) (bounds : Bounds) (text : List ℕ) (columns : List Column) (lines : List (List (List ℕ))) (form : Normal) (picked : List (List Value))
    (header : IsHeader columns (records_of text) lines) (good : column_fault columns column ≡ None)
    (alike : Alike columns (asked columns (select_query columns column bounds)) (formed form)) (are : ArePicked columns (formed form).keeps lines picked) where
  table : List (List Value)
  table = arranged key_cmp key_total are.rows

  tabled : IsTableOf columns lines table
  unfolding table
  tabled = has_table columns lines are.rows are.read are.apart

  unbroken : records_fault column (records_of text) ≡ None
  unbroken = ap (records_fault column) header.records_are ∙ ap (λ h. table_fault column h lines) header.spelled ∙ ap (λ o. option_or o (lines_fault columns [] lines)) good ∙ are.unbroken

  spelled : Spells (records_of text) columns table
  spelled = subst (λ (records : List (List (List ℕ))). Spells records columns table) (sym header.records_are) (header.spelled, tabled)

  -- the rows of the answer on the picked rows are those of the answer on the table
  given : (out : List (List Value)) → IsAnswer (formed form) picked out → Gives (formed form) table (laid_out (formed form).items out)
  unfolding table
  given out answer =
      let again : filter (formed form).keeps picked ≡ filter (formed form).keeps are.rows = ap (filter (formed form).keeps) are.picked_are ∙ filter_again (formed form).keeps are.rows in
      record {
        rows = out;
        answer = record {
          same = IsPermutation-trans (filter (formed form).keeps table) (filter (formed form).keeps are.rows) out
              (IsPermutation-sym (filter (formed form).keeps are.rows) (filter (formed form).keeps table) (arranged_keeps key_cmp key_total (formed form).keeps are.rows))
              (subst (λ (kept : List (List Value)). IsPermutation kept out) again answer.same);
          in_order = answer.in_order;
        };
        bytes = refl;
      }

  -- so their lines are the result
  pub is_result : (items : List Item) (out : List (List Value)) (bytes : List ℕ) → IsAnswer (formed form) picked out → items ≡ (formed form).items → bytes ≡ laid_out items out → IsResult column bounds text bytes
  is_result items out bytes answer shown is = record {
    unbroken = unbroken;
    columns = columns;
    table = table;
    spelled = spelled;
    given = subst (λ (b : List ℕ). Gives (asked columns (select_query columns column bounds)) table b) (sym (is ∙ ap (λ i. laid_out i out) shown))
        ((alike table (is_table_of columns lines table tabled) (laid_out (formed form).items out)).1 (given out answer));
  }
