-- Settled forms that give the same bytes on every table are the same, and the other way round.
use Rattle.std.proofs.Common.{◌≡◌, ◌≢◌, ℕ, Bool, true, false, List, [], ◌∷◌, map, refl, sym, ap, ◌∙◌, subst}
use Rattle.std.specs.Ordering.{ordering_reverse}
use Rattle.std.specs.declared.cmp.Ordering.{Ordering}
use Rattle.std.specs.declared.cmp.Ordering.TheVariants.{Less, Equal, Greater}
use Rattle.cite_schema.specs.declared.schema.Column as schema_column
use Rattle.cite_schema.specs.declared.value.Value.{Value}
use Rattle.cite_schema.specs.declared.item.Item.{Item}
use Rattle.cite_schema.specs.declared.item.Dir.{Dir}
use Rattle.cite_schema.specs.declared.item.Shown.TheVariants.{Constant}
use Rattle.cite_schema.specs.Answers.{Plan, Alike, order_cmp}
use Rattle.cite_schema.specs.Tables.{fits, key_cmp}
use Rattle.subset_query.specs.declared.form.ColumnSet.{ColumnSet}
use Rattle.subset_query.specs.declared.form.Normal.{Normal}
use Rattle.subset_query.specs.declared.form.Normal.TheVariants.{Nothing, Some}
use Rattle.subset_query.specs.Forms.{formed, in_sets, IsForm, IsSettled}
use Rattle.cite_schema.specs.Queries.{asked}
use Rattle.subset_query.specs.FormLaws.{SettledFormsAreCanonical, QueriesHaveOneForm}
use Rattle.subset_query.proofs.Alikes.{alike_self, alike_back, alike_on}
use Rattle.subset_query.proofs.PlanLaws.{same_labels, kept_there, same_order, same_turned}
use Rattle.subset_query.proofs.Sets.{some_row, one_sets}
use Rattle.subset_query.proofs.Items.{same_items}
use Rattle.subset_query.proofs.Orders.{same_orders, OneWay, key_turned}

labels_of : (ls : List (List ℕ)) → map (λ (i : Item). i.label) (map (λ l. record { label = l; what = Constant [] }) ls) ≡ ls
labels_of [] = refl
labels_of (l ∷ ls) = ap (λ w. l ∷ w) (labels_of ls)

pub some_items : (a : Normal) (s : List schema_column.Column) → IsSettled s a → (formed a).items ≢ []
some_items (Nothing []) s h e = h refl
some_items (Nothing (l ∷ ls)) s h e = cc
some_items (Some sets items order) s h e = h.some_item e

-- a form that keeps no row is not alike to one that keeps some
module _ (s : List schema_column.Column) where
  nothing_some : (ls : List (List ℕ)) (sets : List ColumnSet) (items : List Item) (order : List Dir) → IsSettled s (Nothing ls) → IsForm s sets items order
      → Alike s (formed (Some sets items order)) (formed (Nothing ls)) → ⊥
  nothing_some ls sets items order ha hb alike =
      let r = some_row s sets hb.sets_fit in
      let there : false ≡ true = (kept_there s (formed (Some sets items order)) (formed (Nothing ls)) hb.some_item (some_items (Nothing ls) s ha) alike r.0 r.1.fitting r.1.inside).0 in
      cc

  same_rows : (ss ts : List ColumnSet) (is js : List Item) (as' bs : List Dir) → IsForm s ss is as' → IsForm s ts js bs
      → Alike s (formed (Some ss is as')) (formed (Some ts js bs)) → (r : List Value) → fits s r ≡ true → in_sets ss r ≡ in_sets ts r
  same_rows ss ts is js as' bs ha hb alike r f = by (in_sets ss r) (in_sets ts r) refl refl
    where
      by : (x y : Bool) → in_sets ss r ≡ x → in_sets ts r ≡ y → in_sets ss r ≡ in_sets ts r
      by true y d e = d ∙ sym (kept_there s (formed (Some ss is as')) (formed (Some ts js bs)) ha.some_item hb.some_item alike r f d).0
      by false true d e = (kept_there s (formed (Some ts js bs)) (formed (Some ss is as')) hb.some_item ha.some_item (alike_back s _ _ alike) r f e).0 ∙ sym e
      by false false d e = d ∙ sym e

  one_way : (ss : List ColumnSet) (is : List Item) (as' bs : List Dir) → is ≢ [] → Alike s (formed (Some ss is as')) (formed (Some ss is bs)) → OneWay s ss is as' bs
  one_way ss is as' bs some alike r t hr ht keys cells_differ less = by (key_cmp r t) refl
    where
      p : Plan
      p = formed (Some ss is as')

      q : Plan
      q = formed (Some ss is bs)

      by : (o : Ordering) → key_cmp r t ≡ o → order_cmp bs r t ≡ Less
      by Less e = same_order s (formed (Some ss is as')) (formed (Some ss is bs)) some some alike r t hr.fitting ht.fitting e hr.inside ht.inside cells_differ less
      by Equal e = absurd (keys e)
      by Greater e = same_turned s (formed (Some ss is as')) (formed (Some ss is bs)) some some alike t r ht.fitting hr.fitting (key_turned t r ∙ ap ordering_reverse e) ht.inside hr.inside (λ h. cells_differ (sym h)) less

  one_some : (ss ts : List ColumnSet) (is js : List Item) (as' bs : List Dir) → IsForm s ss is as' → IsForm s ts js bs
      → Alike s (formed (Some ss is as')) (formed (Some ts js bs)) → Some ss is as' ≡ Some ts js bs
  one_some ss ts is js as' bs ha hb alike =
      let sets : ss ≡ ts = one_sets s ss ts ha.sets_fit hb.sets_fit (same_rows ss ts is js as' bs ha hb alike) in
      let hb1 : IsForm s ss js bs = subst (λ w. IsForm s w js bs) (sym sets) hb in
      let alike1 : Alike s (formed (Some ss is as')) (formed (Some ss js bs)) = subst (λ w. Alike s (formed (Some ss is as')) (formed (Some w js bs))) (sym sets) alike in
      let items : is ≡ js = same_items s ss ha.sets_fit is js ha.items_many hb1.items_many
      (same_labels s (formed (Some ss is as')) (formed (Some ss js bs)) ha.some_item hb1.some_item alike1)
      (λ r h. (kept_there s (formed (Some ss is as')) (formed (Some ss js bs)) ha.some_item hb1.some_item alike1 r h.fitting h.inside).1) in
      let hb2 : IsForm s ss is bs = subst (λ w. IsForm s ss w bs) (sym items) hb1 in
      let alike2 : Alike s (formed (Some ss is as')) (formed (Some ss is bs)) = subst (λ w. Alike s (formed (Some ss is as')) (formed (Some ss w bs))) (sym items) alike1 in
      let orders : as' ≡ bs = same_orders s ss ha.sets_fit is ha.items_many as' bs ha.order_fits hb2.order_fits (one_way ss is as' bs ha.some_item alike2) in
      λ i. Some (sets i) (items i) (orders i)

  pub one_form : (a b : Normal) → IsSettled s a → IsSettled s b → Alike s (formed a) (formed b) → a ≡ b
  one_form (Nothing ls) (Nothing ms) ha hb alike =
      ap Nothing (sym (labels_of ls) ∙ same_labels s (formed (Nothing ls)) (formed (Nothing ms)) (some_items (Nothing ls) s ha) (some_items (Nothing ms) s hb) alike ∙ labels_of ms)
  one_form (Nothing ls) (Some ts js bs) ha hb alike = absurd (nothing_some ls ts js bs ha hb (alike_back s _ _ alike))
  one_form (Some ss is as') (Nothing ms) ha hb alike = absurd (nothing_some ms ss is as' hb ha alike)
  one_form (Some ss is as') (Some ts js bs) ha hb alike = one_some ss ts is js as' bs ha hb alike

pub canonical : SettledFormsAreCanonical
canonical columns a b ha hb = (λ e. subst (λ n. Alike columns (formed a) (formed n)) e (alike_self columns (formed a)), λ h. one_form columns a b ha hb h)

pub one_form_each : QueriesHaveOneForm
one_form_each columns q r a b ha hb la lb = (to, from)
  where
    to : a ≡ b → Alike columns (asked columns q) (asked columns r)
    to e = alike_on columns (asked columns q) (formed a) (asked columns r) la
        (subst (λ n. Alike columns (formed n) (asked columns r)) (sym e) (alike_back columns (asked columns r) (formed b) lb))

    from : Alike columns (asked columns q) (asked columns r) → a ≡ b
    from h = one_form columns a b ha hb (alike_on columns (formed a) (asked columns q) (formed b) (alike_back columns (asked columns q) (formed a) la)
        (alike_on columns (asked columns q) (asked columns r) (formed b) h lb))
