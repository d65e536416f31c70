-- Parts with canonical sets have a settled form.
use Rattle.std.proofs.Common.{◌≡◌, ◌≢◌, ◌⊎◌, inl, inr, ℕ, Bool, true, false, ◌||◌, List, [], ◌∷◌, Option, Some, None, map, refl, sym, ap, ◌∙◌, subst}
use Rattle.std.specs.List.{AllByRecursion}
use Rattle.cite_schema.specs.declared.value.Value.{Value}
use Rattle.cite_schema.specs.declared.schema.Column as schema_column
use Rattle.cite_schema.specs.declared.item.Item.{Item}
use Rattle.cite_schema.specs.declared.item.Dir.{Dir}
use Rattle.cite_schema.specs.declared.item.Shown.{Shown}
use Rattle.cite_schema.specs.declared.item.Shown.TheVariants.{Column, Constant}
use Rattle.std.specs.Prelude.{◌==◌}
use Rattle.std.proofs.lemmas.List.Folds.{list_any-append}
use Rattle.migration.specs.Forms.{is_among}
use Rattle.migration.specs.Harmless.{printed_of}
use Rattle.cite_schema.specs.Headings.{is_heading}
use Rattle.cite_schema.specs.Layout.{labels}
use Rattle.cite_schema.specs.Answers.{Plan, Alike}
use Rattle.subset_query.specs.declared.form.ColumnSet.{ColumnSet}
use Rattle.subset_query.specs.declared.form.Normal.{Normal}
use Rattle.subset_query.specs.declared.form.Normal.TheVariants as forms
use Rattle.subset_query.specs.Forms.{formed, in_set, in_sets, are_sets_for, HasTwo, IsSettled, AreShownIn, AreColumnsIn, columns_of, printed_columns}
use Rattle.subset_query.specs.Settling.{own_kind, IsCanonicalSet, HoldsNone, HasNone, IsOne, Fixes, AreFixing, fixed_at, shown_fixed, settled_shown, settled_item, needed_order}
use Rattle.subset_query.proofs.Existing.{all_fixes, some_labels, neither}
use Rattle.subset_query.proofs.Settled.{none_alike, AreMade, made_alike, made_settled}

-- a settled form that is alike to a plan, and prints no column that the plan does not print
pub record HasForm (cs : List schema_column.Column) (p : Plan) : Type 0 where
  pub form : Normal
  pub settled : IsSettled cs form
  pub alike : Alike cs p (formed form)
  pub prints : (j : ℕ) → is_among j (printed_columns p.items) ≡ false → is_among j (printed_of form) ≡ false

both_false : (a b : Bool) → a ≡ false → b ≡ false → (a || b) ≡ false
both_false true b h k = h
both_false false b h k = k

-- settled items print no other columns
prints_less : (os : List (Option Value)) (items : List Item) (j : ℕ) → is_among j (printed_columns items) ≡ false → is_among j (printed_columns (map (settled_item os) items)) ≡ false
prints_less os [] j h = refl
prints_less os (i ∷ is) j h =
    let (here, more) = neither (is_among j (columns_of i.what)) (is_among j (printed_columns is)) (sym (list_any-append (λ c. c == j) (columns_of i.what) (printed_columns is)) ∙ h) in
    list_any-append (λ c. c == j) (columns_of (settled_item os i).what) (printed_columns (map (settled_item os) is)) ∙ both_false _ _ (by i.what here) (prints_less os is j more)
  where
    fixed : (o : Option Value) (what : Shown) → is_among j (columns_of what) ≡ false → is_among j (columns_of (shown_fixed o what)) ≡ false
    fixed None what k = k
    fixed (Some v) what k = refl

    by : (what : Shown) → is_among j (columns_of what) ≡ false → is_among j (columns_of (settled_shown os what)) ≡ false
    by (Column c) k = fixed (fixed_at os c) (Column c) k
    by (Constant bs) k = refl

-- there is a settled form that is alike to the parts
pub has_form : (cs : List schema_column.Column) (ss : List ColumnSet) (items : List Item) (order : List Dir) → are_sets_for cs ss ≡ true → AllByRecursion IsCanonicalSet ss → is_heading cs ≡ true
    → items ≢ [] → AreShownIn cs items → AreColumnsIn cs order
    → HasForm cs (record { keeps = in_sets ss; order = order; items = items })
has_form cs ss items order own canonical heading some shown there = by (all_fixes ss canonical)
  where
    by : HasNone ss ⊎ ((os : List (Option Value)) × AreFixing ss os) → HasForm cs (record { keeps = in_sets ss; order = order; items = items })
    by (inl none) = record { form = forms.Nothing (labels items); settled = some_labels items some; alike = none_alike cs ss items order none; prints = λ j h. refl }
    by (inr (os, fixing)) =
        let made_items = map (settled_item os) items in
        let made_order = needed_order os (printed_columns made_items) order in
        let made : AreMade ss items order made_items made_order = record { only = os; fixing = fixing; items_are = refl; order_is = refl } in
        record { form = forms.Some ss made_items made_order; settled = made_settled cs ss items made_items order made_order own made heading some shown there; alike = made_alike cs ss items made_items order made_order own made; prints = λ j h. prints_less os items j h }
