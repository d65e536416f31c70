-- Settling gives a settled form that is alike to its parts.
use Rattle.std.proofs.Common.{◌≡◌, ◌≢◌, inl, inr, ℕ, zero, suc, ◌+◌, ◌<◌, Bool, true, false, ◌&&◌, List, [], ◌∷◌, ◌++◌, Option, Some, None, length, take, get_or, map, refl, sym, ap, ◌∙◌, subst, arith}
use Rattle.std.proofs.lemmas.List.{take_more}
use Rattle.cite_schema.specs.declared.value.Value.{Value}
use Rattle.cite_schema.specs.declared.value.Value.TheVariants.{Int, Text}
use Rattle.cite_schema.specs.declared.schema.Column as schema_column
use Rattle.cite_schema.specs.declared.item.Item.{Item}
use Rattle.cite_schema.specs.declared.item.Dir.{Dir}
use Rattle.cite_schema.specs.declared.item.Shown.TheVariants.{Constant}
use Rattle.cite_schema.specs.Headings.{is_heading}
use Rattle.cite_schema.specs.Layout.{labels}
use Rattle.cite_schema.specs.Answers.{Alike}
use Rattle.subset_query.specs.declared.form.ColumnSet.{ColumnSet}
use Rattle.subset_query.specs.declared.form.ColumnSet.TheVariants.{Ints, Texts}
use Rattle.subset_query.specs.declared.form.Normal.TheVariants as forms
use Rattle.subset_query.specs.Forms.{in_set, in_sets, formed, are_sets_for, IsSetOf, AreSetsOf, IsForm, AreShownIn, AreColumnsIn, printed_columns}
use Rattle.subset_query.specs.Settling.{HoldsNone, HasNone, Fixes, AreFixing, settled_item, IsFixing, needed_order}
use Rattle.subset_query.proofs.Chosen.{own_is}
use Rattle.cite_schema.proofs.Rising.{and_first, and_second}
use Rattle.subset_query.proofs.Alikes.{alike_by, alike_on}
use Rattle.subset_query.proofs.FixedColumns.{IsOnly, AreOnly, settled_labels, same_cells, all_many}
use Rattle.subset_query.proofs.NeededOrders.{order_alike, order_fits}
use Rattle.subset_query.proofs.SingleValues.{fixes_only}

none_later : (ss : List ColumnSet) (i : ℕ) (d : ColumnSet) → i < length ss → HoldsNone (get_or ss i d) → HasNone ss
none_later [] i d lt h = absurd (omega arith)
none_later (s ∷ ss) zero d lt h = inl h
none_later (s ∷ ss) (suc i) d lt h = inr (none_later ss i d (omega arith) h)

-- one of the sets holds nothing
pub none_at : (ss : List ColumnSet) (i : ℕ) (s : ColumnSet) → i < length ss → s ≡ get_or ss i s → HoldsNone s → HasNone ss
none_at ss i s lt is h = none_later ss i s lt (subst HoldsNone is h)

fixing_last : (ss : List ColumnSet) (os : List (Option Value)) (s : ColumnSet) (o : Option Value) → AreFixing ss os → Fixes s o → AreFixing (ss ++ (s ∷ [])) (os ++ (o ∷ []))
fixing_last [] [] s o h f = (f, tt)
fixing_last [] (p ∷ ps) s o h f = absurd h
fixing_last (t ∷ ts) [] s o h f = absurd h
fixing_last (t ∷ ts) (p ∷ ps) s o h f = (h.0, fixing_last ts ps s o h.1 f)

-- one set more
pub fixing_more : (ss : List ColumnSet) (i : ℕ) (s : ColumnSet) (os : List (Option Value)) (o : Option Value) → i < length ss → s ≡ get_or ss i s → AreFixing (take i ss) os → Fixes s o → AreFixing (take (i + 1) ss) (os ++ (o ∷ []))
fixing_more ss i s os o lt is h f = subst (λ w. AreFixing w (os ++ (o ∷ []))) (ap (λ x. take i ss ++ (x ∷ [])) is ∙ sym (take_more ss i s lt)) (fixing_last (take i ss) os s o h f)

-- what the sets fix, told by the columns
by_columns : (cs : List schema_column.Column) (ss : List ColumnSet) (os : List (Option Value)) → are_sets_for cs ss ≡ true → AreFixing ss os → AreSetsOf cs ss × AreOnly cs ss os
by_columns [] [] [] h f = (tt, tt)
by_columns [] [] (o ∷ os) h f = absurd f
by_columns [] (s ∷ ss) os h f = cc
by_columns (c ∷ cs) [] os h f = cc
by_columns (c ∷ cs) (s ∷ ss) [] h f = absurd f
by_columns (c ∷ cs) (s ∷ ss) (o ∷ os) h f =
    let own = own_is c.kind s (and_first _ _ h) in
    let here = fixes_only s o f.0 in
    let more = by_columns cs ss os (and_second _ _ h) f.1 in
    ((subst (λ k. IsSetOf k s) own here.0, more.0), (subst (λ k. IsOnly k s o) own here.1, more.1))

-- no value is in a set that holds none
in_none : (s : ColumnSet) (v : Value) → HoldsNone s → in_set s v ≡ false
in_none (Ints ss) (Int z) h = ap (λ w. in_set (Ints w) (Int z)) h
in_none (Ints ss) (Text t) h = refl
in_none (Texts ss) (Int z) h = refl
in_none (Texts ss) (Text t) h = ap (λ w. in_set (Texts w) (Text t)) h

no_row : (ss : List ColumnSet) (r : List Value) → HasNone ss → in_sets ss r ≡ false
no_row [] r h = absurd h
no_row (s ∷ ss) [] h = refl
no_row (s ∷ ss) (v ∷ vs) (inl h) = ap (λ b. b && in_sets ss vs) (in_none s v h)
no_row (s ∷ ss) (v ∷ vs) (inr h) = by (in_set s v) (no_row ss vs h)
  where
    by : (b : Bool) → in_sets ss vs ≡ false → (b && in_sets ss vs) ≡ false
    by true e = e
    by false e = refl

labels_of : (ls : List (List ℕ)) → labels (map (λ l. record { label = l; what = Constant [] }) ls) ≡ ls
labels_of [] = refl
labels_of (l ∷ ls) = ap (λ w. l ∷ w) (labels_of ls)

-- where a set holds nothing only the labels are left
pub none_alike : (cs : List schema_column.Column) (ss : List ColumnSet) (items : List Item) (order : List Dir) → HasNone ss
    → Alike cs (record { keeps = in_sets ss; order = order; items = items }) (formed (forms.Nothing (labels items)))
none_alike cs ss items order h = alike_by cs _ (formed (forms.Nothing (labels items))) (record {
  keeps = λ r f. no_row ss r h;
  order = λ r t k l e. absurd (never (sym k.kept ∙ no_row ss r h));
  labels = sym (labels_of (labels items));
  cells = λ r k. absurd (never (sym k.kept ∙ no_row ss r h));
})
  where
    never : true ≡ false → ⊥
    never e = cc

some_settled : (only : List (Option Value)) (items : List Item) → items ≢ [] → map (settled_item only) items ≢ []
some_settled only [] h e = h refl
some_settled only (i ∷ is) h e = cc

module _ (cs : List schema_column.Column) (ss : List ColumnSet) (only : List (Option Value)) (items : List Item) (order : List Dir) (own : are_sets_for cs ss ≡ true) (fixing : AreFixing ss only) where
  fixed : AreOnly cs ss only
  fixed = (by_columns cs ss only own fixing).1

  items_alike : Alike cs (record { keeps = in_sets ss; order = order; items = items }) (record { keeps = in_sets ss; order = order; items = map (settled_item only) items })
  items_alike = alike_by cs (record { keeps = in_sets ss; order = order; items = items }) (record { keeps = in_sets ss; order = order; items = map (settled_item only) items }) (record {
    keeps = λ r f. refl;
    order = λ r t k l e. refl;
    labels = sym (settled_labels only items);
    cells = λ r k. sym (same_cells cs ss only fixed items r (record { fitting = k.fitting; inside = k.kept }));
  })

  -- what is left of the parts gives the same bytes
  pub parts_alike : Alike cs (record { keeps = in_sets ss; order = order; items = items })
      (formed (forms.Some ss (map (settled_item only) items) (needed_order only (printed_columns (map (settled_item only) items)) order)))
  parts_alike = alike_on cs (record { keeps = in_sets ss; order = order; items = items }) (record { keeps = in_sets ss; order = order; items = map (settled_item only) items }) (formed (forms.Some ss (map (settled_item only) items) (needed_order only (printed_columns (map (settled_item only) items)) order)))
      items_alike (order_alike cs ss only fixed (map (settled_item only) items) order)

  -- and is settled
  pub parts_settled : 0 < length cs → items ≢ [] → AreShownIn cs items → AreColumnsIn cs order
      → IsForm cs ss (map (settled_item only) items) (needed_order only (printed_columns (map (settled_item only) items)) order)
  parts_settled some some_item shown there = record {
    sets_fit = (by_columns cs ss only own fixing).0;
    some_item = some_settled only items some_item;
    items_many = all_many cs ss only fixed items shown;
    order_fits = order_fits cs ss only fixed some (printed_columns (map (settled_item only) items)) order there;
  }

-- what was found where a set holds nothing
pub found_none : (ss : List ColumnSet) (o : Option (List (Option Value))) → IsFixing ss o → o ≡ None → HasNone ss
found_none ss o h e = subst (IsFixing ss) e h

pub found_some : (ss : List ColumnSet) (o : Option (List (Option Value))) (only : List (Option Value)) → IsFixing ss o → o ≡ Some only → AreFixing ss only
found_some ss o only h e = subst (IsFixing ss) e h

-- a schema has a column
pub some_column : (cs : List schema_column.Column) → is_heading cs ≡ true → 0 < length cs
some_column [] h = cc
some_column (c ∷ cs) h = omega arith

-- the fixed values, items and order that were made of the parts, step by step
pub record AreMade (ss : List ColumnSet) (items : List Item) (order : List Dir) (made_items : List Item) (made_order : List Dir) : Type 0 where
  pub only : List (Option Value)
  pub fixing : AreFixing ss only
  pub items_are : made_items ≡ map (settled_item only) items
  pub order_is : made_order ≡ needed_order only (printed_columns made_items) order

pub made_alike : (cs : List schema_column.Column) (ss : List ColumnSet) (items made_items : List Item) (order made_order : List Dir) → are_sets_for cs ss ≡ true → AreMade ss items order made_items made_order
    → Alike cs (record { keeps = in_sets ss; order = order; items = items }) (formed (forms.Some ss made_items made_order))
made_alike cs ss items made_items order made_order own made =
    subst (λ is. Alike cs (record { keeps = in_sets ss; order = order; items = items }) (formed (forms.Some ss is made_order))) (sym made.items_are)
    (subst (λ ds. Alike cs (record { keeps = in_sets ss; order = order; items = items }) (formed (forms.Some ss (map (settled_item made.only) items) ds)))
    (ap (λ is. needed_order made.only (printed_columns is) order) (sym made.items_are) ∙ sym made.order_is)
    (parts_alike cs ss made.only items order own made.fixing))

pub made_settled : (cs : List schema_column.Column) (ss : List ColumnSet) (items made_items : List Item) (order made_order : List Dir) → are_sets_for cs ss ≡ true → AreMade ss items order made_items made_order
    → is_heading cs ≡ true → items ≢ [] → AreShownIn cs items → AreColumnsIn cs order → IsForm cs ss made_items made_order
made_settled cs ss items made_items order made_order own made heading some shown there =
    subst (λ is. IsForm cs ss is made_order) (sym made.items_are)
    (subst (λ ds. IsForm cs ss (map (settled_item made.only) items) ds)
    (ap (λ is. needed_order made.only (printed_columns is) order) (sym made.items_are) ∙ sym made.order_is)
    (parts_settled cs ss made.only items order own made.fixing (some_column cs heading) some shown there))
