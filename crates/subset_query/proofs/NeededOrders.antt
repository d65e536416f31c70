-- How much of an asked order is needed, and that leaving out the rest changes no bytes.
use Rattle.std.proofs.Common.{◌≡◌, ◌≢◌, ℕ, ◌<◌, Bool, true, false, ◌||◌, cond, ◌⊎◌, inl, inr, List, [], ◌∷◌, ◌++◌, Option, Some, None, length, slice_get, nat_eq, refl, sym, ap, ◌∙◌, subst, append_assoc, append-nil}
use Rattle.std.specs.List.{AllByRecursion}
use Rattle.std.specs.Ordering.{ordering_then, ordering_reverse}
use Rattle.std.specs.declared.cmp.Ordering.{Ordering}
use Rattle.std.specs.declared.cmp.Ordering.TheVariants.{Less, Equal, Greater}
use Rattle.std.specs.Prelude.{is_some}
use Rattle.cite_schema.specs.declared.value.Value.{Value}
use Rattle.cite_schema.specs.declared.schema.Column as schema_column
use Rattle.cite_schema.specs.declared.item.Item.{Item}
use Rattle.cite_schema.specs.declared.item.Dir.{Dir}
use Rattle.cite_schema.specs.Tables.{cell_cmp, key_cmp}
use Rattle.cite_schema.specs.Answers.{Plan, Alike, order_cmp}
use Rattle.subset_query.specs.declared.form.ColumnSet.{ColumnSet}
use Rattle.subset_query.specs.Forms.{in_sets, IsMany, IsNext, IsOrderFor, names_all, ends_at_key, printed_columns, AreColumnsIn}
use Rattle.subset_query.proofs.Sets.{IsRow}
use Rattle.subset_query.proofs.Items.{num_no}
use Rattle.subset_query.proofs.Orders.{cell_same, skip, SameAt, none_named}
use Rattle.subset_query.proofs.Fronts.{keys, keys_cmp, keys_exact, key_at, order_split, same_front}
use Rattle.subset_query.specs.Settling.{fixed_at, is_fixed, key, names, is_enough, needed, needed_order}
use Rattle.subset_query.proofs.Alikes.{alike_on, alike_by, IsKept}
use Rattle.subset_query.proofs.FixedColumns.{AreOnly, fixed_cell, free_many, fixed_few}

then_self : (o : Ordering) → ordering_then o o ≡ o
then_self Less = refl
then_self Equal = refl
then_self Greater = refl

-- writing the key out at the end changes nothing
with_key : (order : List Dir) (r t : List Value) → order_cmp order r t ≡ order_cmp (order ++ (key ∷ [])) r t
with_key [] r t = sym (then_self (key_cmp r t))
with_key (d ∷ ds) r t = ap (λ o. ordering_then (cond d.down (ordering_reverse (cell_cmp (slice_get r d.column) (slice_get t d.column))) (cell_cmp (slice_get r d.column) (slice_get t d.column))) o) (with_key ds r t)

tied : (r t : List Value) (i : ℕ) → slice_get r i ≡ slice_get t i → cell_cmp (slice_get r i) (slice_get t i) ≡ Equal
tied r t i e = ap (λ o. cell_cmp o (slice_get t i)) e ∙ cell_same (slice_get t i)

-- a row does not come before itself
order_same : (order : List Dir) (r : List Value) → order_cmp order r r ≡ Equal
order_same order r = ap (λ o. order_cmp o r r) (sym (append-nil order)) ∙ skip order [] r r (same order) ∙ tied r r 0 refl
  where
    same : (ds : List Dir) → SameAt r r ds
    same [] = tt
    same (d ∷ ds) = (refl, same ds)

-- where rows fall out alike behind the columns of front whenever they agree in these, they fall out alike
behind : (front x y : List Dir) (r t : List Value) → (keys front r ≡ keys front t → order_cmp x r t ≡ order_cmp y r t) → order_cmp (front ++ x) r t ≡ order_cmp (front ++ y) r t
behind front x y r t same = order_split front x r t ∙ by (keys_cmp (keys front r) (keys front t)) refl ∙ sym (order_split front y r t)
  where
    by : (o : Ordering) → keys_cmp (keys front r) (keys front t) ≡ o → ordering_then (keys_cmp (keys front r) (keys front t)) (order_cmp x r t) ≡ ordering_then (keys_cmp (keys front r) (keys front t)) (order_cmp y r t)
    by Less e = ap (λ o. ordering_then o (order_cmp x r t)) e ∙ sym (ap (λ o. ordering_then o (order_cmp y r t)) e)
    by Equal e = ap (λ o. ordering_then (keys_cmp (keys front r) (keys front t)) o) (same (keys_exact _ _ e))
    by Greater e = ap (λ o. ordering_then o (order_cmp x r t)) e ∙ sym (ap (λ o. ordering_then o (order_cmp y r t)) e)

-- a column in which the rows agree decides nothing
pass : (front : List Dir) (d : Dir) (ds : List Dir) (r t : List Value) → (keys front r ≡ keys front t → slice_get r d.column ≡ slice_get t d.column) → order_cmp (front ++ (d ∷ ds)) r t ≡ order_cmp (front ++ ds) r t
pass front d ds r t same = behind front (d ∷ ds) ds r t (λ e. skip (d ∷ []) ds r t (same e, tt))

or_true : (a b : Bool) → b ≡ true → (a || b) ≡ true
or_true true b e = refl
or_true false b e = e

or_left : (a b : Bool) → (a || b) ≡ false → a ≡ false
or_left true b e = e
or_left false b e = refl

or_right : (a b : Bool) → (a || b) ≡ false → b ≡ false
or_right true b e = cc
or_right false b e = e

-- an order that ends at the key names it
names_key : (front : List Dir) → ends_at_key front ≡ true → names front 0 ≡ true
names_key [] e = cc
names_key (d ∷ []) e = ap (λ b. b || false) e
names_key (d ∷ p ∷ ps) e = or_true (nat_eq d.column 0) _ (names_key (p ∷ ps) e)

-- a place in a list with one more element is that element's, or a place of the list
data Place {X : Type 0} (front f : List X) (d e : X) (b : List X) : Type 0 where
  Last : front ≡ f → d ≡ e → Place front f d e b
  Before : (c : List X) → front ≡ f ++ (e ∷ c) → Place front f d e b

no_place : {X : Type 0} (f : List X) (e : X) (b : List X) → [] ≡ f ++ (e ∷ b) → ⊥
no_place [] e b h = cc
no_place (x ∷ xs) e b h = cc

first_of_two : {X : Type 0} (a b : X) (x y : List X) → a ∷ x ≡ b ∷ y → a ≡ b
first_of_two a b x y h = cc

rest_of_two : {X : Type 0} (a b : X) (x y : List X) → a ∷ x ≡ b ∷ y → x ≡ y
rest_of_two a b x y h = cc

place : {X : Type 0} (front f : List X) (d e : X) (b : List X) → front ++ (d ∷ []) ≡ f ++ (e ∷ b) → Place front f d e b
place [] [] d e b h = Last refl (first_of_two _ _ _ _ h)
place [] (y ∷ ys) d e b h = absurd (no_place ys e b (rest_of_two _ _ _ _ h))
place (x ∷ xs) [] d e b h = Before xs (ap (λ w. w ∷ xs) (first_of_two _ _ _ _ h))
place (x ∷ xs) (y ∷ ys) d e b h = under (place xs ys d e b (rest_of_two _ _ _ _ h))
  where
    same : x ≡ y
    same = first_of_two _ _ _ _ h

    under : Place xs ys d e b → Place (x ∷ xs) (y ∷ ys) d e b
    under (Last i j) = Last (ap (λ w. w ∷ xs) same ∙ ap (λ ws. y ∷ ws) i) j
    under (Before c i) = Before c (ap (λ w. w ∷ xs) same ∙ ap (λ ws. y ∷ ws) i)

ends_with : (front : List Dir) (d : Dir) → ends_at_key (front ++ (d ∷ [])) ≡ nat_eq d.column 0
ends_with [] d = refl
ends_with (p ∷ []) d = refl
ends_with (p ∷ q ∷ qs) d = ends_with (q ∷ qs) d

and_later : (front : List Dir) (d : Dir) → AllByRecursion (λ (p : Dir). p.column ≢ 0) front → d.column ≢ 0 → AllByRecursion (λ (p : Dir). p.column ≢ 0) (front ++ (d ∷ []))
and_later [] d h n = (n, tt)
and_later (p ∷ ps) d h n = (h.0, and_later ps d h.1 n)

module _ (cs : List schema_column.Column) (ss : List ColumnSet) (only : List (Option Value)) (fixed : AreOnly cs ss only) (items : List Item) where
  -- the plan with this order
  abbrev by_order : List Dir → Plan
  by_order order = record { keeps = in_sets ss; order = order; items = items }

  row_of : (order : List Dir) (r : List Value) → IsKept cs (by_order order) r → IsRow cs ss r
  row_of order r k = record { fitting = k.fitting; inside = k.kept }

  -- orders by which rows of the sets that can stand in one table fall out alike
  alike_orders : (a b : List Dir) → ((r t : List Value) → IsRow cs ss r → IsRow cs ss t → (key_cmp r t ≡ Equal → r ≡ t) → order_cmp a r t ≡ order_cmp b r t) → Alike cs (by_order a) (by_order b)
  alike_orders a b same = alike_by cs (by_order a) (by_order b) (record {
    keeps = λ r f. refl;
    order = λ r t k l e. same r t (row_of a r k) (row_of a t l) e;
    labels = refl;
    cells = λ r k. refl;
  })

  one_key : (order : List Dir) (r t : List Value) → slice_get r 0 ≡ slice_get t 0 → (key_cmp r t ≡ Equal → r ≡ t) → order_cmp order r t ≡ Equal
  one_key order r t e one = subst (λ w. order_cmp order r w ≡ Equal) (one (tied r t 0 e)) (order_same order r)

  -- behind the key no column decides
  cut_at_key : (front rest : List Dir) → ends_at_key front ≡ true → Alike cs (by_order (front ++ rest)) (by_order front)
  cut_at_key front rest last = subst (λ w. Alike cs (by_order (front ++ rest)) (by_order w)) (append-nil front) (alike_orders (front ++ rest) (front ++ []) (λ r t h g one.
      behind front rest [] r t (λ e. let k = key_at front 0 r t (names_key front last) e in one_key rest r t k one ∙ sym (one_key [] r t k one))))

  -- as soon as every printed column is named, rows that still tie print the same line
  cut_when_named : (front rest : List Dir) → names_all (printed_columns items) front ≡ true → Alike cs (by_order (front ++ rest)) (by_order front)
  cut_when_named front rest all = subst (λ w. Alike cs (by_order (front ++ rest)) (by_order w)) (append-nil front) (same_front cs (in_sets ss) items front rest [] all)

  cut_enough : (front rest : List Dir) → is_enough (printed_columns items) front ≡ true → Alike cs (by_order (front ++ rest)) (by_order front)
  cut_enough front rest e = by (ends_at_key front) refl e
    where
      by : (b : Bool) → ends_at_key front ≡ b → (b || names_all (printed_columns items) front) ≡ true → Alike cs (by_order (front ++ rest)) (by_order front)
      by true last f = cut_at_key front rest last
      by false last f = cut_when_named front rest f

  -- a column fixed to one value decides nothing
  drop_fixed : (front : List Dir) (d : Dir) (ds : List Dir) (v : Value) → fixed_at only d.column ≡ Some v → Alike cs (by_order (front ++ (d ∷ ds))) (by_order (front ++ ds))
  drop_fixed front d ds v e = alike_orders (front ++ (d ∷ ds)) (front ++ ds) (λ r t h g one.
      pass front d ds r t (λ k. fixed_cell cs ss only fixed r h d.column v e ∙ sym (fixed_cell cs ss only fixed t g d.column v e)))

  -- a column that occurred before decides nothing
  drop_named : (front : List Dir) (d : Dir) (ds : List Dir) → names front d.column ≡ true → Alike cs (by_order (front ++ (d ∷ ds))) (by_order (front ++ ds))
  drop_named front d ds e = alike_orders (front ++ (d ∷ ds)) (front ++ ds) (λ r t h g one. pass front d ds r t (λ k. key_at front d.column r t e k))

  -- writing the key out at the end changes nothing
  complete : (front : List Dir) → Alike cs (by_order (front ++ [])) (by_order (front ++ (key ∷ [])))
  complete front = alike_orders (front ++ []) (front ++ (key ∷ [])) (λ r t h g one. ap (λ o. order_cmp o r t) (append-nil front) ∙ with_key front r t)

  -- where the key is fixed at most one row is chosen, and nothing is to be ordered
  drop_all : (order : List Dir) (v : Value) → fixed_at only 0 ≡ Some v → Alike cs (by_order order) (by_order [])
  drop_all order v e = alike_orders order [] (λ r t h g one.
      let k = fixed_cell cs ss only fixed r h 0 v e ∙ sym (fixed_cell cs ss only fixed t g 0 v e) in
      one_key order r t k one ∙ sym (one_key [] r t k one))

  drop_useless : (front : List Dir) (d : Dir) (ds : List Dir) → (is_fixed only d.column || names front d.column) ≡ true → Alike cs (by_order (front ++ (d ∷ ds))) (by_order (front ++ ds))
  drop_useless front d ds e = by (fixed_at only d.column) refl e
    where
      by : (o : Option Value) → fixed_at only d.column ≡ o → (is_some o || names front d.column) ≡ true → Alike cs (by_order (front ++ (d ∷ ds))) (by_order (front ++ ds))
      by None f n = drop_named front d ds n
      by (Some v) f n = drop_fixed front d ds v f

  -- what is needed gives the same bytes as the whole
  needed_alike : (front rest : List Dir) → Alike cs (by_order (front ++ rest)) (by_order (needed only (printed_columns items) front rest))
  needed_alike front [] = by (is_enough (printed_columns items) front) refl
    where
      by : (b : Bool) → is_enough (printed_columns items) front ≡ b → Alike cs (by_order (front ++ [])) (by_order (cond b front (front ++ (key ∷ []))))
      by true e = cut_enough front [] e
      by false e = complete front
  needed_alike front (d ∷ ds) = by (is_enough (printed_columns items) front) refl (is_fixed only d.column || names front d.column) refl (needed_alike front ds) (needed_alike (front ++ (d ∷ [])) ds)
    where
      by : (b : Bool) → is_enough (printed_columns items) front ≡ b → (u : Bool) → (is_fixed only d.column || names front d.column) ≡ u
          → Alike cs (by_order (front ++ ds)) (by_order (needed only (printed_columns items) front ds))
          → Alike cs (by_order ((front ++ (d ∷ [])) ++ ds)) (by_order (needed only (printed_columns items) (front ++ (d ∷ [])) ds))
          → Alike cs (by_order (front ++ (d ∷ ds))) (by_order (cond b front (cond u (needed only (printed_columns items) front ds) (needed only (printed_columns items) (front ++ (d ∷ [])) ds))))
      by true e u f skip_it take_it = cut_enough front (d ∷ ds) e
      by false e true f skip_it take_it = alike_on cs (by_order (front ++ (d ∷ ds))) (by_order (front ++ ds)) (by_order (needed only (printed_columns items) front ds)) (drop_useless front d ds f) skip_it
      by false e false f skip_it take_it = subst (λ w. Alike cs (by_order w) (by_order (needed only (printed_columns items) (front ++ (d ∷ [])) ds))) (append_assoc front (d ∷ []) ds) take_it

  pub order_alike : (order : List Dir) → Alike cs (by_order order) (by_order (needed_order only (printed_columns items) order))
  order_alike order = by (fixed_at only 0) refl
    where
      by : (o : Option Value) → fixed_at only 0 ≡ o → Alike cs (by_order order) (by_order (cond (is_some o) [] (needed only (printed_columns items) [] order)))
      by None e = needed_alike [] order
      by (Some v) e = drop_all order v e

module _ (cs : List schema_column.Column) (ss : List ColumnSet) (only : List (Option Value)) (fixed : AreOnly cs ss only) (some : 0 < length cs) (free : fixed_at only 0 ≡ None) (printed : List ℕ) where
  -- each column may stand where it stands, and the key is none of them but the last
  record IsGood (front : List Dir) : Type 0 where
    each : (f : List Dir) (d : Dir) (b : List Dir) → front ≡ f ++ (d ∷ b) → IsNext cs ss printed f d
    key_last : ends_at_key front ≡ false → AllByRecursion (λ (p : Dir). p.column ≢ 0) front

  none_good : IsGood []
  none_good = record { each = λ f d b e. absurd (no_place f d b e); key_last = λ e. tt }

  one_more : (front : List Dir) (d : Dir) → IsGood front → IsNext cs ss printed front d → IsGood (front ++ (d ∷ []))
  one_more front d good next = record {
    each = λ f e b h. by f e b (place front f d e b h);
    key_last = λ e. and_later front d next.key_later (num_no d.column 0 (sym (ends_with front d) ∙ e));
  }
    where
      by : (f : List Dir) (e : Dir) (b : List Dir) → Place front f d e b → IsNext cs ss printed f e
      by f e b (Last i j) = subst (λ w. IsNext cs ss printed f w) j (subst (λ w. IsNext cs ss printed w d) i next)
      by f e b (Before c i) = good.each f e c i

  -- it is good, and long enough
  record IsDone (order : List Dir) : Type 0 where
    good : IsGood order
    full : is_enough printed order ≡ true

  key_next : (front : List Dir) → IsGood front → is_enough printed front ≡ false → IsNext cs ss printed front key
  key_next front good short = record {
    many = free_many cs ss only fixed 0 some free;
    new = good.key_last (or_left _ _ short);
    key_later = good.key_last (or_left _ _ short);
    wanted = or_right _ _ short;
  }

  dir_next : (front : List Dir) (d : Dir) → IsGood front → is_enough printed front ≡ false → d.column < length cs → (is_fixed only d.column || names front d.column) ≡ false → IsNext cs ss printed front d
  dir_next front d good short there useful = record {
    many = free_many cs ss only fixed d.column there (is_free (fixed_at only d.column) (or_left _ _ useful));
    new = none_named front d.column (or_right _ _ useful);
    key_later = good.key_last (or_left _ _ short);
    wanted = or_right _ _ short;
  }
    where
      is_free : (o : Option Value) → is_some o ≡ false → o ≡ None
      is_free None e = refl
      is_free (Some v) e = cc

  key_done : (front : List Dir) → IsGood front → is_enough printed front ≡ false → IsDone (front ++ (key ∷ []))
  key_done front good short = record {
    good = one_more front key good (key_next front good short);
    full = ap (λ b. b || names_all printed (front ++ (key ∷ []))) (ends_with front key);
  }

  needed_done : (front rest : List Dir) → IsGood front → AreColumnsIn cs rest → IsDone (needed only printed front rest)
  needed_done front [] good there = by (is_enough printed front) refl
    where
      by : (b : Bool) → is_enough printed front ≡ b → IsDone (cond b front (front ++ (key ∷ [])))
      by true e = record { good = good; full = e }
      by false e = key_done front good e
  needed_done front (d ∷ ds) good there = by (is_enough printed front) refl (is_fixed only d.column || names front d.column) refl (needed_done front ds good there.1) (λ n. needed_done (front ++ (d ∷ [])) ds (one_more front d good n) there.1)
    where
      by : (b : Bool) → is_enough printed front ≡ b → (u : Bool) → (is_fixed only d.column || names front d.column) ≡ u
          → IsDone (needed only printed front ds) → (IsNext cs ss printed front d → IsDone (needed only printed (front ++ (d ∷ [])) ds))
          → IsDone (cond b front (cond u (needed only printed front ds) (needed only printed (front ++ (d ∷ [])) ds)))
      by true e u f skip_it take_it = record { good = good; full = e }
      by false e true f skip_it take_it = skip_it
      by false e false f skip_it take_it = take_it (dir_next front d good e there.0 f)

  -- where no column is printed nothing is needed
  none_needed : (order : List Dir) → printed ≡ [] → needed only printed [] order ≡ []
  none_needed [] e = ap (λ w. cond (names_all w []) [] (key ∷ [])) e
  none_needed (d ∷ ds) e = ap (λ w. cond (names_all w []) [] (cond (is_fixed only d.column || names [] d.column) (needed only printed [] ds) (needed only printed (d ∷ []) ds))) e

  free_fits : (order : List Dir) → AreColumnsIn cs order → IsOrderFor cs ss printed (needed only printed [] order)
  free_fits order there =
      let done = needed_done [] order none_good there in
      record { each = done.good.each; none = λ h. no_need h; enough = λ m p. done.full }
    where
      no_need : ((IsMany cs ss 0 → ⊥) ⊎ (printed ≡ [])) → needed only printed [] order ≡ []
      no_need (inl n) = absurd (n (free_many cs ss only fixed 0 some free))
      no_need (inr e) = none_needed order e

-- what is needed of an order is just long enough
pub order_fits : (cs : List schema_column.Column) (ss : List ColumnSet) (only : List (Option Value)) → AreOnly cs ss only → 0 < length cs → (printed : List ℕ) (order : List Dir) → AreColumnsIn cs order
    → IsOrderFor cs ss printed (needed_order only printed order)
order_fits cs ss only fixed some printed order there = by (fixed_at only 0) refl
  where
    by : (o : Option Value) → fixed_at only 0 ≡ o → IsOrderFor cs ss printed (cond (is_some o) [] (needed only printed [] order))
    by None e = free_fits cs ss only fixed some e printed order there
    by (Some v) e = record {
      each = λ f d b h. absurd (no_place f d b h);
      none = λ h. refl;
      enough = λ m p. absurd (fixed_few cs ss only fixed 0 v e m);
    }
