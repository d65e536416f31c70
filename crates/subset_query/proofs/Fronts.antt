-- An order may end as soon as it names every printed column.
use Rattle.std.proofs.Common.{◌≡◌, ℕ, ◌+◌, Bool, true, false, not, cond, ◌||◌, IsTrue, List, [], ◌∷◌, ◌++◌, Option, map, refl, sym, ap, ◌∙◌, subst, slice_get, nat_eq, IsPermutation, filter}
use Rattle.std.specs.List.{list_any, flat_map, sum_by}
use Rattle.std.specs.Cmp.{IsTotalOrder}
use Rattle.std.specs.Cmp.Lexicographic.{slice_cmp, lists_total}
use Rattle.std.specs.Ordering.{ordering_reverse, ordering_then, is_lt, is_gt}
use Rattle.std.specs.declared.cmp.Ordering.{Ordering}
use Rattle.std.specs.declared.cmp.Ordering.TheVariants.{Less, Equal, Greater}
use Rattle.std.proofs.lemmas.List.Sorted.{IsPermutation-map, IsPermutation-trans, IsPermutation-sym, sum_by-IsPermutation}
use Rattle.std.proofs.lemmas.List.Sums.{sum_by-cons}
use Rattle.std.proofs.lemmas.Cmp.{upto}
use Rattle.cite_schema.specs.declared.schema.Column as schema_column
use Rattle.cite_schema.specs.declared.value.Value.{Value}
use Rattle.cite_schema.specs.declared.item.Item.{Item}
use Rattle.cite_schema.specs.declared.item.Dir.{Dir}
use Rattle.cite_schema.specs.declared.item.Shown.{Shown}
use Rattle.cite_schema.specs.declared.item.Shown.TheVariants.{Column, Constant}
use Rattle.cite_schema.specs.Answers.{Gives, Alike, order_cmp}
use Rattle.cite_schema.specs.Tables.{is_table, cell_cmp, rises}
use Rattle.cite_schema.specs.Layout.{shown, printed_cell, cells, line}
use Rattle.subset_query.specs.Forms.{columns_of, printed_columns, order_columns, names_all}
use Rattle.subset_query.proofs.Items.{num_yes}
use Rattle.cite_schema.proofs.Rising.{and_first, and_second, and_true}
use Rattle.cite_schema.proofs.Orders.{cell_exact, cell_total, order_total}
use Rattle.cite_schema.proofs.Arranging.{arranged}
use Rattle.cite_schema.proofs.Answered.{arranged_is_answer}
use Rattle.subset_query.proofs.WeakOrder.{weigh, RisesWeakly, NoneBelow, one_rising}

-- a cell with its direction
pub data Sided : Type 0 where
  Up : Option Value → Sided
  Down : Option Value → Sided

sided_cmp : Sided → Sided → Ordering
sided_cmp (Up x) (Up y) = cell_cmp x y
sided_cmp (Up x) (Down y) = Less
sided_cmp (Down x) (Up y) = Greater
sided_cmp (Down x) (Down y) = cell_cmp y x

sided_exact : (x y : Sided) → sided_cmp x y ≡ Equal → x ≡ y
unfolding sided_cmp
sided_exact (Up x) (Up y) h = ap Up (cell_exact x y h)
sided_exact (Up x) (Down y) h = cc
sided_exact (Down x) (Up y) h = cc
sided_exact (Down x) (Down y) h = ap Down (sym (cell_exact y x h))

sided_turned : (x y : Sided) → sided_cmp x y ≡ ordering_reverse (sided_cmp y x)
unfolding sided_cmp
sided_turned (Up x) (Up y) = cell_total.antisymm x y
sided_turned (Up x) (Down y) = refl
sided_turned (Down x) (Up y) = refl
sided_turned (Down x) (Down y) = cell_total.antisymm y x

sided_trans : (x y z : Sided) → sided_cmp x y ≡ Less → sided_cmp y z ≡ Less → sided_cmp x z ≡ Less
unfolding sided_cmp
sided_trans (Up x) (Up y) (Up z) h k = cell_total.trans x y z h k
sided_trans (Up x) (Up y) (Down z) h k = refl
sided_trans (Up x) (Down y) (Up z) h k = cc
sided_trans (Up x) (Down y) (Down z) h k = refl
sided_trans (Down x) (Up y) z h k = cc
sided_trans (Down x) (Down y) (Up z) h k = cc
sided_trans (Down x) (Down y) (Down z) h k = cell_total.trans z y x k h

sided_total : IsTotalOrder sided_cmp
sided_total = record { antisymm = sided_turned; trans = sided_trans; congr = λ x y z h. ap (λ w. sided_cmp w z) (sided_exact x y h) }

pub keys_cmp : List Sided → List Sided → Ordering
keys_cmp = slice_cmp sided_cmp

keys_total : IsTotalOrder keys_cmp
unfolding keys_cmp
keys_total = lists_total sided_total

pub keys_exact : (xs ys : List Sided) → keys_cmp xs ys ≡ Equal → xs ≡ ys
unfolding keys_cmp
keys_exact [] [] h = refl
keys_exact [] (y ∷ ys) h = cc
keys_exact (x ∷ xs) [] h = cc
keys_exact (x ∷ xs) (y ∷ ys) h = by (sided_cmp x y) refl h (λ k. keys_exact xs ys k)
  where
    by : (o : Ordering) → sided_cmp x y ≡ o → ordering_then o (slice_cmp sided_cmp xs ys) ≡ Equal → (slice_cmp sided_cmp xs ys ≡ Equal → xs ≡ ys) → x ∷ xs ≡ y ∷ ys
    by Less e k more = cc
    by Equal e k more = ap (λ w. w ∷ xs) (sided_exact x y e) ∙ ap (λ ws. y ∷ ws) (more k)
    by Greater e k more = cc

-- the cells of the order columns, with their directions
pub sided : Dir → List Value → Sided
sided d r = cond d.down (Down (slice_get r d.column)) (Up (slice_get r d.column))

pub keys : List Dir → List Value → List Sided
keys front r = map (λ d. sided d r) front

then_assoc : (a b c : Ordering) → ordering_then (ordering_then a b) c ≡ ordering_then a (ordering_then b c)
then_assoc Less b c = refl
then_assoc Equal b c = refl
then_assoc Greater b c = refl

sided_is : (d : Dir) (r t : List Value) → cond d.down (ordering_reverse (cell_cmp (slice_get r d.column) (slice_get t d.column))) (cell_cmp (slice_get r d.column) (slice_get t d.column)) ≡ sided_cmp (sided d r) (sided d t)
unfolding sided sided_cmp
sided_is d r t = by d.down
  where
    by : (b : Bool) → cond b (ordering_reverse (cell_cmp (slice_get r d.column) (slice_get t d.column))) (cell_cmp (slice_get r d.column) (slice_get t d.column)) ≡ sided_cmp (cond b (Down (slice_get r d.column)) (Up (slice_get r d.column))) (cond b (Down (slice_get t d.column)) (Up (slice_get t d.column)))
    by true = sym (cell_total.antisymm (slice_get t d.column) (slice_get r d.column))
    by false = refl

pub order_split : (front back : List Dir) (r t : List Value) → order_cmp (front ++ back) r t ≡ ordering_then (keys_cmp (keys front r) (keys front t)) (order_cmp back r t)
unfolding keys keys_cmp
order_split [] back r t = refl
order_split (d ∷ ds) back r t =
    ap (λ o. ordering_then o (order_cmp (ds ++ back) r t)) (sided_is d r t) ∙ ap (λ o. ordering_then (sided_cmp (sided d r) (sided d t)) o) (order_split ds back r t)
    ∙ sym (then_assoc (sided_cmp (sided d r) (sided d t)) (slice_cmp sided_cmp (map (λ d. sided d r) ds) (map (λ d. sided d t) ds)) (order_cmp back r t))

Adjacent : List (List Sided) → Type 0
Adjacent ks = rises (λ a b. not (is_gt (keys_cmp a b))) ks ≡ true

not_true : (b : Bool) → not b ≡ true → b ≡ false
not_true true e = cc
not_true false e = refl

none_lower : (x y : List Sided) (ys : List (List Sided)) → is_gt (keys_cmp x y) ≡ false → NoneBelow keys_cmp keys_total keys_exact y ys → NoneBelow keys_cmp keys_total keys_exact x ys
none_lower x y [] h n = tt
none_lower x y (z ∷ zs) h n = (upto keys_total x y z h n.0, none_lower x y zs h n.1)

weakly : (ks : List (List Sided)) → Adjacent ks → RisesWeakly keys_cmp keys_total keys_exact ks
unfolding Adjacent
weakly [] a = tt
weakly (x ∷ []) a = (tt, tt)
weakly (x ∷ y ∷ ys) a =
    let more = weakly (y ∷ ys) (and_second _ _ a) in
    let here : is_gt (keys_cmp x y) ≡ false = not_true _ (and_first _ _ a) in
    ((here, none_lower x y ys here more.0), more)

adjacent : (front back : List Dir) (rows : List (List Value)) → IsTrue (rises (λ r t. is_lt (order_cmp (front ++ back) r t)) rows) → Adjacent (map (keys front) rows)
unfolding Adjacent
adjacent front back [] u = refl
adjacent front back (r ∷ []) u = refl
adjacent front back (r ∷ t ∷ ts) u = and_true _ _ (by (keys_cmp (keys front r) (keys front t)) (sym (ap is_lt (order_split front back r t)) ∙ and_first _ _ u)) (adjacent front back (t ∷ ts) (and_second _ _ u))
  where
    by : (o : Ordering) → is_lt (ordering_then o (order_cmp back r t)) ≡ true → not (is_gt o) ≡ true
    by Less e = refl
    by Equal e = refl
    by Greater e = cc

weigh_is : (f : List Sided → ℕ) (ks : List (List Sided)) → weigh f ks ≡ sum_by f ks
weigh_is f [] = refl
weigh_is f (k ∷ ks) = ap (λ n. f k + n) (weigh_is f ks) ∙ sym (sum_by-cons f k ks)

-- two rearrangements of the same rows that the order columns of front put in sequence have the same cells in them
pub same_keys : (front x y : List Dir) (kept a b : List (List Value)) → IsPermutation kept a → IsPermutation kept b
    → IsTrue (rises (λ r t. is_lt (order_cmp (front ++ x) r t)) a) → IsTrue (rises (λ r t. is_lt (order_cmp (front ++ y) r t)) b) → map (keys front) a ≡ map (keys front) b
same_keys front x y kept a b p q u v =
    one_rising keys_cmp keys_total keys_exact (map (keys front) a) (map (keys front) b) (weakly _ (adjacent front x a u)) (weakly _ (adjacent front y b v))
    (λ f. weigh_is f (map (keys front) a) ∙ sym (sum_by-IsPermutation f _ _ (IsPermutation-map (keys front) a b (IsPermutation-trans a kept b (IsPermutation-sym kept a p) q))) ∙ sym (weigh_is f (map (keys front) b)))

up_one : (x y : Option Value) → Up x ≡ Up y → x ≡ y
up_one x y e = cc

down_one : (x y : Option Value) → Down x ≡ Down y → x ≡ y
down_one x y e = cc

key_heads : (a b : Sided) (x y : List Sided) → a ∷ x ≡ b ∷ y → a ≡ b
key_heads a b x y e = cc

key_tails : {K : Type 0} (a b : K) (x y : List K) → a ∷ x ≡ b ∷ y → x ≡ y
key_tails a b x y e = cc

row_heads : {K : Type 0} (a b : K) (x y : List K) → a ∷ x ≡ b ∷ y → a ≡ b
row_heads a b x y e = cc

pub key_at : (front : List Dir) (c : ℕ) (r t : List Value) → list_any (λ d. nat_eq d c) (order_columns front) ≡ true → keys front r ≡ keys front t → slice_get r c ≡ slice_get t c
unfolding keys sided
key_at [] c r t n e = cc
key_at (d ∷ ds) c r t n e = by (nat_eq d.column c) refl n (λ m. key_at ds c r t m (key_tails _ _ _ _ e))
  where
    one : (b : Bool) → cond b (Down (slice_get r d.column)) (Up (slice_get r d.column)) ≡ cond b (Down (slice_get t d.column)) (Up (slice_get t d.column)) → slice_get r d.column ≡ slice_get t d.column
    one true h = down_one _ _ h
    one false h = up_one _ _ h

    by : (b : Bool) → nat_eq d.column c ≡ b → (b || list_any (λ d. nat_eq d c) (order_columns ds)) ≡ true → (list_any (λ d. nat_eq d c) (order_columns ds) ≡ true → slice_get r c ≡ slice_get t c) → slice_get r c ≡ slice_get t c
    by true m n more = subst (λ i. slice_get r i ≡ slice_get t i) (num_yes d.column c m) (one d.down (key_heads _ _ _ _ e))
    by false m n more = more n

-- rows that agree in the columns of front show the same cells
cells_same : (front : List Dir) (items : List Item) (r t : List Value) → names_all (printed_columns items) front ≡ true → keys front r ≡ keys front t → cells items r ≡ cells items t
cells_same front [] r t n e = refl
cells_same front (i ∷ is) r t n e = by i.what refl n (λ m. cells_same front is r t m e)
  where
    by : (w : Shown) → i.what ≡ w → names_all (columns_of w ++ printed_columns is) front ≡ true → (names_all (printed_columns is) front ≡ true → cells is r ≡ cells is t) → shown i.what r ∷ cells is r ≡ shown i.what t ∷ cells is t
    by (Constant x) w n more = ap (λ v. shown v r ∷ cells is r) w ∙ ap (λ l. x ∷ l) (more n) ∙ sym (ap (λ v. shown v t ∷ cells is t) w)
    by (Column c) w n more = ap (λ v. shown v r ∷ cells is r) w ∙ ap (λ o. printed_cell o ∷ cells is r) (key_at front c r t (and_first _ _ n) e) ∙ ap (λ l. printed_cell (slice_get t c) ∷ l) (more (and_second _ _ n)) ∙ sym (ap (λ v. shown v t ∷ cells is t) w)

lines_same : (front : List Dir) (items : List Item) (a b : List (List Value)) → names_all (printed_columns items) front ≡ true → map (keys front) a ≡ map (keys front) b
    → flat_map (λ r. line (cells items r)) a ≡ flat_map (λ r. line (cells items r)) b
lines_same front items [] [] n e = refl
lines_same front items [] (t ∷ ts) n e = cc
lines_same front items (r ∷ rs) [] n e = cc
lines_same front items (r ∷ rs) (t ∷ ts) n e = ap (λ c. line c ++ flat_map (λ r. line (cells items r)) rs) (cells_same front items r t n (row_heads _ _ _ _ e)) ∙ ap (λ l. line (cells items t) ++ l) (lines_same front items rs ts n (key_tails _ _ _ _ e))

one_side : (s : List schema_column.Column) (keeps : List Value → Bool) (items : List Item) (front x y : List Dir) → names_all (printed_columns items) front ≡ true
    → (table : List (List Value)) → IsTrue (is_table s table) → (b : List ℕ) → Gives (record { keeps = keeps; order = front ++ x; items = items }) table b → Gives (record { keeps = keeps; order = front ++ y; items = items }) table b
one_side s keeps items front x y n table h b g =
    let found = arranged_is_answer (record { keeps = keeps; order = front ++ y; items = items }) table (and_second _ _ h) in
    let others = arranged (order_cmp (front ++ y)) (order_total (front ++ y)) (filter keeps table) in
    record {
      rows = others;
      answer = found;
      bytes = g.bytes ∙ ap (λ l. line (map (λ i. i.label) items) ++ l) (lines_same front items g.rows others n (same_keys front x y (filter keeps table) g.rows others g.answer.same found.same g.answer.in_order found.in_order));
    }

-- orders with one front that names every printed column give the same bytes on every table
pub same_front : (s : List schema_column.Column) (keeps : List Value → Bool) (items : List Item) (front x y : List Dir) → names_all (printed_columns items) front ≡ true
    → Alike s (record { keeps = keeps; order = front ++ x; items = items }) (record { keeps = keeps; order = front ++ y; items = items })
same_front s keeps items front x y n = λ table h b. (one_side s keeps items front x y n table h b, one_side s keeps items front y x n table h b)
