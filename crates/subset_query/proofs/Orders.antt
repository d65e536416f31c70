-- Orders that put rows of the sets in one sequence are the same.
use Rattle.std.proofs.Common.{◌≡◌, ◌≢◌, ℕ, Bool, true, false, not, ◌&&◌, ◌||◌, cond, inl, inr, List, [], ◌∷◌, ◌++◌, Option, Some, refl, sym, ap, ◌∙◌, subst, slice_get, nat_eq, append_assoc, append-nil}
use Rattle.std.specs.List.{AllByRecursion, list_any}
use Rattle.std.specs.Ordering.{ordering_reverse, ordering_then}
use Rattle.std.specs.declared.cmp.Ordering.{Ordering}
use Rattle.std.specs.declared.cmp.Ordering.TheVariants.{Less, Equal, Greater}
use Rattle.cite_schema.specs.declared.value.Value.{Value}
use Rattle.cite_schema.specs.declared.schema.Column as schema_column
use Rattle.cite_schema.specs.declared.item.Item.{Item}
use Rattle.cite_schema.specs.declared.item.Dir.{Dir}
use Rattle.cite_schema.specs.declared.item.Shown.{Shown}
use Rattle.cite_schema.specs.declared.item.Shown.TheVariants.{Column, Constant}
use Rattle.cite_schema.specs.Values.{printed, value_cmp}
use Rattle.cite_schema.specs.Layout.{shown, printed_cell, cells}
use Rattle.cite_schema.specs.Tables.{cell_cmp, key_cmp}
use Rattle.cite_schema.specs.Answers.{order_cmp}
use Rattle.subset_query.specs.declared.form.ColumnSet.{ColumnSet}
use Rattle.subset_query.specs.Forms.{AreSetsOf, IsMany, IsShownOf, columns_of, printed_columns, order_columns, names_all, ends_at_key, IsNext, IsOrderFor}
use Rattle.subset_query.proofs.Sets.{IsRow, some_row}
use Rattle.std.proofs.lemmas.Cmp.{tied_itself}
use Rattle.cite_schema.proofs.Orders.{value_total, cell_total}
use Rattle.subset_query.proofs.Cells.{put, get-put_other, TwoAt, two_at}
use Rattle.subset_query.proofs.Items.{num_yes, num_no}

-- a cell is as it is
pub cell_same : (x : Option Value) → cell_cmp x x ≡ Equal
cell_same x = tied_itself cell_total x

-- the rows have two values there, which differ and are shown differently
pub record Apart (r t : List Value) (i : ℕ) : Type 0 where
  pub left : Value
  pub right : Value
  pub left_is : slice_get r i ≡ Some left
  pub right_is : slice_get t i ≡ Some right
  pub order : value_cmp left right ≢ Equal
  pub shown : printed left ≢ printed right

abbrev pick : {cs : List schema_column.Column} {ss : List ColumnSet} {i : ℕ} → TwoAt cs ss i → Bool → Value
pick t true = t.low
pick t false = t.high

module _ (cs : List schema_column.Column) (ss : List ColumnSet) where
  pick_row : (i : ℕ) (t : TwoAt cs ss i) (b : Bool) (r : List Value) → IsRow cs ss r → IsRow cs ss (put r i (pick t b))
  pick_row i t true r h = t.low_row r h
  pick_row i t false r h = t.high_row r h

  pick_cmp : (i : ℕ) (t : TwoAt cs ss i) (b : Bool) → value_cmp (pick t b) (pick t (not b)) ≡ cond b Less Greater
  pick_cmp i t true = t.less
  pick_cmp i t false = value_total.antisymm t.high t.low ∙ ap ordering_reverse t.less

  apart_here : (i : ℕ) (t : TwoAt cs ss i) (b : Bool) (r q : List Value) → IsRow cs ss r → IsRow cs ss q → Apart (put r i (pick t b)) (put q i (pick t (not b))) i
  apart_here i t b r q h g = record {
    left = pick t b;
    right = pick t (not b);
    left_is = t.here r (pick t b) h;
    right_is = t.here q (pick t (not b)) g;
    order = differs b (pick_cmp i t b);
    shown = hidden b;
  }
    where
      differs : (v : Bool) {o : Ordering} → o ≡ cond v Less Greater → o ≢ Equal
      differs true e f = cc
      differs false e f = cc

      hidden : (v : Bool) → printed (pick t v) ≢ printed (pick t (not v))
      hidden true e = t.shown e
      hidden false e = t.shown (sym e)

  -- what is apart stays so where a further column is set apart
  apart_more : (i j : ℕ) (t : TwoAt cs ss i) (b : Bool) (r q : List Value) → IsRow cs ss r → IsRow cs ss q → Apart r q j → Apart (put r i (pick t b)) (put q i (pick t (not b))) j
  apart_more i j t b r q h g a = by (nat_eq i j) refl
    where
      by : (v : Bool) → nat_eq i j ≡ v → Apart (put r i (pick t b)) (put q i (pick t (not b))) j
      by true e = subst (λ k. Apart (put r i (pick t b)) (put q i (pick t (not b))) k) (num_yes i j e) (apart_here i t b r q h g)
      by false e = record { left = a.left; right = a.right; left_is = get-put_other r i j (pick t b) (num_no i j e) ∙ a.left_is; right_is = get-put_other q i j (pick t (not b)) (num_no i j e) ∙ a.right_is; order = a.order; shown = a.shown }

abbrev pub SameAt : List Value → List Value → List Dir → Type 0
SameAt r t front = AllByRecursion (λ (p : Dir). slice_get r p.column ≡ slice_get t p.column) front

same_more : (front : List Dir) (r t : List Value) (i : ℕ) (v w : Value) → AllByRecursion (λ (p : Dir). p.column ≢ i) front → SameAt r t front → SameAt (put r i v) (put t i w) front
same_more [] r t i v w n s = tt
same_more (p ∷ ps) r t i v w n s =
    (get-put_other r i p.column v (λ e. n.0 (sym e)) ∙ s.0 ∙ sym (get-put_other t i p.column w (λ e. n.0 (sym e))), same_more ps r t i v w n.1 s.1)

same_all : (front : List Dir) (r : List Value) → SameAt r r front
same_all [] r = tt
same_all (p ∷ ps) r = (refl, same_all ps r)

dir_cmp : Dir → List Value → List Value → Ordering
dir_cmp d r t = cond d.down (ordering_reverse (cell_cmp (slice_get r d.column) (slice_get t d.column))) (cell_cmp (slice_get r d.column) (slice_get t d.column))

-- columns in which the rows agree decide nothing
pub skip : (front back : List Dir) (r t : List Value) → SameAt r t front → order_cmp (front ++ back) r t ≡ order_cmp back r t
skip [] back r t s = refl
skip (p ∷ ps) back r t s =
    let e : cell_cmp (slice_get r p.column) (slice_get t p.column) ≡ Equal = ap (λ x. cell_cmp x (slice_get t p.column)) s.0 ∙ cell_same (slice_get t p.column) in
    ap (λ o. ordering_then (cond p.down (ordering_reverse o) o) (order_cmp (ps ++ back) r t)) e ∙ tied p.down ∙ skip ps back r t s.1
  where
    tied : (b : Bool) → ordering_then (cond b (ordering_reverse Equal) Equal) (order_cmp (ps ++ back) r t) ≡ order_cmp (ps ++ back) r t
    tied true = refl
    tied false = refl

decides : (d : Dir) (ds : List Dir) (r t : List Value) (o : Ordering) → o ≢ Equal → dir_cmp d r t ≡ o → order_cmp (d ∷ ds) r t ≡ o
unfolding dir_cmp
decides d ds r t o n e = ap (λ w. ordering_then w (order_cmp ds r t)) e ∙ by o n
  where
    by : (w : Ordering) → w ≢ Equal → ordering_then w (order_cmp ds r t) ≡ w
    by Less m = refl
    by Equal m = absurd (m refl)
    by Greater m = refl

-- a printed column that front does not name
record Missing (cs : List schema_column.Column) (ss : List ColumnSet) (items : List Item) (front : List Dir) : Type 0 where
  column : ℕ
  many : IsMany cs ss column
  new : AllByRecursion (λ (p : Dir). p.column ≢ column) front
  tells : (r t : List Value) → printed_cell (slice_get r column) ≢ printed_cell (slice_get t column) → cells items r ≢ cells items t

pub none_named : (front : List Dir) (c : ℕ) → list_any (λ d. nat_eq d c) (order_columns front) ≡ false → AllByRecursion (λ (p : Dir). p.column ≢ c) front
none_named [] c h = tt
none_named (p ∷ ps) c h = (num_no p.column c (or_first _ _ h), none_named ps c (or_second _ _ h))
  where
    or_first : (a b : Bool) → (a || b) ≡ false → a ≡ false
    or_first true b e = e
    or_first false b e = refl

    or_second : (a b : Bool) → (a || b) ≡ false → b ≡ false
    or_second true b e = cc
    or_second false b e = e

lists_heads : {X : Type 0} (a b : X) (x y : List X) → a ∷ x ≡ b ∷ y → a ≡ b
lists_heads a b x y e = cc

lists_tails : {X : Type 0} (a b : X) (x y : List X) → a ∷ x ≡ b ∷ y → x ≡ y
lists_tails a b x y e = cc

missing : (cs : List schema_column.Column) (ss : List ColumnSet) (front : List Dir) (items : List Item) → AllByRecursion (λ (i : Item). IsShownOf cs ss i.what) items → names_all (printed_columns items) front ≡ false → Missing cs ss items front
missing cs ss front [] h e = cc
missing cs ss front (i ∷ is) h e = by i.what refl (subst (λ w. names_all (columns_of w ++ printed_columns is) front ≡ false) refl e) (λ n. later (missing cs ss front is h.1 n))
  where
    later : Missing cs ss is front → Missing cs ss (i ∷ is) front
    later m = record { column = m.column; many = m.many; new = m.new; tells = λ r t d s. m.tells r t d (lists_tails _ _ _ _ s) }

    here : (c : ℕ) → i.what ≡ Column c → list_any (λ d. nat_eq d c) (order_columns front) ≡ false → Missing cs ss (i ∷ is) front
    here c w n = record {
      column = c;
      many = subst (λ x. IsShownOf cs ss x) w h.0;
      new = none_named front c n;
      tells = λ r t d s. d (sym (ap (λ x. shown x r) w) ∙ lists_heads _ _ _ _ s ∙ ap (λ x. shown x t) w);
    }

    named : (c : ℕ) (b : Bool) → list_any (λ d. nat_eq d c) (order_columns front) ≡ b → i.what ≡ Column c → (b && names_all (printed_columns is) front) ≡ false → (names_all (printed_columns is) front ≡ false → Missing cs ss (i ∷ is) front) → Missing cs ss (i ∷ is) front
    named c true b w n more = more n
    named c false b w n more = here c w b

    by : (w : Shown) → i.what ≡ w → names_all (columns_of w ++ printed_columns is) front ≡ false → (names_all (printed_columns is) front ≡ false → Missing cs ss (i ∷ is) front) → Missing cs ss (i ∷ is) front
    by (Constant x) w n more = more n
    by (Column c) w n more = named c (list_any (λ d. nat_eq d c) (order_columns front)) refl w n more

-- rows that fall out in one sequence by a do so by b, where they differ in their keys and in what they show
abbrev pub OneWay : List schema_column.Column → List ColumnSet → List Item → List Dir → List Dir → Type 0
OneWay cs ss items a b = (r t : List Value) → IsRow cs ss r → IsRow cs ss t → key_cmp r t ≢ Equal → cells items r ≢ cells items t → order_cmp a r t ≡ Less → order_cmp b r t ≡ Less

down_less : (x : Bool) → cond x (ordering_reverse (cond (not x) Less Greater)) (cond (not x) Less Greater) ≡ Less
down_less true = refl
down_less false = refl

down_greater : (x : Bool) → cond x (ordering_reverse (cond x Less Greater)) (cond x Less Greater) ≡ Greater
down_greater true = refl
down_greater false = refl

down_other : (x y : Bool) → (x ≡ y → ⊥) → cond y (ordering_reverse (cond (not x) Less Greater)) (cond (not x) Less Greater) ≡ Greater
down_other true true n = absurd (n refl)
down_other true false n = refl
down_other false true n = refl
down_other false false n = absurd (n refl)

module _ (cs : List schema_column.Column) (ss : List ColumnSet) (ok : AreSetsOf cs ss) (items : List Item) (shows : AllByRecursion (λ (i : Item). IsShownOf cs ss i.what) items) where
  -- two rows that a and b would put in opposite sequences
  different : (front : List Dir) (d e : Dir) (ds es : List Dir) → IsNext cs ss (printed_columns items) front d → IsNext cs ss (printed_columns items) front e
      → (d.column ≡ e.column → d.down ≡ e.down → ⊥) → IsMany cs ss 0 → OneWay cs ss items (front ++ (d ∷ ds)) (front ++ (e ∷ es)) → ⊥
  unfolding dir_cmp
  different front d e ds es nd ne differ many way =
      let m = missing cs ss front items shows nd.wanted in
      let k = two_at cs ss 0 many in
      let c = two_at cs ss m.column m.many in
      let y = two_at cs ss e.column ne.many in
      let x = two_at cs ss d.column nd.many in
      let w = some_row cs ss ok in
      let r1 = put w.0 0 (pick k true) in
      let t1 = put w.0 0 (pick k false) in
      let hr1 = pick_row cs ss 0 k true w.0 w.1 in
      let ht1 = pick_row cs ss 0 k false w.0 w.1 in
      let r2 = put r1 m.column (pick c true) in
      let t2 = put t1 m.column (pick c false) in
      let hr2 = pick_row cs ss m.column c true r1 hr1 in
      let ht2 = pick_row cs ss m.column c false t1 ht1 in
      let r3 = put r2 e.column (pick y e.down) in
      let t3 = put t2 e.column (pick y (not e.down)) in
      let hr3 = pick_row cs ss e.column y e.down r2 hr2 in
      let ht3 = pick_row cs ss e.column y (not e.down) t2 ht2 in
      let r4 = put r3 d.column (pick x (not d.down)) in
      let t4 = put t3 d.column (pick x (not (not d.down))) in
      let hr4 = pick_row cs ss d.column x (not d.down) r3 hr3 in
      let ht4 = pick_row cs ss d.column x (not (not d.down)) t3 ht3 in
      let key1 = apart_here cs ss 0 k true w.0 w.0 w.1 w.1 in
      let key2 = apart_more cs ss m.column 0 c true r1 t1 hr1 ht1 key1 in
      let key3 = apart_more cs ss e.column 0 y e.down r2 t2 hr2 ht2 key2 in
      let key4 = apart_more cs ss d.column 0 x (not d.down) r3 t3 hr3 ht3 key3 in
      let cell2 = apart_here cs ss m.column c true r1 t1 hr1 ht1 in
      let cell3 = apart_more cs ss e.column m.column y e.down r2 t2 hr2 ht2 cell2 in
      let cell4 = apart_more cs ss d.column m.column x (not d.down) r3 t3 hr3 ht3 cell3 in
      let same1 = same_more front w.0 w.0 0 (pick k true) (pick k false) nd.key_later (same_all front w.0) in
      let same2 = same_more front r1 t1 m.column (pick c true) (pick c false) m.new same1 in
      let same3 = same_more front r2 t2 e.column (pick y e.down) (pick y (not e.down)) ne.new same2 in
      let same4 = same_more front r3 t3 d.column (pick x (not d.down)) (pick x (not (not d.down))) nd.new same3 in
      let keys : key_cmp r4 t4 ≢ Equal = λ h. key4.order (sym (ap (λ o. cell_cmp o (slice_get t4 0)) key4.left_is ∙ ap (λ o. cell_cmp (Some key4.left) o) key4.right_is) ∙ h) in
      let tell : cells items r4 ≢ cells items t4 = m.tells r4 t4 (λ h. cell4.shown (sym (ap printed_cell cell4.left_is) ∙ h ∙ ap printed_cell cell4.right_is)) in
      let at_d : cell_cmp (slice_get r4 d.column) (slice_get t4 d.column) ≡ cond (not d.down) Less Greater =
      ap (λ o. cell_cmp o (slice_get t4 d.column)) (x.here r3 (pick x (not d.down)) hr3) ∙ ap (λ o. cell_cmp (Some (pick x (not d.down))) o) (x.here t3 (pick x (not (not d.down))) ht3) ∙ pick_cmp cs ss d.column x (not d.down) in
      let by_a : order_cmp (front ++ (d ∷ ds)) r4 t4 ≡ Less = skip front (d ∷ ds) r4 t4 same4 ∙ decides d ds r4 t4 Less (λ h. less_equal h) (ap (λ o. cond d.down (ordering_reverse o) o) at_d ∙ down_less d.down) in
      let by_b : order_cmp (front ++ (e ∷ es)) r4 t4 ≡ Greater = skip front (e ∷ es) r4 t4 same4 ∙ decides e es r4 t4 Greater (λ h. greater_equal h)
      (at_e (nat_eq d.column e.column) refl r3 t3 (pick x (not d.down)) (pick x (not (not d.down))) at_d
      (λ n. ap (λ o. cell_cmp o (slice_get t3 e.column)) (y.here r2 (pick y e.down) hr2) ∙ ap (λ o. cell_cmp (Some (pick y e.down)) o) (y.here t2 (pick y (not e.down)) ht2) ∙ pick_cmp cs ss e.column y e.down)) in
      let both = sym (way r4 t4 hr4 ht4 keys tell by_a) ∙ by_b in
      less_greater both
    where
      less_equal : Less ≡ Equal → ⊥
      less_equal h = cc

      greater_equal : Greater ≡ Equal → ⊥
      greater_equal h = cc

      less_greater : Less ≡ Greater → ⊥
      less_greater h = cc

      at_e : (b : Bool) → nat_eq d.column e.column ≡ b → (r t : List Value) (v w : Value)
          → cell_cmp (slice_get (put r d.column v) d.column) (slice_get (put t d.column w) d.column) ≡ cond (not d.down) Less Greater
          → (Unit {0} → cell_cmp (slice_get r e.column) (slice_get t e.column) ≡ cond e.down Less Greater)
          → cond e.down (ordering_reverse (cell_cmp (slice_get (put r d.column v) e.column) (slice_get (put t d.column w) e.column))) (cell_cmp (slice_get (put r d.column v) e.column) (slice_get (put t d.column w) e.column)) ≡ Greater
      at_e true n r t v w at_d old =
          let one : d.column ≡ e.column = num_yes d.column e.column n in
          ap (λ o. cond e.down (ordering_reverse o) o) (subst (λ i. cell_cmp (slice_get (put r d.column v) i) (slice_get (put t d.column w) i) ≡ cond (not d.down) Less Greater) one at_d) ∙ down_other d.down e.down (differ one)
      at_e false n r t v w at_d old =
          let two = num_no d.column e.column n in
          ap (λ o. cond e.down (ordering_reverse o) o) (ap (λ p. cell_cmp p (slice_get (put t d.column w) e.column)) (get-put_other r d.column e.column v two) ∙ ap (λ p. cell_cmp (slice_get r e.column) p) (get-put_other t d.column e.column w two) ∙ old tt) ∙ down_greater e.down

  some_back : (front : List Dir) (d : Dir) (back : List Dir) → front ++ (d ∷ back) ≡ [] → ⊥
  some_back [] d back e = cc
  some_back (p ∷ ps) d back e = cc

  not_at_key : (front : List Dir) → AllByRecursion (λ (p : Dir). p.column ≢ 0) front → ends_at_key front ≡ false
  not_at_key [] h = refl
  not_at_key (d ∷ []) h = by (nat_eq d.column 0) refl
    where
      by : (b : Bool) → nat_eq d.column 0 ≡ b → b ≡ false
      by true n = absurd (h.0 (num_yes d.column 0 n))
      by false n = refl
  not_at_key (d ∷ e ∷ es) h = not_at_key (e ∷ es) h.1

  -- an order that could go on is not finished
  short : (a b front : List Dir) (e : Dir) (es : List Dir) → IsOrderFor cs ss (printed_columns items) a → IsOrderFor cs ss (printed_columns items) b → a ≡ front → b ≡ front ++ (e ∷ es) → ⊥
  short a b front e es oa ob ia ib = ob_some (λ m.
      let next = ob.each front e es ib in
      let full : (ends_at_key front || names_all (printed_columns items) front) ≡ true = subst (λ w. (ends_at_key w || names_all (printed_columns items) w) ≡ true) ia (oa.enough m (λ p. some_back front e es (sym ib ∙ ob.none (inr p)))) in
      let none : (ends_at_key front || names_all (printed_columns items) front) ≡ false = ap (λ x. x || names_all (printed_columns items) front) (not_at_key front next.key_later) ∙ next.wanted in
      yes_no (sym full ∙ none))
    where
      ob_some : (IsMany cs ss 0 → ⊥) → ⊥
      ob_some n = some_back front e es (sym ib ∙ ob.none (inl n))

      yes_no : true ≡ false → ⊥
      yes_no h = cc

  one_dir : (a b front : List Dir) (d e : Dir) (ds es : List Dir) → IsOrderFor cs ss (printed_columns items) a → IsOrderFor cs ss (printed_columns items) b → OneWay cs ss items a b
      → a ≡ front ++ (d ∷ ds) → b ≡ front ++ (e ∷ es) → d ≡ e
  one_dir a b front d e ds es oa ob way ia ib = by (nat_eq d.column e.column) refl
    where
      off : (d.column ≡ e.column → d.down ≡ e.down → ⊥) → ⊥
      off differ = some_back front d ds (sym ia ∙ oa.none (inl (λ m.
          different front d e ds es (oa.each front d ds ia) (ob.each front e es ib) differ m
          (subst (λ w. OneWay cs ss items (front ++ (d ∷ ds)) w) ib (subst (λ w. OneWay cs ss items w b) ia way)))))

      downs : (x y : Bool) → d.down ≡ x → e.down ≡ y → d.column ≡ e.column → d.down ≡ e.down
      downs true true h g c = h ∙ sym g
      downs false false h g c = h ∙ sym g
      downs true false h g c = absurd (off (λ _ f. true_false (sym h ∙ f ∙ g)))
        where
          true_false : true ≡ false → ⊥
          true_false k = cc
      downs false true h g c = absurd (off (λ _ f. false_true (sym h ∙ f ∙ g)))
        where
          false_true : false ≡ true → ⊥
          false_true k = cc

      joined : d.column ≡ e.column → d.down ≡ e.down → d ≡ e
      joined c h = λ i. record { column = c i; down = h i }

      by : (b : Bool) → nat_eq d.column e.column ≡ b → d ≡ e
      by true n = let c = num_yes d.column e.column n in joined c (downs d.down e.down refl refl c)
      by false n = absurd (off (λ c _. num_no d.column e.column n c))

  claim : (a b : List Dir) → IsOrderFor cs ss (printed_columns items) a → IsOrderFor cs ss (printed_columns items) b → OneWay cs ss items a b
      → (front x y : List Dir) → a ≡ front ++ x → b ≡ front ++ y → x ≡ y
  claim a b oa ob way front [] [] ia ib = refl
  claim a b oa ob way front [] (e ∷ es) ia ib = absurd (short a b front e es oa ob (ia ∙ append-nil front) ib)
  claim a b oa ob way front (d ∷ ds) [] ia ib = absurd (short b a front d ds ob oa (ib ∙ append-nil front) ia)
  claim a b oa ob way front (d ∷ ds) (e ∷ es) ia ib =
      let one : d ≡ e = one_dir a b front d e ds es oa ob way ia ib in
      let more : ds ≡ es = claim a b oa ob way (front ++ (d ∷ [])) ds es (ia ∙ sym (append_assoc front (d ∷ []) ds)) (ib ∙ ap (λ w. front ++ (w ∷ es)) (sym one) ∙ sym (append_assoc front (d ∷ []) es)) in
      λ i. one i ∷ more i

  pub same_orders : (a b : List Dir) → IsOrderFor cs ss (printed_columns items) a → IsOrderFor cs ss (printed_columns items) b → OneWay cs ss items a b → a ≡ b
  same_orders a b oa ob way = claim a b oa ob way [] a b refl refl

pub key_turned : (r t : List Value) → key_cmp r t ≡ ordering_reverse (key_cmp t r)
key_turned r t = cell_total.antisymm (slice_get r 0) (slice_get t 0)
