-- Harmless steps keep the bytes of a form.
use Rattle.std.proofs.Common.{◌≡◌, ◌≢◌, ℕ, zero, suc, ℤ, pos, negsuc, ◌<◌, Bool, true, false, ◌&&◌, ◌||◌, cond, List, [], ◌∷◌, ◌++◌, Option, Some, None, IsTrue, length, map, slice_get, refl, sym, ap, ◌∙◌, subst, arith}
use Rattle.std.specs.Prelude.{⊤, int_lt, option_map, unwrap_or, ◌==◌, if◌then◌else◌, IsSomeAnd}
use Rattle.std.specs.List.{AllByRecursion, list_all}
use Rattle.std.specs.Option.{option_and_then}
use Rattle.std.specs.Ordering.{int_cmp, ordering_then, ordering_reverse}
use Rattle.std.specs.declared.cmp.Ordering.TheVariants.{Equal}
use Rattle.std.proofs.lemmas.Cmp.{tied_itself}
use Rattle.std.proofs.lemmas.List.Folds.{list_any-append}
use Rattle.std.proofs.lemmas.Int.{ints}
use Rattle.std.proofs.lemmas.Bool.Decides.{nat_tests}
use Rattle.cite_schema.specs.declared.value.Kind.{Kind}
use Rattle.cite_schema.specs.declared.value.Kind.TheVariants as kinds
use Rattle.cite_schema.specs.declared.value.Value.{Value}
use Rattle.cite_schema.specs.declared.value.Value.TheVariants.{Int, Text}
use Rattle.cite_schema.specs.declared.schema.Column as schema_column
use Rattle.cite_schema.specs.declared.item.Item.{Item}
use Rattle.cite_schema.specs.declared.item.Dir.{Dir}
use Rattle.cite_schema.specs.declared.item.Shown.{Shown}
use Rattle.cite_schema.specs.declared.item.Shown.TheVariants.{Column, Constant}
use Rattle.cite_schema.specs.declared.step.Step.{Step}
use Rattle.cite_schema.specs.declared.step.Step.TheVariants.{Rename, Add, DropColumn, Scale, Recode, RetypeToText}
use Rattle.cite_schema.specs.Values.{value_cmp, is_number, is_value_of}
use Rattle.cite_schema.specs.Tables.{fits, cell_cmp, is_table}
use Rattle.cite_schema.specs.TableTexts.{before, all_some}
use Rattle.cite_schema.specs.Layout.{cells, shown, printed_cell}
use Rattle.cite_schema.specs.Answers.{Plan, Gives, Alike, order_cmp}
use Rattle.cite_schema.proofs.Orders.{cell_total}
use Rattle.cite_schema.proofs.Rising.{and_first, and_second}
use Rattle.cite_schema.proofs.TableTexts.{before_some}
use Rattle.subset_query.specs.declared.form.ColumnSet.{ColumnSet}
use Rattle.subset_query.specs.declared.form.ColumnSet.TheVariants.{Ints, Texts}
use Rattle.subset_query.specs.declared.form.Normal.{Normal}
use Rattle.subset_query.specs.declared.form.Normal.TheVariants as forms
use Rattle.subset_query.specs.Forms.{formed, in_set, in_sets, IsSetOf, AreSetsOf, IsManyOf, IsShownOf, printed_columns, columns_of, IsForm, IsSettled}
use Rattle.migration.specs.Places.{changed_if}
use Rattle.migration.specs.Columns.{place_of, columns_after, step_fault, is_int}
use Rattle.migration.specs.Rows.{image, value_after, row_after, carry_row, carry_rows}
use Rattle.migration.specs.Sets.{is_in_image, set_after}
use Rattle.migration.specs.Forms.{members, members_after, all_within, is_among, parts, parts_after, CarriesOne}
use Rattle.migration.specs.Harmless.{printed_of}
use Rattle.migration.proofs.Faultless.{IsFaultless, not_false, passes_kind}
use Rattle.migration.proofs.Fitting.{mapped}
use Rattle.migration.proofs.Keys.{chained, unchanged, renamed_is}
use Rattle.migration.proofs.Scaling.{image_cmp, scaled_exact}
use Rattle.migration.proofs.Tabled.{carried_table}
use Rattle.migration.proofs.Transport.{Carry, carried_gives}

-- a step that renames, adds, or scales a column that the form does not print as a column
abbrev pub IsHarmless : List schema_column.Column → Step → Normal → Type 0
IsHarmless columns (Rename c to) form = ⊤
IsHarmless columns (Add c v) form = ⊤
IsHarmless columns (Scale c by plus) form = is_among (place_of columns (Scale c by plus)) (printed_of form) ≡ false
IsHarmless columns (DropColumn c) form = ⊥
IsHarmless columns (Recode c old new) form = ⊥
IsHarmless columns (RetypeToText c) form = ⊥

pub neither : (a b : Bool) → (a || b) ≡ false → (a ≡ false) × (b ≡ false)
neither true b e = absurd (cc)
neither false b e = (refl, e)

pub other : (j i : ℕ) → (j == i) ≡ false → j ≢ i
other j i h e = grind (arith, nat_tests)

-- the members of sets are their members
pub within_members : (ss : List ColumnSet) (r : List Value) → all_within (members ss) r ≡ in_sets ss r
within_members [] [] = refl
within_members [] (v ∷ vs) = refl
within_members (s ∷ ss) [] = refl
within_members (s ∷ ss) (v ∷ vs) = ap (λ b. in_set s v && b) (within_members ss vs)

-- the two rows have the same order at every column
SameOrder : (r t r' t' : List Value) → Type 0
SameOrder r t r' t' = (c : ℕ) → cell_cmp (slice_get r' c) (slice_get t' c) ≡ cell_cmp (slice_get r c) (slice_get t c)

same_order : (order : List Dir) (r t r' t' : List Value) → SameOrder r t r' t' → order_cmp order r' t' ≡ order_cmp order r t
unfolding SameOrder
same_order [] r t r' t' h = h 0
same_order (d ∷ ds) r t r' t' h =
    ap (λ o. ordering_then (cond d.down (ordering_reverse o) o) (order_cmp ds r' t')) (h d.column)
    ∙ ap (λ o. ordering_then (cond d.down (ordering_reverse (cell_cmp (slice_get r d.column) (slice_get t d.column))) (cell_cmp (slice_get r d.column) (slice_get t d.column))) o) (same_order ds r t r' t' h)

-- the rows have the same cell where the item shows one
abbrev ShowsSame : List Value → List Value → Item → Type 0
ShowsSame r r' item = shown item.what r' ≡ shown item.what r

same_cells : (items : List Item) (r r' : List Value) → AllByRecursion (ShowsSame r r') items → cells items r' ≡ cells items r
same_cells [] r r' h = refl
same_cells (i ∷ is) r r' h = ap (λ x. x ∷ cells is r') h.0 ∙ ap (λ xs. shown i.what r ∷ xs) (same_cells is r r' h.1)

all_same : (items : List Item) (r : List Value) → AllByRecursion (ShowsSame r r) items
all_same [] r = tt
all_same (i ∷ is) r = (refl, all_same is r)

-- a value behind the row

within_added : (cs : List schema_column.Column) (ss : List ColumnSet) (r : List Value) (v : Value) → AreSetsOf cs ss → fits cs r ≡ true → all_within (members ss ++ (λ w. true) ∷ []) (r ++ v ∷ []) ≡ in_sets ss r
within_added [] [] [] v a f = refl
within_added [] [] (x ∷ xs) v a f = absurd (cc)
within_added [] (s ∷ ss) r v a f = absurd a
within_added (c ∷ cs) [] r v a f = absurd a
within_added (c ∷ cs) (s ∷ ss) [] v a f = absurd (cc)
within_added (c ∷ cs) (s ∷ ss) (x ∷ xs) v a f = ap (λ b. in_set s x && b) (within_added cs ss xs v a.1 (and_second _ _ f))

same_itself : (v : Value) → cell_cmp (Some v) (Some v) ≡ Equal
same_itself v = tied_itself cell_total (Some v)

order_added : (cs : List schema_column.Column) (r t : List Value) (v : Value) → fits cs r ≡ true → fits cs t ≡ true → SameOrder r t (r ++ v ∷ []) (t ++ v ∷ [])
unfolding SameOrder
order_added [] [] [] v f g zero = same_itself v
order_added [] [] [] v f g (suc c) = refl
order_added [] (x ∷ xs) t v f g c = absurd (cc)
order_added [] [] (y ∷ ys) v f g c = absurd (cc)
order_added (d ∷ ds) [] t v f g c = absurd (cc)
order_added (d ∷ ds) (x ∷ xs) [] v f g c = absurd (cc)
order_added (d ∷ ds) (x ∷ xs) (y ∷ ys) v f g zero = refl
order_added (d ∷ ds) (x ∷ xs) (y ∷ ys) v f g (suc c) = order_added ds xs ys v (and_second _ _ f) (and_second _ _ g) c

cell_added : (cs : List schema_column.Column) (r : List Value) (v : Value) (i : ℕ) (d : schema_column.Column) → fits cs r ≡ true → slice_get cs i ≡ Some d → slice_get (r ++ v ∷ []) i ≡ slice_get r i
cell_added [] r v i d f at = absurd (cc)
cell_added (c ∷ cs) [] v i d f at = absurd (cc)
cell_added (c ∷ cs) (x ∷ xs) v zero d f at = refl
cell_added (c ∷ cs) (x ∷ xs) v (suc i) d f at = cell_added cs xs v i d (and_second _ _ f) at

pub many_there : (o : Option schema_column.Column) (s : Option ColumnSet) → IsManyOf o s → (d : schema_column.Column) × (o ≡ Some d)
many_there None s h = absurd h
many_there (Some d) s h = (d, refl)

shown_added : (cs : List schema_column.Column) (ss : List ColumnSet) (r : List Value) (v : Value) (what : Shown) → fits cs r ≡ true → IsShownOf cs ss what → shown what (r ++ v ∷ []) ≡ shown what r
shown_added cs ss r v (Constant bs) f h = refl
shown_added cs ss r v (Column i) f h = let (d, at) = many_there (slice_get cs i) (slice_get ss i) h in ap printed_cell (cell_added cs r v i d f at)

all_added : (cs : List schema_column.Column) (ss : List ColumnSet) (r : List Value) (v : Value) (items : List Item) → fits cs r ≡ true → AllByRecursion (λ (i : Item). IsShownOf cs ss i.what) items → AllByRecursion (ShowsSame r (r ++ v ∷ [])) items
all_added cs ss r v [] f h = tt
all_added cs ss r v (i ∷ is) f h = (shown_added cs ss r v i.what f h.0, all_added cs ss r v is f h.1)

-- a scaled cell

scaled_is : (c : List ℕ) (by plus x : ℤ) (w : Value) → value_after (Scale c by plus) (Int x) ≡ Some w → (is_number (image by plus x) ≡ true) × (w ≡ Int (image by plus x))
scaled_is c by plus x w e = cases (is_number (image by plus x)) refl e
  where
    cases : (b : Bool) → is_number (image by plus x) ≡ b → (if b then Some (Int (image by plus x)) else None) ≡ Some w → (is_number (image by plus x) ≡ true) × (w ≡ Int (image by plus x))
    cases true n e = (n, cc)
    cases false n e = absurd (cc)

module _ (c : List ℕ) (by plus : ℤ) (rising : int_lt (pos 0) by ≡ true) where
  abbrev step : Step
  step = Scale c by plus

  -- the column at the place holds numbers
  abbrev pub HoldsNumbers : List schema_column.Column → ℕ → Type 0
  HoldsNumbers cs i = (d : schema_column.Column) → slice_get cs i ≡ Some d → is_int d.kind ≡ true

  within_first : (k : Kind) (s : ColumnSet) (v w : Value) (test : Value → Bool) → is_int k ≡ true → IsSetOf k s → is_value_of k v ≡ true → set_after step s ≡ Some test → value_after step v ≡ Some w → test w ≡ in_set s v
  within_first kinds.Int (Ints spans) (Int x) w test i a f at is =
      let (n, e) = scaled_is c by plus x w is in
      let same : is_in_image by plus spans ≡ test = cc in
      ap (λ t. t w) (sym same) ∙ ap (is_in_image by plus spans) e ∙ scaled_exact by plus x spans rising f n
  within_first kinds.Int (Ints spans) (Text t) w test i a f at is = absurd (cc)
  within_first kinds.Int (Texts spans) v w test i a f at is = absurd a
  within_first kinds.Text s v w test i a f at is = absurd (cc)

  within_scaled : (cs : List schema_column.Column) (ss : List ColumnSet) (i : ℕ) (r r' : List Value) (tests : List (Value → Bool)) → HoldsNumbers cs i → AreSetsOf cs ss → fits cs r ≡ true
      → members_after step i ss ≡ Some tests → changed_if (value_after step) i r ≡ Some r' → all_within tests r' ≡ in_sets ss r
  within_scaled [] [] i [] r' tests n a f at is = let e : [] ≡ r' = cc in let d : [] ≡ tests = cc in ap (λ t. all_within t r') (sym d) ∙ ap (all_within []) (sym e)
  within_scaled [] [] i (x ∷ xs) r' tests n a f at is = absurd (cc)
  within_scaled [] (s ∷ ss) i r r' tests n a f at is = absurd a
  within_scaled (d ∷ ds) [] i r r' tests n a f at is = absurd a
  within_scaled (d ∷ ds) (s ∷ ss) i [] r' tests n a f at is = absurd (cc)
  within_scaled (d ∷ ds) (s ∷ ss) zero (x ∷ xs) r' tests n a f at is =
      let (test, has, tests_are) = mapped (λ t. t ∷ members ss) (set_after step s) tests at in
      let (w, gives, row_is) = mapped (λ y. y ∷ xs) (value_after step x) r' is in
      let first = within_first d.kind s x w test (n d refl) a.0 (and_first _ _ f) has gives in
      ap (λ t. all_within t r') (sym tests_are) ∙ ap (all_within (test ∷ members ss)) (sym row_is)
      ∙ ap (λ b. b && all_within (members ss) xs) first ∙ ap (λ b. in_set s x && b) (within_members ss xs)
  within_scaled (d ∷ ds) (s ∷ ss) (suc i) (x ∷ xs) r' tests n a f at is =
      let (more, has, tests_are) = mapped (λ ts. in_set s ∷ ts) (members_after step i ss) tests at in
      let (ys, gives, row_is) = mapped (λ zs. x ∷ zs) (changed_if (value_after step) i xs) r' is in
      ap (λ t. all_within t r') (sym tests_are) ∙ ap (all_within (in_set s ∷ more)) (sym row_is)
      ∙ ap (λ b. in_set s x && b) (within_scaled ds ss i xs ys more (λ e at'. n e at') a.1 (and_second _ _ f) has gives)

  rising_cmp : (x y : ℤ) → int_cmp (image by plus x) (image by plus y) ≡ int_cmp x y
  rising_cmp x y = by_sign by rising
    where
      by_sign : (b : ℤ) → int_lt (pos 0) b ≡ true → int_cmp (image b plus x) (image b plus y) ≡ int_cmp x y
      by_sign (pos zero) h = absurd (cc)
      by_sign (pos (suc k)) h = image_cmp k plus x y
      by_sign (negsuc k) h = absurd (cc)

  order_first : (k : Kind) (v w v' w' : Value) → is_int k ≡ true → is_value_of k v ≡ true → is_value_of k w ≡ true → value_after step v ≡ Some v' → value_after step w ≡ Some w' → value_cmp v' w' ≡ value_cmp v w
  order_first kinds.Int (Int x) (Int y) v' w' i f g a b =
      let (n, e) = scaled_is c by plus x v' a in let (m, d) = scaled_is c by plus y w' b in
      ap (λ u. value_cmp u w') e ∙ ap (value_cmp (Int (image by plus x))) d ∙ rising_cmp x y
  order_first kinds.Int (Text t) w v' w' i f g a b = absurd (cc)
  order_first kinds.Int (Int x) (Text t) v' w' i f g a b = absurd (cc)
  order_first kinds.Text v w v' w' i f g a b = absurd (cc)

  order_scaled : (cs : List schema_column.Column) (i : ℕ) (r t r' t' : List Value) → HoldsNumbers cs i → fits cs r ≡ true → fits cs t ≡ true
      → changed_if (value_after step) i r ≡ Some r' → changed_if (value_after step) i t ≡ Some t' → SameOrder r t r' t'
  unfolding SameOrder
  order_scaled [] i [] [] r' t' n f g a b j = let e : [] ≡ r' = cc in let d : [] ≡ t' = cc in ap (λ l. cell_cmp (slice_get l j) (slice_get t' j)) (sym e) ∙ ap (λ l. cell_cmp None (slice_get l j)) (sym d)
  order_scaled [] i (x ∷ xs) t r' t' n f g a b j = absurd (cc)
  order_scaled [] i [] (y ∷ ys) r' t' n f g a b j = absurd (cc)
  order_scaled (d ∷ ds) i [] t r' t' n f g a b j = absurd (cc)
  order_scaled (d ∷ ds) i (x ∷ xs) [] r' t' n f g a b j = absurd (cc)
  order_scaled (d ∷ ds) zero (x ∷ xs) (y ∷ ys) r' t' n f g a b zero =
      let (v, va, ra) = mapped (λ z. z ∷ xs) (value_after step x) r' a in
      let (w, wb, tb) = mapped (λ z. z ∷ ys) (value_after step y) t' b in
      ap (λ l. cell_cmp (slice_get l 0) (slice_get t' 0)) (sym ra) ∙ ap (λ l. cell_cmp (Some v) (slice_get l 0)) (sym tb)
      ∙ order_first d.kind x y v w (n d refl) (and_first _ _ f) (and_first _ _ g) va wb
  order_scaled (d ∷ ds) zero (x ∷ xs) (y ∷ ys) r' t' n f g a b (suc j) =
      let (v, va, ra) = mapped (λ z. z ∷ xs) (value_after step x) r' a in
      let (w, wb, tb) = mapped (λ z. z ∷ ys) (value_after step y) t' b in
      ap (λ l. cell_cmp (slice_get l (suc j)) (slice_get t' (suc j))) (sym ra) ∙ ap (λ l. cell_cmp (slice_get xs j) (slice_get l (suc j))) (sym tb)
  order_scaled (d ∷ ds) (suc i) (x ∷ xs) (y ∷ ys) r' t' n f g a b zero =
      let (us, ua, ra) = mapped (λ zs. x ∷ zs) (changed_if (value_after step) i xs) r' a in
      let (ws, wb, tb) = mapped (λ zs. y ∷ zs) (changed_if (value_after step) i ys) t' b in
      ap (λ l. cell_cmp (slice_get l 0) (slice_get t' 0)) (sym ra) ∙ ap (λ l. cell_cmp (Some x) (slice_get l 0)) (sym tb)
  order_scaled (d ∷ ds) (suc i) (x ∷ xs) (y ∷ ys) r' t' n f g a b (suc j) =
      let (us, ua, ra) = mapped (λ zs. x ∷ zs) (changed_if (value_after step) i xs) r' a in
      let (ws, wb, tb) = mapped (λ zs. y ∷ zs) (changed_if (value_after step) i ys) t' b in
      ap (λ l. cell_cmp (slice_get l (suc j)) (slice_get t' (suc j))) (sym ra) ∙ ap (λ l. cell_cmp (slice_get us j) (slice_get l (suc j))) (sym tb)
      ∙ order_scaled ds i xs ys us ws (λ e at. n e at) (and_second _ _ f) (and_second _ _ g) ua wb j

  cell_scaled : (i j : ℕ) (r r' : List Value) → j ≢ i → changed_if (value_after step) i r ≡ Some r' → slice_get r' j ≡ slice_get r j
  cell_scaled i j [] r' n a = let e : [] ≡ r' = cc in ap (λ l. slice_get l j) (sym e)
  cell_scaled zero zero (x ∷ xs) r' n a = absurd (n refl)
  cell_scaled zero (suc j) (x ∷ xs) r' n a = let (v, va, ra) = mapped (λ z. z ∷ xs) (value_after step x) r' a in ap (λ l. slice_get l (suc j)) (sym ra)
  cell_scaled (suc i) zero (x ∷ xs) r' n a = let (us, ua, ra) = mapped (λ zs. x ∷ zs) (changed_if (value_after step) i xs) r' a in ap (λ l. slice_get l 0) (sym ra)
  cell_scaled (suc i) (suc j) (x ∷ xs) r' n a =
      let (us, ua, ra) = mapped (λ zs. x ∷ zs) (changed_if (value_after step) i xs) r' a in
      ap (λ l. slice_get l (suc j)) (sym ra) ∙ cell_scaled i j xs us (λ e. n (ap suc e)) ua

  shown_scaled : (i : ℕ) (r r' : List Value) (what : Shown) → is_among i (columns_of what) ≡ false → changed_if (value_after step) i r ≡ Some r' → shown what r' ≡ shown what r
  shown_scaled i r r' (Constant bs) n a = refl
  shown_scaled i r r' (Column j) n a = ap printed_cell (cell_scaled i j r r' (other j i (neither (j == i) false n).0) a)

  all_scaled : (i : ℕ) (r r' : List Value) (items : List Item) → is_among i (printed_columns items) ≡ false → changed_if (value_after step) i r ≡ Some r' → AllByRecursion (ShowsSame r r') items
  all_scaled i r r' [] n a = tt
  all_scaled i r r' (it ∷ is) n a =
      let (here, more) = neither (is_among i (columns_of it.what)) (is_among i (printed_columns is)) (sym (list_any-append (λ c. c == i) (columns_of it.what) (printed_columns is)) ∙ n) in
      (shown_scaled i r r' it.what here a, all_scaled i r r' is more a)

-- what a step makes of a row, and the row where it makes nothing
abbrev made : List schema_column.Column → Step → List Value → List Value
made columns step r = unwrap_or (row_after columns step r) r

-- a row that fits, of which the step makes something
record Moved (columns : List schema_column.Column) (step : Step) (r : List Value) : Type 0 where
  fitting : fits columns r ≡ true
  is : row_after columns step r ≡ Some (made columns step r)

renamed_row : (columns : List schema_column.Column) (c to : List ℕ) (r : List Value) → Moved columns (Rename c to) r → r ≡ made columns (Rename c to) r
renamed_row columns c to r m =
    unchanged (place_of columns (Rename c to)) r (made columns (Rename c to) r) (ap (λ g. changed_if g (place_of columns (Rename c to)) r) (sym (λ i v. renamed_is c to v i)) ∙ m.is)

added_row : (columns : List schema_column.Column) (c : List ℕ) (v : Value) (r : List Value) → r ++ v ∷ [] ≡ made columns (Add c v) r
added_row columns c v r = refl

pub renamed_members : (c to : List ℕ) (i : ℕ) (ss : List ColumnSet) → members_after (Rename c to) i ss ≡ Some (members ss)
renamed_members c to i [] = refl
renamed_members c to zero (Ints spans ∷ ss) = refl
renamed_members c to zero (Texts spans ∷ ss) = refl
renamed_members c to (suc i) (s ∷ ss) = ap (option_map (λ ts. in_set s ∷ ts)) (renamed_members c to i ss)

pub rising_factor : (by : ℤ) → int_lt by (pos 1) ≡ false → int_lt (pos 0) by ≡ true
rising_factor by h = grind (arith, ints, nat_tests)

module _ (columns : List schema_column.Column) where
  pub numbers_there : (c : List ℕ) (by plus : ℤ) (f : IsFaultless columns (Scale c by plus)) → HoldsNumbers c by plus (rising_factor by f.good) columns (place_of columns (Scale c by plus))
  numbers_there c by plus f d at = passes_kind columns (Scale c by plus) is_int d (not_false _ f.kind) at

  -- a harmless step keeps the order of rows at each column
  order_kept : (step : Step) (form : Normal) (r t : List Value) → IsFaultless columns step → IsHarmless columns step form → Moved columns step r → Moved columns step t → SameOrder r t (made columns step r) (made columns step t)
  unfolding SameOrder
  order_kept (Rename c to) form r t f h m n j =
      ap (λ l. cell_cmp (slice_get l j) (slice_get (made columns (Rename c to) t) j)) (sym (renamed_row columns c to r m)) ∙ ap (λ l. cell_cmp (slice_get r j) (slice_get l j)) (sym (renamed_row columns c to t n))
  order_kept (Add c v) form r t f h m n j = order_added columns r t v m.fitting n.fitting j
  order_kept (Scale c by plus) form r t f h m n j =
      order_scaled c by plus (rising_factor by f.good) columns (place_of columns (Scale c by plus)) r t (made columns (Scale c by plus) r) (made columns (Scale c by plus) t)
      (numbers_there c by plus f) m.fitting n.fitting m.is n.is j
  order_kept (DropColumn c) form r t f h m n j = absurd h
  order_kept (Recode c old new) form r t f h m n j = absurd h
  order_kept (RetypeToText c) form r t f h m n j = absurd h

  all_constant : (labels : List (List ℕ)) (r t : List Value) → cells (formed (forms.Nothing labels)).items r ≡ cells (formed (forms.Nothing labels)).items t
  all_constant [] r t = refl
  all_constant (l ∷ ls) r t = ap (λ xs. [] ∷ xs) (all_constant ls r t)

  some_carry : (step : Step) (sets : List ColumnSet) (items : List Item) (order : List Dir) (p : Plan) → IsFaultless columns step → IsForm columns sets items order → IsHarmless columns step (forms.Some sets items order)
      → parts_after columns step (forms.Some sets items order) ≡ Some p → Carry (Moved columns step) (made columns step) (formed (forms.Some sets items order)) p
  some_carry (Rename c to) sets items order p f s h e =
      let i = place_of columns (Rename c to) in
      let (tests, has, are) = mapped (λ ts. parts ts items order) (members_after (Rename c to) i sets) p e in
      let same : Some (members sets) ≡ Some tests = sym (renamed_members c to i sets) ∙ has in
      let one : members sets ≡ tests = cc in
      subst (Carry (Moved columns (Rename c to)) (made columns (Rename c to)) (formed (forms.Some sets items order))) (ap (λ ts. parts ts items order) one ∙ are) (record {
        keeps = λ r m. within_members sets (made columns (Rename c to) r) ∙ ap (in_sets sets) (sym (renamed_row columns c to r m));
        order = λ r t m n. same_order order r t _ _ (order_kept (Rename c to) (forms.Some sets items order) r t f h m n);
        labels = refl;
        cells = λ r m. ap (cells items) (sym (renamed_row columns c to r m));
      })
  some_carry (Add c v) sets items order p f s h e =
      let are : parts (members sets ++ (λ w. true) ∷ []) items order ≡ p = cc in
      subst (Carry (Moved columns (Add c v)) (made columns (Add c v)) (formed (forms.Some sets items order))) are (record {
        keeps = λ r m. within_added columns sets r v s.sets_fit m.fitting;
        order = λ r t m n. same_order order r t _ _ (order_kept (Add c v) (forms.Some sets items order) r t f h m n);
        labels = refl;
        cells = λ r m. same_cells items r (r ++ v ∷ []) (all_added columns sets r v items m.fitting s.items_many);
      })
  some_carry (Scale c by plus) sets items order p f s h e =
      let i = place_of columns (Scale c by plus) in
      let (tests, has, are) = mapped (λ ts. parts ts items order) (members_after (Scale c by plus) i sets) p e in
      subst (Carry (Moved columns (Scale c by plus)) (made columns (Scale c by plus)) (formed (forms.Some sets items order))) are (record {
        keeps = λ r m. within_scaled c by plus (rising_factor by f.good) columns sets i r (made columns (Scale c by plus) r) tests (numbers_there c by plus f) s.sets_fit m.fitting has m.is;
        order = λ r t m n. same_order order r t _ _ (order_kept (Scale c by plus) (forms.Some sets items order) r t f h m n);
        labels = refl;
        cells = λ r m. same_cells items r (made columns (Scale c by plus) r) (all_scaled c by plus (rising_factor by f.good) i r (made columns (Scale c by plus) r) items h m.is);
      })
  some_carry (DropColumn c) sets items order p f s h e = absurd h
  some_carry (Recode c old new) sets items order p f s h e = absurd h
  some_carry (RetypeToText c) sets items order p f s h e = absurd h

  step_carry : (step : Step) (form : Normal) (p : Plan) → IsFaultless columns step → IsSettled columns form → IsHarmless columns step form → parts_after columns step form ≡ Some p
      → Carry (Moved columns step) (made columns step) (formed form) p
  step_carry step (forms.Nothing labels) p f s h e =
      let are : formed (forms.Nothing labels) ≡ p = cc in
      subst (Carry (Moved columns step) (made columns step) (formed (forms.Nothing labels))) are (record {
        keeps = λ r m. refl;
        order = λ r t m n. same_order [] r t _ _ (order_kept step (forms.Nothing labels) r t f h m n);
        labels = refl;
        cells = λ r m. all_constant labels (made columns step r) r;
      })
  step_carry step (forms.Some sets items order) p f s h e = some_carry step sets items order p f s h e

  -- rows that are carried by a step, as a function of the rows
  all_moved : (step : Step) (table carried : List (List Value)) → list_all (fits columns) table ≡ true → all_some (map (row_after columns step) table) ≡ Some carried
      → AllByRecursion (Moved columns step) table × (map (made columns step) table ≡ carried)
  all_moved step [] carried h e = (tt, cc)
  all_moved step (r ∷ rs) carried h e =
      let (t, ts, first, rest, is) = before_some (row_after columns step r) (all_some (map (row_after columns step) rs)) carried e in
      let (all, are) = all_moved step rs ts (and_second _ _ h) rest in
      let same : made columns step r ≡ t = ap (λ o. unwrap_or o r) first in
      ((record { fitting = and_first _ _ h; is = first ∙ ap Some (sym same) }, all), ap (λ x. x ∷ map (made columns step) rs) same ∙ ap (λ xs. t ∷ xs) are ∙ sym is)

  -- a harmless step keeps the bytes of a form
  pub step_gives : (step : Step) (form next : Normal) (table carried : List (List Value)) (b : List ℕ) → IsFaultless columns step → IsSettled columns form → IsHarmless columns step form → CarriesOne columns step form next
      → IsTrue (is_table columns table) → IsTrue (is_table (columns_after columns step) carried) → all_some (map (row_after columns step) table) ≡ Some carried → Gives (formed form) table b → Gives (formed next) carried b
  step_gives step form next table carried b f s h c table_fits carried_fits e g = by (parts_after columns step form) refl c
    where
      by : (o : Option Plan) → parts_after columns step form ≡ o → IsSomeAnd o (λ p. IsSettled (columns_after columns step) next × Alike (columns_after columns step) p (formed next)) → Gives (formed next) carried b
      by None is k = absurd k
      by (Some p) is k =
          let (all, are) = all_moved step table carried (and_first _ _ table_fits) e in
          let given = carried_gives (Moved columns step) (made columns step) (formed form) p (step_carry step form p f s h is) table b all g in
          (k.1 carried carried_fits b).0 (subst (λ t. Gives p t b) are given)

-- rows are carried step by step
pub first_step : (columns : List schema_column.Column) (x : Step) (xs : List Step) (table carried : List (List Value)) → carry_rows columns (x ∷ xs) table ≡ Some carried
    → (mid : List (List Value)) × (all_some (map (row_after columns x) table) ≡ Some mid) × (carry_rows (columns_after columns x) xs mid ≡ Some carried)
first_step columns x xs [] carried e = ([], refl, e)
first_step columns x xs (r ∷ rs) carried e =
    let (t, ts, first, rest, is) = before_some (carry_row columns (x ∷ xs) r) (carry_rows columns (x ∷ xs) rs) carried e in
    let (m, here, more) = chained (carry_row (columns_after columns x) xs) (row_after columns x r) t first in
    let (ms, made_mid, on) = first_step columns x xs rs ts rest in (
      m ∷ ms,
      ap (λ o. before o (all_some (map (row_after columns x) rs))) here ∙ ap (before (Some m)) made_mid,
      ap (λ o. before o (carry_rows (columns_after columns x) xs ms)) more ∙ ap (before (Some t)) on ∙ ap Some (sym is),
    )

pub one_step_table : (columns : List schema_column.Column) (x : Step) (n : ℕ) (table mid : List (List Value)) → 0 < length columns → step_fault columns n x ≡ None → IsTrue (is_table columns table)
    → all_some (map (row_after columns x) table) ≡ Some mid → IsTrue (is_table (columns_after columns x) mid)
one_step_table columns x n table mid some none fit e =
    carried_table n columns (columns_after columns x) (x ∷ []) table mid some (rw none refl) fit (one_carry table mid e)
  where
    one_row : (o : Option (List Value)) → option_and_then (λ (r : List Value). Some r) o ≡ o
    one_row None = refl
    one_row (Some r) = refl

    one_carry : (rows made_rows : List (List Value)) → all_some (map (row_after columns x) rows) ≡ Some made_rows → carry_rows columns (x ∷ []) rows ≡ Some made_rows
    one_carry rows made_rows e = ap (λ (f : List Value → Option (List Value)). all_some (map f rows)) (λ i r. one_row (row_after columns x r) i) ∙ e
