-- Each query without a fault has a settled form.
use Rattle.std.proofs.Common.{◌≡◌, ◌≢◌, ◌⊎◌, inl, inr, ℕ, zero, suc, ◌<◌, Bool, true, false, ◌&&◌, ◌||◌, List, [], ◌∷◌, Option, Some, None, map, length, get_or, slice_set, is_none, refl, sym, ap, ◌∙◌, subst, arith}
use Rattle.std.specs.List.{AllByRecursion, list_all, list_any, position}
use Rattle.std.specs.Option.{option_or, option_map}
use Rattle.std.specs.Prelude.{◌==◌}
use Rattle.std.specs.Ordering.{int_cmp}
use Rattle.cite_schema.specs.declared.value.Kind.{Kind}
use Rattle.cite_schema.specs.declared.value.Kind.TheVariants as kinds
use Rattle.cite_schema.specs.declared.value.Value.{Value}
use Rattle.cite_schema.specs.declared.value.Value.TheVariants.{Int, Text}
use Rattle.cite_schema.specs.declared.schema.Column as schema_column
use Rattle.cite_schema.specs.declared.query.OnColumn.{OnColumn}
use Rattle.cite_schema.specs.declared.query.Asked.{Asked}
use Rattle.cite_schema.specs.declared.query.Query.{Query}
use Rattle.cite_schema.specs.declared.item.Item.{Item}
use Rattle.cite_schema.specs.declared.item.Dir.{Dir}
use Rattle.cite_schema.specs.declared.condition.Cond.{Cond}
use Rattle.cite_schema.specs.Values.{text_cmp, is_value_of}
use Rattle.cite_schema.specs.Headings.{is_heading}
use Rattle.cite_schema.specs.Layout.{labels}
use Rattle.cite_schema.specs.Conditions.{meets}
use Rattle.cite_schema.specs.Queries.{asked, column_of, index_of, meets_on}
use Rattle.cite_schema.specs.Answers.{Alike}
use Rattle.cite_schema.proofs.Rising.{and_first, and_second}
use Rattle.interval_normal.specs.Cross.{cross}
use Rattle.interval_normal.specs.Points.{number_after, number_next, text_after, text_next}
use Rattle.interval_normal.specs.Spans.{HoldsOne}
use Rattle.interval_normal.proofs.Crossing.{cross_canonical, has_cross}
use Rattle.interval_normal.proofs.Unique.{first}
use Rattle.subset_query.specs.declared.form.ColumnSet.{ColumnSet}
use Rattle.subset_query.specs.declared.form.ColumnSet.TheVariants.{Ints, Texts}
use Rattle.subset_query.specs.declared.form.Normal.TheVariants as forms
use Rattle.cite_schema.specs.declared.item.Shown.TheVariants.{Column}
use Rattle.subset_query.specs.declared.checks.QueryFault.{QueryFault}
use Rattle.subset_query.specs.declared.checks.QueryFault.TheVariants.{NoItems, UnknownColumn}
use Rattle.subset_query.specs.Checks.{first_of, size_faults, column_faults, where_so}
use Rattle.subset_query.specs.Forms.{formed, in_set, in_sets, is_set_for, are_sets_for, HasTwo, AreShownIn, AreColumnsIn, printed_columns}
use Rattle.subset_query.specs.FormLaws.{HasForm, QueriesHaveAForm}
use Rattle.subset_query.specs.Settling.{own_kind, IsCanonicalSet, HoldsNone, HasNone, IsOne, Fixes, AreFixing, settled_item, needed_order}
use Rattle.subset_query.proofs.Alikes.{alike_on}
use Rattle.subset_query.proofs.Chosen.{IsFull, AreFull, full_kinds, full_rows, IsNarrowed, same_count, found_within, own_at, own_is, narrow_one, all_known, asked_shown, asked_there, asked_alike}
use Rattle.subset_query.proofs.Expressible.{Spanned, every_number, every_text, numbers_asked, texts_asked}
use Rattle.subset_query.proofs.Sets.{numbers, texts}
use Rattle.subset_query.proofs.SingleValues.{IsNum, IsTxt, TwoIn, one_or_two, alone_number, alone_text, two_numbers, two_texts}
use Rattle.subset_query.proofs.Settled.{none_alike, some_column, AreMade, made_alike, made_settled}

of_some : {X : Type 0} (a b : X) → Some a ≡ Some b → a ≡ b
of_some a b e = cc

-- a value that is the only one fixes the set
fixed_one : (s : ColumnSet) (w : Value) → IsCanonicalSet s → (¬ HoldsNone s) → IsOne (own_kind s) s w → Fixes s (Some w)
fixed_one s w c some one = record {
  canonical = c;
  some_value = some;
  one = λ v. (λ e. subst (IsOne (own_kind s) s) (of_some w v e) one, λ h. ap Some (sym (one.alone v h.of_kind h.inside)));
}

-- a set with two values is fixed to none
fixed_none : (s : ColumnSet) → IsCanonicalSet s → (¬ HoldsNone s) → HasTwo (own_kind s) s → Fixes s None
fixed_none s c some two = record {
  canonical = c;
  some_value = some;
  one = λ v. (λ e. absurd (cc), λ h. absurd (two.differ (both v h)));
}
  where
    both : (v : Value) → IsOne (own_kind s) s v → two.one ≡ two.other
    both v h =
        h.alone two.one (and_first (is_value_of (own_kind s) two.one) (in_set s two.one) two.one_in) (and_second (is_value_of (own_kind s) two.one) (in_set s two.one) two.one_in)
        ∙ sym (h.alone two.other (and_first (is_value_of (own_kind s) two.other) (in_set s two.other) two.other_in) (and_second (is_value_of (own_kind s) two.other) (in_set s two.other) two.other_in))

fixes : (s : ColumnSet) → IsCanonicalSet s → HoldsNone s ⊎ ((o : Option Value) × Fixes s o)
fixes (Ints []) c = inl refl
fixes (Texts []) c = inl refl
fixes (Ints (s ∷ ss)) c = inr (by (one_or_two IsNum int_cmp numbers s ss (number_after s.low) c (number_next s.low (first IsNum int_cmp numbers s ss c).low)))
  where
    some : ¬ HoldsNone (Ints (s ∷ ss))
    some e = cc

    by : HoldsOne IsNum int_cmp (s ∷ ss) s.low ⊎ TwoIn IsNum int_cmp (s ∷ ss) → (o : Option Value) × Fixes (Ints (s ∷ ss)) o
    by (inl one) = (Some (Int s.low), fixed_one (Ints (s ∷ ss)) (Int s.low) c some (alone_number (s ∷ ss) s.low one))
    by (inr two) = (None, fixed_none (Ints (s ∷ ss)) c some (two_numbers (s ∷ ss) two))
fixes (Texts (s ∷ ss)) c = inr (by (one_or_two IsTxt text_cmp texts s ss (text_after s.low) c (text_next s.low (first IsTxt text_cmp texts s ss c).low)))
  where
    some : ¬ HoldsNone (Texts (s ∷ ss))
    some e = cc

    by : HoldsOne IsTxt text_cmp (s ∷ ss) s.low ⊎ TwoIn IsTxt text_cmp (s ∷ ss) → (o : Option Value) × Fixes (Texts (s ∷ ss)) o
    by (inl one) = (Some (Text s.low), fixed_one (Texts (s ∷ ss)) (Text s.low) c some (alone_text (s ∷ ss) s.low one))
    by (inr two) = (None, fixed_none (Texts (s ∷ ss)) c some (two_texts (s ∷ ss) two))

-- canonical sets, of which one holds nothing, or each is fixed to a value or to none
pub all_fixes : (ss : List ColumnSet) → AllByRecursion IsCanonicalSet ss → HasNone ss ⊎ ((os : List (Option Value)) × AreFixing ss os)
all_fixes [] h = inr ([], tt)
all_fixes (s ∷ ss) h = by (fixes s h.0) (all_fixes ss h.1)
  where
    by : HoldsNone s ⊎ ((o : Option Value) × Fixes s o) → HasNone ss ⊎ ((os : List (Option Value)) × AreFixing ss os) → HasNone (s ∷ ss) ⊎ ((os : List (Option Value)) × AreFixing (s ∷ ss) os)
    by (inl e) more = inl (inl e)
    by (inr (o, f)) (inl e) = inl (inr e)
    by (inr (o, f)) (inr (os, fs)) = inr (o ∷ os, (f, fs))

-- items that are there have labels
pub some_labels : (items : List Item) → items ≢ [] → labels items ≢ []
some_labels [] h e = h refl
some_labels (i ∷ is) h e = cc

-- loose parts whose sets are canonical have a settled form
parts_form : (cs : List schema_column.Column) (q : Query) (ss : List ColumnSet) (items : List Item) (order : List Dir) → are_sets_for cs ss ≡ true → AllByRecursion IsCanonicalSet ss → is_heading cs ≡ true
    → items ≢ [] → AreShownIn cs items → AreColumnsIn cs order → Alike cs (asked cs q) (record { keeps = in_sets ss; order = order; items = items }) → HasForm cs q
parts_form cs q ss items order own canonical heading some shown there same = by (all_fixes ss canonical)
  where
    by : HasNone ss ⊎ ((os : List (Option Value)) × AreFixing ss os) → HasForm cs q
    by (inl none) = record {
      form = forms.Nothing (labels items);
      settled = some_labels items some;
      alike = alike_on cs (asked cs q) (record { keeps = in_sets ss; order = order; items = items }) (formed (forms.Nothing (labels items))) same (none_alike cs ss items order none);
    }
    by (inr (os, fixing)) =
        let made_items = map (settled_item os) items in
        let made_order = needed_order os (printed_columns made_items) order in
        let made : AreMade ss items order made_items made_order = record { only = os; fixing = fixing; items_are = refl; order_is = refl } in
        record {
          form = forms.Some ss made_items made_order;
          settled = made_settled cs ss items made_items order made_order own made heading some shown there;
          alike = alike_on cs (asked cs q) (record { keeps = in_sets ss; order = order; items = items }) (formed (forms.Some ss made_items made_order)) same (made_alike cs ss items made_items order made_order own made);
        }

-- the values of the kind that meet a condition
record IsMet (k : Kind) (c : Cond) (s : ColumnSet) : Type 0 where
  of_kind : is_set_for k s ≡ true
  canonical : IsCanonicalSet s
  met : (v : Value) → is_value_of k v ≡ true → in_set s v ≡ meets c v

set_met : (k : Kind) (c : Cond) → (s : ColumnSet) × IsMet k c s
set_met kinds.Int c = (Ints found.spans, record { of_kind = refl; canonical = found.canonical; met = by })
  where
    found : Spanned IsNum int_cmp (λ z. meets c (Int z))
    found = numbers_asked c

    by : (v : Value) → is_value_of kinds.Int v ≡ true → in_set (Ints found.spans) v ≡ meets c v
    by (Int z) f = found.has_is z f
    by (Text t) f = cc
set_met kinds.Text c = (Texts found.spans, record { of_kind = refl; canonical = found.canonical; met = by })
  where
    found : Spanned IsTxt text_cmp (λ t. meets c (Text t))
    found = texts_asked c

    by : (v : Value) → is_value_of kinds.Text v ≡ true → in_set (Texts found.spans) v ≡ meets c v
    by (Int z) f = cc
    by (Text t) f = found.has_is t f

-- the values of both sets
record IsBoth (s t n : ColumnSet) : Type 0 where
  of_kind : own_kind n ≡ own_kind s
  canonical : IsCanonicalSet n
  values : (v : Value) → in_set n v ≡ (in_set s v && in_set t v)

both_sets : (s t : ColumnSet) → own_kind s ≡ own_kind t → IsCanonicalSet s → IsCanonicalSet t → (n : ColumnSet) × IsBoth s t n
both_sets (Ints a) (Ints b) e c d = (Ints (cross int_cmp a b), record { of_kind = refl; canonical = cross_canonical IsNum int_cmp numbers a b c d; values = by })
  where
    by : (v : Value) → in_set (Ints (cross int_cmp a b)) v ≡ (in_set (Ints a) v && in_set (Ints b) v)
    by (Int z) = has_cross IsNum int_cmp numbers a b z
    by (Text t) = refl
both_sets (Ints a) (Texts b) e c d = cc
both_sets (Texts a) (Ints b) e c d = cc
both_sets (Texts a) (Texts b) e c d = (Texts (cross text_cmp a b), record { of_kind = refl; canonical = cross_canonical IsTxt text_cmp texts a b c d; values = by })
  where
    by : (v : Value) → in_set (Texts (cross text_cmp a b)) v ≡ (in_set (Texts a) v && in_set (Texts b) v)
    by (Int z) = refl
    by (Text t) = has_cross IsTxt text_cmp texts a b t

-- for each column the canonical set of all values
all_full : (cs : List schema_column.Column) → (ss : List ColumnSet) × (AreFull cs ss × AllByRecursion IsCanonicalSet ss)
all_full [] = ([], (tt, tt))
all_full (c ∷ cs) = by c.kind refl (all_full cs)
  where
    every_value : (k : Kind) → (s : ColumnSet) × (IsFull k s × IsCanonicalSet s)
    every_value kinds.Int = (Ints every_number.spans, (record { of_kind = refl; all = in_all }, every_number.canonical))
      where
        in_all : (v : Value) → is_value_of kinds.Int v ≡ true → in_set (Ints every_number.spans) v ≡ true
        in_all (Int z) f = every_number.has_is z f
        in_all (Text t) f = cc
    every_value kinds.Text = (Texts every_text.spans, (record { of_kind = refl; all = in_all }, every_text.canonical))
      where
        in_all : (v : Value) → is_value_of kinds.Text v ≡ true → in_set (Texts every_text.spans) v ≡ true
        in_all (Int z) f = cc
        in_all (Text t) f = every_text.has_is t f

    by : (k : Kind) → c.kind ≡ k → (ss : List ColumnSet) × (AreFull cs ss × AllByRecursion IsCanonicalSet ss) → (ss : List ColumnSet) × (AreFull (c ∷ cs) ss × AllByRecursion IsCanonicalSet ss)
    by k e (ss, (full, canonical)) =
        let (s, (all, one)) = every_value c.kind in
        (s ∷ ss, ((all, full), (one, canonical)))

same_at : {X : Type 0} (xs : List X) (i : ℕ) (d e : X) → i < length xs → get_or xs i d ≡ get_or xs i e
same_at [] i d e lt = absurd (omega arith)
same_at (x ∷ xs) zero d e lt = refl
same_at (x ∷ xs) (suc i) d e lt = same_at xs i d e (omega arith)

all_at : {X : Type 0} (Q : X → Type 0) (xs : List X) (i : ℕ) (d : X) → AllByRecursion Q xs → i < length xs → Q (get_or xs i d)
all_at Q [] i d h lt = absurd (omega arith)
all_at Q (x ∷ xs) zero d h lt = h.0
all_at Q (x ∷ xs) (suc i) d h lt = all_at Q xs i d h.1 (omega arith)

all_set : {X : Type 0} (Q : X → Type 0) (xs : List X) (i : ℕ) (n : X) → AllByRecursion Q xs → Q n → AllByRecursion Q (slice_set xs i n)
all_set Q [] i n h one = tt
all_set Q (x ∷ xs) zero n h one = (one, h.1)
all_set Q (x ∷ xs) (suc i) n h one = (h.0, all_set Q xs i n h.1 one)

-- the sets, cut down by all conditions
record IsCut (cs : List schema_column.Column) (conds : List OnColumn) (ss : List ColumnSet) : Type 0 where
  narrowed : IsNarrowed cs ss conds []
  canonical : AllByRecursion IsCanonicalSet ss

-- the sets cut down by one condition more, and then by the rest
cut_once : (cs : List schema_column.Column) (conds rest : List OnColumn) (o : OnColumn) (ss : List ColumnSet) → IsNarrowed cs ss conds (o ∷ rest) → AllByRecursion IsCanonicalSet ss
    → is_none (column_of cs o.column) ≡ false
    → ((ts : List ColumnSet) → IsNarrowed cs ts conds rest → AllByRecursion IsCanonicalSet ts → (us : List ColumnSet) × IsCut cs conds us) → (us : List ColumnSet) × IsCut cs conds us
cut_once cs conds rest o ss h canonical known more = by (column_of cs o.column) refl
  where
    column : schema_column.Column
    column = record { name = []; kind = kinds.Int }

    by : (p : Option ℕ) → column_of cs o.column ≡ p → (us : List ColumnSet) × IsCut cs conds us
    by None e = let no : true ≡ false = sym (ap is_none e) ∙ known in cc
    by (Some place) e =
        let within = found_within cs o.column place e in
        let here : place < length ss = subst (λ n. place < n) (same_count cs ss h.kinds) within in
        let s = get_or ss place (Ints []) in
        let (met, is_met) = set_met (get_or cs place column).kind o.cond in
        let kinds_are : own_kind s ≡ own_kind met = own_at cs ss place column (Ints []) h.kinds within ∙ sym (own_is (get_or cs place column).kind met is_met.of_kind) in
        let (n, is_both) = both_sets s met kinds_are (all_at IsCanonicalSet ss place (Ints []) canonical here) is_met.canonical in
        more (slice_set ss place n)
        (narrow_one cs ss conds rest o place column s met n h (sym e) (same_at ss place (Ints []) s here) is_met.of_kind is_met.met is_both.of_kind (λ v f. is_both.values v))
        (all_set IsCanonicalSet ss place n canonical is_both.canonical)

-- neither of two tests holds
pub neither : (a b : Bool) → (a || b) ≡ false → (a ≡ false) × (b ≡ false)
neither true b e = absurd (cc)
neither false b e = (refl, e)

cut : (cs : List schema_column.Column) (conds rest : List OnColumn) (ss : List ColumnSet) → IsNarrowed cs ss conds rest → AllByRecursion IsCanonicalSet ss
    → list_any (λ (o : OnColumn). is_none (column_of cs o.column)) rest ≡ false → (ts : List ColumnSet) × IsCut cs conds ts
cut cs conds [] ss h canonical known = (ss, record { narrowed = h; canonical = canonical })
cut cs conds (o ∷ rest) ss h canonical known =
    let known_all = neither (is_none (column_of cs o.column)) (list_any (λ (p : OnColumn). is_none (column_of cs p.column)) rest) known in
    cut_once cs conds rest o ss h canonical known_all.0 (λ ts g c. cut cs conds rest ts g c known_all.1)

-- where no fault is told, none of the faults that stand first applies
head_none : (o : Option QueryFault) (rest : List (Option QueryFault)) (b : Option QueryFault) → option_or (first_of (o ∷ rest)) b ≡ None → o ≡ None
head_none None rest b h = refl
head_none (Some f) rest b h = cc

tail_none : (a b : Option QueryFault) → option_or a b ≡ None → b ≡ None
tail_none None b h = h
tail_none (Some f) b h = cc

second_none : (o p : Option QueryFault) (rest : List (Option QueryFault)) → first_of (o ∷ p ∷ rest) ≡ None → p ≡ None
second_none None None rest h = refl
second_none None (Some f) rest h = cc
second_none (Some f) p rest h = cc

unmapped_none : {X Y : Type 0} (f : X → Y) (o : Option X) → option_map f o ≡ None → o ≡ None
unmapped_none f None h = refl
unmapped_none f (Some x) h = cc

some_items : (cs : List schema_column.Column) (asks : List Asked) → where_so (length asks == 0) NoItems ≡ None → map {B = Item} (λ (a : Asked). record { label = a.label; what = Column (index_of cs a.column) }) asks ≢ []
some_items cs [] h e = cc
some_items cs (a ∷ rest) h e = cc

always : (b : Bool) → b ≡ (b && true)
always true = refl
always false = refl

-- each query without a fault has a settled form
pub has_form : QueriesHaveAForm
has_form cs q heading fault =
    let (full, all) = all_full cs in
    let conds_known : list_any (λ (o : OnColumn). is_none (column_of cs o.column)) q.conds ≡ false =
    all_known cs q.conds (unmapped_none (λ i. UnknownColumn 1 i) (position (λ (o : OnColumn). is_none (column_of cs o.column)) q.conds)
    (second_none _ _ _ (tail_none (first_of (size_faults q)) (first_of (column_faults cs q)) fault))) in
    let (ss, is_cut) = cut cs q.conds q.conds full (record { kinds = full_kinds cs full all.0; chosen = λ r f. ap (λ b. b && list_all (λ o. meets_on cs o r) q.conds) (full_rows cs full all.0 r f) }) all.1 conds_known in
    parts_form cs q ss (asked cs q).items (asked cs q).order is_cut.narrowed.kinds is_cut.canonical heading
    (some_items cs q.items (head_none _ _ (first_of (column_faults cs q)) fault))
    (asked_shown cs q.items (some_column cs heading)) (asked_there cs q.order (some_column cs heading))
    (asked_alike cs q ss (asked cs q).items (asked cs q).order (λ r f. always (in_sets ss r) ∙ is_cut.narrowed.chosen r f) refl refl)
