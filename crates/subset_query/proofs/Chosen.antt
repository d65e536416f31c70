-- The sets of columns that a query's conditions choose.
use Rattle.std.proofs.Common.{◌≡◌, ℕ, zero, suc, ◌+◌, ◌<◌, Bool, true, false, ◌&&◌, ◌||◌, List, [], ◌∷◌, ◌++◌, Option, Some, None, length, take, drop, get_or, slice_get, slice_set, nat_lt, not, cond, is_none, map, drop-cons, refl, sym, ap, ◌∙◌, subst, arith}
use Rattle.std.specs.List.{list_all, list_any, position, position_or_len}
use Rattle.std.specs.Option.{option_and_then}
use Rattle.std.specs.Prelude.{unwrap_or}
use Rattle.std.specs.Ordering.{is_eq}
use Rattle.std.proofs.lemmas.Bool.Decides.{nat_tests}
use Rattle.std.proofs.lemmas.List.Quantifiers.{position-Some}
use Rattle.std.proofs.lemmas.List.{take_more}
use Rattle.cite_schema.specs.declared.value.Kind.{Kind}
use Rattle.cite_schema.specs.declared.value.Kind.TheVariants as kinds
use Rattle.cite_schema.specs.declared.value.Value.{Value}
use Rattle.cite_schema.specs.declared.schema.Column as schema_column
use Rattle.cite_schema.specs.declared.query.OnColumn.{OnColumn}
use Rattle.cite_schema.specs.declared.query.Asked.{Asked}
use Rattle.cite_schema.specs.declared.query.Along.{Along}
use Rattle.cite_schema.specs.declared.query.Query.{Query}
use Rattle.cite_schema.specs.declared.item.Item.{Item}
use Rattle.cite_schema.specs.declared.item.Dir.{Dir}
use Rattle.cite_schema.specs.declared.item.Shown.TheVariants.{Column}
use Rattle.cite_schema.specs.declared.condition.Cond.{Cond}
use Rattle.cite_schema.specs.Values.{is_value_of, text_cmp}
use Rattle.cite_schema.specs.Conditions.{meets}
use Rattle.cite_schema.specs.Tables.{fits}
use Rattle.cite_schema.specs.Layout.{labels, cells}
use Rattle.cite_schema.specs.Answers.{Alike, order_cmp}
use Rattle.cite_schema.specs.Queries.{column_of, index_of, cell_meets, meets_on, asked}
use Rattle.subset_query.specs.declared.form.ColumnSet.{ColumnSet}
use Rattle.subset_query.specs.declared.form.ColumnSet.TheVariants.{Ints, Texts}
use Rattle.subset_query.specs.Forms.{in_set, in_sets, is_set_for, are_sets_for, AreShownIn, AreColumnsIn}
use Rattle.subset_query.specs.Settling.{own_kind}
use Rattle.subset_query.proofs.Alikes.{alike_by}
use Rattle.cite_schema.proofs.Rising.{and_first, and_second, and_true}

-- the set has every value of the kind
pub record IsFull (k : Kind) (s : ColumnSet) : Type 0 where
  pub of_kind : is_set_for k s ≡ true
  pub all : (v : Value) → is_value_of k v ≡ true → in_set s v ≡ true

-- so for each column
abbrev pub AreFull : List schema_column.Column → List ColumnSet → Type 0
AreFull [] [] = Unit {0}
AreFull (c ∷ cs) (s ∷ ss) = IsFull c.kind s × AreFull cs ss
AreFull _ _ = ⊥

full_last : (cs : List schema_column.Column) (ss : List ColumnSet) (c : schema_column.Column) (s : ColumnSet) → AreFull cs ss → IsFull c.kind s → AreFull (cs ++ (c ∷ [])) (ss ++ (s ∷ []))
full_last [] [] c s h f = (f, tt)
full_last [] (t ∷ ts) c s h f = absurd h
full_last (d ∷ ds) [] c s h f = absurd h
full_last (d ∷ ds) (t ∷ ts) c s h f = (h.0, full_last ds ts c s h.1 f)

-- one column more
pub full_more : (cs : List schema_column.Column) (i : ℕ) (c : schema_column.Column) (ss : List ColumnSet) (s : ColumnSet) → i < length cs → c ≡ get_or cs i c → AreFull (take i cs) ss → IsFull c.kind s → AreFull (take (i + 1) cs) (ss ++ (s ∷ []))
full_more cs i c ss s lt is h f = subst (λ w. AreFull w (ss ++ (s ∷ []))) (ap (λ x. take i cs ++ (x ∷ [])) is ∙ sym (take_more cs i c lt)) (full_last (take i cs) ss c s h f)

pub full_kinds : (cs : List schema_column.Column) (ss : List ColumnSet) → AreFull cs ss → are_sets_for cs ss ≡ true
full_kinds [] [] h = refl
full_kinds [] (s ∷ ss) h = absurd h
full_kinds (c ∷ cs) [] h = absurd h
full_kinds (c ∷ cs) (s ∷ ss) h = and_true _ _ h.0.of_kind (full_kinds cs ss h.1)

pub full_rows : (cs : List schema_column.Column) (ss : List ColumnSet) → AreFull cs ss → (r : List Value) → fits cs r ≡ true → in_sets ss r ≡ true
full_rows [] [] h [] f = refl
full_rows [] [] h (v ∷ vs) f = cc
full_rows [] (s ∷ ss) h r f = absurd h
full_rows (c ∷ cs) [] h r f = absurd h
full_rows (c ∷ cs) (s ∷ ss) h [] f = cc
full_rows (c ∷ cs) (s ∷ ss) h (v ∷ vs) f = and_true _ _ (h.0.all v (and_first _ _ f)) (full_rows cs ss h.1 vs (and_second _ _ f))

-- the sets, cut down by all conditions but the rest
pub record IsNarrowed (cs : List schema_column.Column) (ss : List ColumnSet) (conds rest : List OnColumn) : Type 0 where
  pub kinds : are_sets_for cs ss ≡ true
  pub chosen : (r : List Value) → fits cs r ≡ true → (in_sets ss r && list_all (λ o. meets_on cs o r) rest) ≡ list_all (λ o. meets_on cs o r) conds

pub same_count : (cs : List schema_column.Column) (ss : List ColumnSet) → are_sets_for cs ss ≡ true → length cs ≡ length ss
same_count [] [] h = refl
same_count [] (s ∷ ss) h = cc
same_count (c ∷ cs) [] h = cc
same_count (c ∷ cs) (s ∷ ss) h = ap suc (same_count cs ss (and_second _ _ h))

-- a set of the kind is seen as one by itself, and the other way round
pub own_is : (k : Kind) (s : ColumnSet) → is_set_for k s ≡ true → own_kind s ≡ k
own_is kinds.Int (Ints ss) h = refl
own_is kinds.Int (Texts ss) h = cc
own_is kinds.Text (Ints ss) h = cc
own_is kinds.Text (Texts ss) h = refl

is_own : (s : ColumnSet) → is_set_for (own_kind s) s ≡ true
is_own (Ints ss) = refl
is_own (Texts ss) = refl

-- the set of a column is of its kind
pub own_at : (cs : List schema_column.Column) (ss : List ColumnSet) (i : ℕ) (c : schema_column.Column) (s : ColumnSet) → are_sets_for cs ss ≡ true → i < length cs → own_kind (get_or ss i s) ≡ (get_or cs i c).kind
own_at [] ss i c s h lt = absurd (omega arith)
own_at (d ∷ ds) [] i c s h lt = cc
own_at (d ∷ ds) (t ∷ ts) zero c s h lt = own_is d.kind t (and_first _ _ h)
own_at (d ∷ ds) (t ∷ ts) (suc i) c s h lt = own_at ds ts i c s (and_second _ _ h) (omega arith)

-- the set at a place replaced by another of its kind
narrow_kinds : (cs : List schema_column.Column) (ss : List ColumnSet) (i : ℕ) (c : schema_column.Column) (n : ColumnSet) → are_sets_for cs ss ≡ true → i < length cs → is_set_for (get_or cs i c).kind n ≡ true → are_sets_for cs (slice_set ss i n) ≡ true
narrow_kinds [] ss i c n h lt k = absurd (omega arith)
narrow_kinds (d ∷ ds) [] i c n h lt k = cc
narrow_kinds (d ∷ ds) (t ∷ ts) zero c n h lt k = and_true _ _ k (and_second _ _ h)
narrow_kinds (d ∷ ds) (t ∷ ts) (suc i) c n h lt k = and_true _ _ (and_first _ _ h) (narrow_kinds ds ts i c n (and_second _ _ h) (omega arith) k)

swap_last : (a m b : Bool) → ((a && m) && b) ≡ ((a && b) && m)
swap_last true true b = by b
  where
    by : (x : Bool) → x ≡ (x && true)
    by true = refl
    by false = refl
swap_last true false b = by b
  where
    by : (x : Bool) → false ≡ (x && false)
    by true = refl
    by false = refl
swap_last false m b = refl

and_assoc : (a b c : Bool) → (a && (b && c)) ≡ ((a && b) && c)
and_assoc true b c = refl
and_assoc false b c = refl

-- the rows of the sets, where one set is cut down by a condition
narrow_rows : (cs : List schema_column.Column) (ss : List ColumnSet) (i : ℕ) (c : schema_column.Column) (s n : ColumnSet) (k : Cond) → are_sets_for cs ss ≡ true → i < length cs
    → ((v : Value) → is_value_of (get_or cs i c).kind v ≡ true → in_set n v ≡ (in_set (get_or ss i s) v && meets k v))
    → (r : List Value) → fits cs r ≡ true → in_sets (slice_set ss i n) r ≡ (in_sets ss r && cell_meets k (slice_get r i))
narrow_rows [] ss i c s n k h lt cut r f = absurd (omega arith)
narrow_rows (d ∷ ds) [] i c s n k h lt cut r f = cc
narrow_rows (d ∷ ds) (t ∷ ts) i c s n k h lt cut [] f = cc
narrow_rows (d ∷ ds) (t ∷ ts) zero c s n k h lt cut (v ∷ vs) f = ap (λ b. b && in_sets ts vs) (cut v (and_first _ _ f)) ∙ swap_last (in_set t v) (meets k v) (in_sets ts vs)
narrow_rows (d ∷ ds) (t ∷ ts) (suc i) c s n k h lt cut (v ∷ vs) f =
    ap (λ b. in_set t v && b) (narrow_rows ds ts i c s n k (and_second _ _ h) (omega arith) cut vs (and_second _ _ f)) ∙ and_assoc (in_set t v) (in_sets ts vs) (cell_meets k (slice_get vs i))

-- a column that is found is there
pub found_within : (cs : List schema_column.Column) (name : List ℕ) (i : ℕ) → column_of cs name ≡ Some i → i < length cs
found_within cs name i e = (position-Some (λ c. is_eq (text_cmp c.name name)) cs i (record { name = []; kind = kinds.Int }) e).0

-- one condition more
pub narrow_one : (cs : List schema_column.Column) (ss : List ColumnSet) (conds rest : List OnColumn) (o : OnColumn) (place : ℕ) (c : schema_column.Column) (s met n : ColumnSet)
    → IsNarrowed cs ss conds (o ∷ rest) → Some place ≡ column_of cs o.column → s ≡ get_or ss place s
    → is_set_for (get_or cs place c).kind met ≡ true → ((v : Value) → is_value_of (get_or cs place c).kind v ≡ true → in_set met v ≡ meets o.cond v)
    → own_kind n ≡ own_kind s → ((v : Value) → is_value_of (own_kind s) v ≡ true → in_set n v ≡ (in_set s v && in_set met v))
    → IsNarrowed cs (slice_set ss place n) conds rest
narrow_one cs ss conds rest o place c s met n h found s_is met_kind met_in n_kind n_in = record {
  kinds = narrow_kinds cs ss place c n h.kinds within (subst (λ k. is_set_for k n ≡ true) (n_kind ∙ own) (is_own n));
  chosen = λ r f. ap (λ b. b && list_all (λ p. meets_on cs p r) rest) (narrow_rows cs ss place c s n o.cond h.kinds within cut r f ∙ ap (λ b. in_sets ss r && b) (on_it r))
      ∙ sym (and_assoc (in_sets ss r) (meets_on cs o r) (list_all (λ p. meets_on cs p r) rest)) ∙ h.chosen r f;
}
  where
    within : place < length cs
    within = found_within cs o.column place (sym found)

    own : own_kind s ≡ (get_or cs place c).kind
    own = ap own_kind s_is ∙ own_at cs ss place c s h.kinds within

    cut : (v : Value) → is_value_of (get_or cs place c).kind v ≡ true → in_set n v ≡ (in_set (get_or ss place s) v && meets o.cond v)
    cut v f = n_in v (subst (λ k. is_value_of k v ≡ true) (sym own) f) ∙ ap (λ b. in_set s v && b) (met_in v f) ∙ ap (λ t. in_set t v && meets o.cond v) s_is

    on_it : (r : List Value) → cell_meets o.cond (slice_get r place) ≡ meets_on cs o r
    on_it r = ap (λ p. cell_meets o.cond (option_and_then (λ j. slice_get r j) p)) found

-- likewise, where the conditions left are those from a place on
pub narrow_more : (cs : List schema_column.Column) (ss : List ColumnSet) (conds : List OnColumn) (i : ℕ) (o : OnColumn) (place : ℕ) (c : schema_column.Column) (s met n : ColumnSet)
    → i < length conds → o ≡ get_or conds i o → IsNarrowed cs ss conds (drop i conds) → Some place ≡ column_of cs o.column → s ≡ get_or ss place s
    → is_set_for (get_or cs place c).kind met ≡ true → ((v : Value) → is_value_of (get_or cs place c).kind v ≡ true → in_set met v ≡ meets o.cond v)
    → own_kind n ≡ own_kind s → ((v : Value) → is_value_of (own_kind s) v ≡ true → in_set n v ≡ (in_set s v && in_set met v))
    → IsNarrowed cs (slice_set ss place n) conds (drop (i + 1) conds)
narrow_more cs ss conds i o place c s met n lt o_is h found s_is met_kind met_in n_kind n_in =
    narrow_one cs ss conds (drop (i + 1) conds) o place c s met n (subst (λ ps. IsNarrowed cs ss conds ps) front h) found s_is met_kind met_in n_kind n_in
  where
    one_more : (j : ℕ) → suc j ≡ j + 1
    one_more j = omega arith

    front : drop i conds ≡ o ∷ drop (i + 1) conds
    front = drop-cons conds i o lt ∙ ap (λ x. x ∷ drop (suc i) conds) (sym o_is) ∙ ap (λ j. o ∷ drop j conds) (one_more i)

-- where no place passes a test, the element at a place does not
none_passes : {X : Type 0} (p : X → Bool) (xs : List X) (i : ℕ) (d : X) → nat_lt (position_or_len p xs) (length xs) ≡ false → i < length xs → p (get_or xs i d) ≡ false
none_passes p [] i d h lt = absurd (omega arith)
none_passes p (x ∷ xs) i d h lt = by (p x) refl i lt h (λ j below. none_passes p xs j d below)
  where
    by : (b : Bool) → p x ≡ b → (j : ℕ) → j < length (x ∷ xs) → nat_lt (cond (not b) (1 + position_or_len p xs) 0) (length (x ∷ xs)) ≡ false
        → ((m : ℕ) → nat_lt (position_or_len p xs) (length xs) ≡ false → m < length xs → p (get_or xs m d) ≡ false) → p (get_or (x ∷ xs) j d) ≡ false
    by true e j below n more = absurd (grind (arith, nat_tests))
    by false e zero below n more = e
    by false e (suc j) below n more = more j (grind (arith, nat_tests)) (omega arith)

none_position : {X : Type 0} (p : X → Bool) (xs : List X) → position p xs ≡ None → nat_lt (position_or_len p xs) (length xs) ≡ false
none_position p xs e = by (nat_lt (position_or_len p xs) (length xs)) e
  where
    by : (b : Bool) → cond b (Some (position_or_len p xs)) None ≡ None → b ≡ false
    by true h = cc
    by false h = refl

none_any : {X : Type 0} (p : X → Bool) (xs : List X) → nat_lt (position_or_len p xs) (length xs) ≡ false → list_any p xs ≡ false
none_any p [] h = refl
none_any p (x ∷ xs) h = by (p x) refl h (λ n. none_any p xs n)
  where
    by : (b : Bool) → p x ≡ b → nat_lt (cond (not b) (1 + position_or_len p xs) 0) (length (x ∷ xs)) ≡ false → (nat_lt (position_or_len p xs) (length xs) ≡ false → list_any p xs ≡ false) → (p x || list_any p xs) ≡ false
    by true e n more = absurd (grind (arith, nat_tests))
    by false e n more = ap (λ b. b || list_any p xs) e ∙ more (grind (arith, nat_tests))

-- where no place is that of a condition whose column is unknown, none is
pub all_known : (cs : List schema_column.Column) (conds : List OnColumn) → position (λ (o : OnColumn). is_none (column_of cs o.column)) conds ≡ None → list_any (λ (o : OnColumn). is_none (column_of cs o.column)) conds ≡ false
all_known cs conds e = none_any (λ (o : OnColumn). is_none (column_of cs o.column)) conds (none_position (λ (o : OnColumn). is_none (column_of cs o.column)) conds e)

-- of conditions whose columns are all known none is unknown
pub never_unknown : (cs : List schema_column.Column) (conds : List OnColumn) (i : ℕ) (o : OnColumn) → position (λ p. is_none (column_of cs p.column)) conds ≡ None → i < length conds → o ≡ get_or conds i o → None ≡ column_of cs o.column → ⊥
never_unknown cs conds i o known lt is none =
    let no : true ≡ false = ap is_none none ∙ ap (λ (p : OnColumn). is_none (column_of cs p.column)) is ∙ none_passes (λ p. is_none (column_of cs p.column)) conds i o (none_position (λ p. is_none (column_of cs p.column)) conds known) lt in
    cc

-- a name's place is that of a column, also where no column has the name
index_within : (cs : List schema_column.Column) (name : List ℕ) → 0 < length cs → index_of cs name < length cs
index_within cs name some = by (column_of cs name) refl
  where
    by : (o : Option ℕ) → column_of cs name ≡ o → unwrap_or o 0 < length cs
    by None e = some
    by (Some i) e = found_within cs name i e

pub asked_shown : (cs : List schema_column.Column) (asks : List Asked) → 0 < length cs → AreShownIn cs (map (λ (a : Asked). record { label = a.label; what = Column (index_of cs a.column) }) asks)
asked_shown cs [] some = tt
asked_shown cs (a ∷ as') some = (index_within cs a.column some, asked_shown cs as' some)

pub asked_there : (cs : List schema_column.Column) (asks : List Along) → 0 < length cs → AreColumnsIn cs (map (λ (a : Along). record { column = index_of cs a.column; down = a.down }) asks)
asked_there cs [] some = tt
asked_there cs (a ∷ as') some = (index_within cs a.column some, asked_there cs as' some)

-- the parts that were made of a query ask what it asks
pub asked_alike : (cs : List schema_column.Column) (q : Query) (ss : List ColumnSet) (items : List Item) (order : List Dir)
    → ((r : List Value) → fits cs r ≡ true → in_sets ss r ≡ list_all (λ o. meets_on cs o r) q.conds) → items ≡ (asked cs q).items → order ≡ (asked cs q).order
    → Alike cs (asked cs q) (record { keeps = in_sets ss; order = order; items = items })
asked_alike cs q ss items order chosen items_are order_is = alike_by cs (asked cs q) (record { keeps = in_sets ss; order = order; items = items }) (record {
  keeps = λ r f. sym (chosen r f);
  order = λ r t k l e. ap (λ o. order_cmp o r t) (sym order_is);
  labels = ap labels (sym items_are);
  cells = λ r k. ap (λ is. cells is r) (sym items_are);
})

-- what was made of the columns and parts as they were read was made of them
pub items_of : (cs ds : List schema_column.Column) (asks bs : List Asked) (items : List Item) → ds ≡ cs → bs ≡ asks → items ≡ map (λ (a : Asked). record { label = a.label; what = Column (index_of ds a.column) }) bs
    → items ≡ map (λ (a : Asked). record { label = a.label; what = Column (index_of cs a.column) }) asks
items_of cs ds asks bs items e f h =
    h ∙ ap (λ xs. map (λ (a : Asked). record { label = a.label; what = Column (index_of xs a.column) }) bs) e ∙ ap (map (λ (a : Asked). record { label = a.label; what = Column (index_of cs a.column) })) f

pub order_of : (cs ds : List schema_column.Column) (asks bs : List Along) (order : List Dir) → ds ≡ cs → bs ≡ asks → order ≡ map (λ (a : Along). record { column = index_of ds a.column; down = a.down }) bs
    → order ≡ map (λ (a : Along). record { column = index_of cs a.column; down = a.down }) asks
order_of cs ds asks bs order e f h =
    h ∙ ap (λ xs. map (λ (a : Along). record { column = index_of xs a.column; down = a.down }) bs) e ∙ ap (map (λ (a : Along). record { column = index_of cs a.column; down = a.down })) f

pub rows_of : (cs ds : List schema_column.Column) (conds os : List OnColumn) (ss : List ColumnSet) → ds ≡ cs → os ≡ conds
    → ((r : List Value) → fits ds r ≡ true → in_sets ss r ≡ list_all (λ o. meets_on ds o r) os) → (r : List Value) → fits cs r ≡ true → in_sets ss r ≡ list_all (λ o. meets_on cs o r) conds
rows_of cs ds conds os ss e f h =
    subst (λ ps. (r : List Value) → fits cs r ≡ true → in_sets ss r ≡ list_all (λ o. meets_on cs o r) ps) f
    (subst (λ xs. (r : List Value) → fits xs r ≡ true → in_sets ss r ≡ list_all (λ o. meets_on xs o r) os) e h)
