-- The parts of a settled form after a step can be settled, and are what the definition says.
use Rattle.std.proofs.Common.{◌≡◌, ◌≢◌, ℕ, zero, suc, ◌<◌, ◌≤◌, Bool, true, false, ◌&&◌, ◌||◌, inl, inr, List, [], ◌∷◌, ◌++◌, Option, Some, None, length, map, get_or, slice_get, slice_set, refl, sym, ap, ◌∙◌, subst, arith, length-append}
use Rattle.std.specs.Prelude.{option_map, unwrap_or, is_none, IsSomeAnd, ◌==◌, if◌then◌else◌}
use Rattle.std.proofs.lemmas.List.Folds.{list_any-append}
use Rattle.cite_schema.specs.declared.value.Kind.{Kind}
use Rattle.cite_schema.specs.declared.value.Kind.TheVariants as kinds
use Rattle.cite_schema.specs.declared.value.Value.{Value}
use Rattle.cite_schema.specs.declared.schema.Column as schema_column
use Rattle.cite_schema.specs.declared.item.Item.{Item}
use Rattle.cite_schema.specs.declared.item.Dir.{Dir}
use Rattle.cite_schema.specs.declared.step.Step.{Step}
use Rattle.cite_schema.specs.declared.step.Step.TheVariants.{Rename, Add, DropColumn, Scale, Recode, RetypeToText}
use Rattle.cite_schema.specs.Values.{is_value_of, kind_of}
use Rattle.cite_schema.specs.Tables.{fits}
use Rattle.cite_schema.specs.Answers.{Plan, Alike}
use Rattle.cite_schema.proofs.Rising.{and_first, and_second, and_true}
use Rattle.subset_query.specs.declared.form.ColumnSet.{ColumnSet}
use Rattle.subset_query.specs.declared.form.ColumnSet.TheVariants.{Ints, Texts}
use Rattle.subset_query.specs.declared.form.Normal.{Normal}
use Rattle.subset_query.specs.Forms.{formed, in_set, in_sets, is_set_for, are_sets_for, IsSetOf, AreSetsOf, AreShownIn, AreColumnsIn, IsForm, IsSettled, printed_columns, order_columns}
use Rattle.subset_query.specs.Settling.{own_kind}
use Rattle.subset_query.proofs.Chosen.{own_is, found_within}
use Rattle.cite_schema.specs.Queries.{column_of, index_of}
use Rattle.subset_query.proofs.Alikes.{alike_by, alike_on}
use Rattle.migration.specs.declared.parts.Parts.{Parts}
use Rattle.migration.specs.Places.{changed, without}
use Rattle.migration.specs.Columns.{place_of, column_after, columns_after, is_int}
use Rattle.migration.specs.Sets.{is_full, set_after}
use Rattle.migration.specs.Forms.{members, members_after, all_within, is_among, item_without, dir_without, parts, parts_at}
use Rattle.migration.specs.Carrying.{IsSetAs, kind_after, Changes, IsSetAfter, AreSetsAfter, IsFullFor, FitsStep, AreChanged, ArePartsAfter, IsStage, IsOutcome}
use Rattle.migration.proofs.Faultless.{IsFaultless, faultless, not_false, passes_kind}
use Rattle.migration.proofs.HarmlessSteps.{neither, rising_factor, renamed_members}
use Rattle.migration.proofs.SchemaColumns.{length_changed}
use Rattle.migration.proofs.PartsForm.{shown_in, columns_in, shown_among, columns_among, shown_left, columns_left, some_mapped}

-- sets for the columns that hold, of each row that fits them, what the tests pass
record AreAs (cs : List schema_column.Column) (tests : List (Value → Bool)) (ss : List ColumnSet) : Type 0 where
  kinded : are_sets_for cs ss ≡ true
  same : (r : List Value) → fits cs r ≡ true → all_within tests r ≡ in_sets ss r

none_as : AreAs [] [] []
none_as = record { kinded = refl; same = by }
  where
    by : (r : List Value) → fits [] r ≡ true → all_within [] r ≡ in_sets [] r
    by [] f = refl
    by (v ∷ vs) f = refl

more_as : (c : schema_column.Column) (cs : List schema_column.Column) (t : Value → Bool) (ts : List (Value → Bool)) (s : ColumnSet) (ss : List ColumnSet) → IsSetAs c.kind t s → AreAs cs ts ss → AreAs (c ∷ cs) (t ∷ ts) (s ∷ ss)
more_as c cs t ts s ss h k = record { kinded = and_true _ _ h.0 k.kinded; same = by }
  where
    by : (r : List Value) → fits (c ∷ cs) r ≡ true → all_within (t ∷ ts) r ≡ in_sets (s ∷ ss) r
    by [] f = absurd (cc)
    by (v ∷ vs) f = ap (λ b. b && all_within ts vs) (h.1 v (and_first _ _ f)) ∙ ap (λ b. in_set s v && b) (k.same vs (and_second _ _ f))

-- a set of the kind is for the kind
of_kind : (k : Kind) (s : ColumnSet) → IsSetOf k s → is_set_for k s ≡ true
of_kind kinds.Int (Ints spans) h = refl
of_kind kinds.Text (Texts spans) h = refl
of_kind kinds.Int (Texts spans) h = absurd h
of_kind kinds.Text (Ints spans) h = absurd h

kind_is : (k : Kind) (s : ColumnSet) → IsSetOf k s → own_kind s ≡ k
kind_is k s h = own_is k s (of_kind k s h)

own_as : (k : Kind) (s : ColumnSet) → IsSetOf k s → IsSetAs k (in_set s) s
own_as k s h = (of_kind k s h, λ v f. refl)

own_all : (cs : List schema_column.Column) (ss : List ColumnSet) → AreSetsOf cs ss → AreAs cs (members ss) ss
own_all [] [] h = none_as
own_all [] (s ∷ ss) h = absurd h
own_all (c ∷ cs) [] h = absurd h
own_all (c ∷ cs) (s ∷ ss) h = more_as c cs (in_set s) (members ss) s ss (own_as c.kind s h.0) (own_all cs ss h.1)

kind_after_is : (step : Step) (c : schema_column.Column) → kind_after step c.kind ≡ (column_after step c).kind
kind_after_is (Rename n to) c = refl
kind_after_is (Add n v) c = refl
kind_after_is (DropColumn n) c = refl
kind_after_is (Scale n by plus) c = refl
kind_after_is (Recode n old new) c = refl
kind_after_is (RetypeToText n) c = refl

-- the tests after a step, where there are some, and the sets that are as they are
record HasTests (step : Step) (i : ℕ) (cs : List schema_column.Column) (ss ts : List ColumnSet) : Type 0 where
  tests : List (Value → Bool)
  are : members_after step i ss ≡ Some tests
  alike : AreAs cs tests ts

changed_sets : (step : Step) (i : ℕ) (cs : List schema_column.Column) (ss ts : List ColumnSet) → AreSetsOf cs ss → AreSetsAfter step i ss ts → HasTests step i (changed (column_after step) i cs) ss ts
changed_sets step i [] [] ts h a = record { tests = []; are = refl; alike = subst (AreAs [] []) (sym a) none_as }
changed_sets step i [] (s ∷ ss) ts h a = absurd h
changed_sets step i (c ∷ cs) [] ts h a = absurd h
changed_sets step i (c ∷ cs) (s ∷ ss) [] h a = absurd a
changed_sets step zero (c ∷ cs) (s ∷ ss) (t ∷ ts) h a = by (set_after step s) refl a.0
  where
    by : (o : Option (Value → Bool)) → set_after step s ≡ o → IsSomeAnd o (λ test. IsSetAs (kind_after step (own_kind s)) test t) → HasTests step zero (changed (column_after step) zero (c ∷ cs)) (s ∷ ss) (t ∷ ts)
    by None e k = absurd k
    by (Some test) e k = record {
      tests = test ∷ members ss;
      are = ap (option_map (λ u. u ∷ members ss)) e;
      alike = subst (AreAs (column_after step c ∷ cs) (test ∷ members ss)) (ap (λ us. t ∷ us) (sym a.1))
          (more_as (column_after step c) cs test (members ss) t ss (subst (λ kind. IsSetAs kind test t) (ap (kind_after step) (kind_is c.kind s h.0) ∙ kind_after_is step c) k) (own_all cs ss h.1));
    }
changed_sets step (suc i) (c ∷ cs) (s ∷ ss) (t ∷ ts) h a =
    let more = changed_sets step i cs ss ts h.1 a.1 in
    record {
      tests = in_set s ∷ more.tests;
      are = ap (option_map (λ us. in_set s ∷ us)) more.are;
      alike = subst (λ u. AreAs (c ∷ changed (column_after step) i cs) (in_set s ∷ more.tests) (u ∷ ts)) (sym a.0) (more_as c (changed (column_after step) i cs) (in_set s) more.tests s ts (own_as c.kind s h.0) more.alike);
    }

added_sets : (cs : List schema_column.Column) (ss : List ColumnSet) (c : schema_column.Column) (set : ColumnSet) → AreSetsOf cs ss → IsFullFor c.kind set → AreAs (cs ++ c ∷ []) (members ss ++ (λ w. true) ∷ []) (ss ++ set ∷ [])
added_sets [] [] c set h f = more_as c [] (λ w. true) [] set [] f none_as
added_sets [] (s ∷ ss) c set h f = absurd h
added_sets (d ∷ ds) [] c set h f = absurd h
added_sets (d ∷ ds) (s ∷ ss) c set h f = more_as d (ds ++ c ∷ []) (in_set s) (members ss ++ (λ w. true) ∷ []) s (ss ++ set ∷ []) (own_as d.kind s h.0) (added_sets ds ss c set h.1 f)

-- the tests of a step that drops a column, and the sets that are left
record HasLeft (step : Step) (i : ℕ) (cs : List schema_column.Column) (ss : List ColumnSet) : Type 0 where
  tests : List (Value → Bool)
  are : members_after step i ss ≡ Some tests
  alike : AreAs (without i cs) (without i tests) (without i ss)

dropped_sets : (n : List ℕ) (i : ℕ) (cs : List schema_column.Column) (ss : List ColumnSet) → AreSetsOf cs ss → option_map is_full (slice_get ss i) ≡ Some true → HasLeft (DropColumn n) i cs ss
dropped_sets n i [] [] h f = absurd (cc)
dropped_sets n i [] (s ∷ ss) h f = absurd h
dropped_sets n i (c ∷ cs) [] h f = absurd h
dropped_sets n zero (c ∷ cs) (s ∷ ss) h f = record { tests = (λ v. true) ∷ members ss; are = ap (option_map (λ t. t ∷ members ss)) (by s (is_true (is_full s) f)); alike = own_all cs ss h.1 }
  where
    is_true : (b : Bool) → Some b ≡ Some true → b ≡ true
    is_true b e = cc

    chosen : (b : Bool) → b ≡ true → ◌≡◌ {A = Option (Value → Bool)} (if b then Some (λ v. true) else None) (Some (λ v. true))
    chosen true e = refl
    chosen false e = absurd (cc)

    by : (u : ColumnSet) → is_full u ≡ true → set_after (DropColumn n) u ≡ Some (λ v. true)
    by (Ints spans) e = chosen (is_full (Ints spans)) e
    by (Texts spans) e = chosen (is_full (Texts spans)) e
dropped_sets n (suc i) (c ∷ cs) (s ∷ ss) h f =
    let more = dropped_sets n i cs ss h.1 f in
    record {
      tests = in_set s ∷ more.tests;
      are = ap (option_map (λ us. in_set s ∷ us)) more.are;
      alike = more_as c (without i cs) (in_set s) (without i more.tests) s (without i ss) (own_as c.kind s h.0) more.alike;
    }

-- parts that can be settled for the columns, and are those of a plan
pub record CanSettle (cs : List schema_column.Column) (o : Option Plan) (q : Parts) : Type 0 where
  pub tests : List (Value → Bool)
  pub plan : o ≡ Some (parts tests q.items q.order)
  pub kinded : are_sets_for cs q.sets ≡ true
  pub same : (r : List Value) → fits cs r ≡ true → all_within tests r ≡ in_sets q.sets r
  pub some_item : q.items ≢ []
  pub shown : AreShownIn cs q.items
  pub there : AreColumnsIn cs q.order

-- parts whose items and order stay
stay : (cs ds : List schema_column.Column) (p q : Parts) (tests : List (Value → Bool)) (o : Option Plan) → IsForm cs p.sets p.items p.order → length cs ≤ length ds → q.items ≡ p.items → q.order ≡ p.order
    → o ≡ Some (parts tests p.items p.order) → AreAs ds tests q.sets → CanSettle ds o q
stay cs ds p q tests o s le is os e a = record {
  tests = tests;
  plan = e ∙ ap (λ items. Some (parts tests items p.order)) (sym is) ∙ ap (λ order. Some (parts tests q.items order)) (sym os);
  kinded = a.kinded;
  same = a.same;
  some_item = subst (λ items. items ≢ []) (sym is) s.some_item;
  shown = subst (AreShownIn ds) (sym is) (shown_among cs ds p.items le (shown_in cs p.sets p.items s.items_many));
  there = subst (AreColumnsIn ds) (sym os) (columns_among cs ds p.order le (columns_in cs p.sets p.items p.order s));
}

at_least : (n m : ℕ) → m ≡ n → n ≤ m
at_least n m e = omega (arith, e)

changed_settles : (columns : List schema_column.Column) (step : Step) (i : ℕ) (p q : Parts) (o : Option Plan) → IsForm columns p.sets p.items p.order → AreChanged step i p (Some q)
    → o ≡ option_map (λ tests. parts tests p.items p.order) (members_after step i p.sets) → CanSettle (changed (column_after step) i columns) o q
changed_settles columns step i p q o s a e =
    let has = changed_sets step i columns p.sets q.sets s.sets_fit a.0 in
    stay columns (changed (column_after step) i columns) p q has.tests o s (at_least _ _ (length_changed (column_after step) i columns)) a.1 a.2 (e ∙ ap (option_map (λ tests. parts tests p.items p.order)) has.are) has.alike

pub chosen_false : {A : Type 0} (b : Bool) (x y : A) → b ≡ false → (if b then x else y) ≡ y
chosen_false true x y e = absurd (cc)
chosen_false false x y e = refl

pub chosen_true : {A : Type 0} (b : Bool) (x y : A) → b ≡ true → (if b then x else y) ≡ x
chosen_true true x y e = refl
chosen_true false x y e = absurd (cc)

among_both : (i : ℕ) (items : List Item) (order : List Dir) → is_among i (printed_columns items ++ order_columns order) ≡ (is_among i (printed_columns items) || is_among i (order_columns order))
among_both i items order = list_any-append (λ j. j == i) (printed_columns items) (order_columns order)

settles_at : (columns : List schema_column.Column) (step : Step) (p q : Parts) → IsForm columns p.sets p.items p.order → ArePartsAfter step (place_of columns step) p (Some q)
    → CanSettle (columns_after columns step) (parts_at step (place_of columns step) p.sets p.items p.order) q
settles_at columns (Rename c to) p q s a =
    let same : p ≡ q = cc in
    let i = place_of columns (Rename c to) in
    let own = own_all columns p.sets s.sets_fit in
    subst (CanSettle (changed (column_after (Rename c to)) i columns) (parts_at (Rename c to) i p.sets p.items p.order)) same
    (stay columns (changed (column_after (Rename c to)) i columns) p p (members p.sets) (parts_at (Rename c to) i p.sets p.items p.order) s (at_least _ _ (length_changed (column_after (Rename c to)) i columns)) refl refl
    (ap (option_map (λ tests. parts tests p.items p.order)) (renamed_members c to i p.sets)) (renamed_as columns p.sets i s.sets_fit))
  where
    renamed_as : (cs : List schema_column.Column) (ss : List ColumnSet) (i : ℕ) → AreSetsOf cs ss → AreAs (changed (column_after (Rename c to)) i cs) (members ss) ss
    renamed_as [] [] i h = none_as
    renamed_as [] (t ∷ ts) i h = absurd h
    renamed_as (d ∷ ds) [] i h = absurd h
    renamed_as (d ∷ ds) (t ∷ ts) zero h = more_as (column_after (Rename c to) d) ds (in_set t) (members ts) t ts (own_as d.kind t h.0) (own_all ds ts h.1)
    renamed_as (d ∷ ds) (t ∷ ts) (suc i) h = more_as d (changed (column_after (Rename c to)) i ds) (in_set t) (members ts) t ts (own_as d.kind t h.0) (renamed_as ds ts i h.1)
settles_at columns (Add c v) p q s ((set, full, are), is, os) =
    let new : schema_column.Column = record { name = c; kind = kind_of v } in
    stay columns (columns ++ new ∷ []) p q (members p.sets ++ (λ w. true) ∷ []) (parts_at (Add c v) (place_of columns (Add c v)) p.sets p.items p.order) s (longer columns new) is os refl
    (subst (AreAs (columns ++ new ∷ []) (members p.sets ++ (λ w. true) ∷ [])) (sym are) (added_sets columns p.sets new set s.sets_fit full))
  where
    longer : (cs : List schema_column.Column) (d : schema_column.Column) → length cs ≤ length (cs ++ d ∷ [])
    longer cs d = let more = length-append cs (d ∷ []) in omega arith
settles_at columns (DropColumn c) p q s (free, full, is) =
    let i = place_of columns (DropColumn c) in
    let has = dropped_sets c i columns p.sets s.sets_fit full in
    let (shown_free, order_free) = neither (is_among i (printed_columns p.items)) (is_among i (order_columns p.order)) free in
    subst (CanSettle (without i columns) (parts_at (DropColumn c) i p.sets p.items p.order)) (sym is) (record {
      tests = without i has.tests;
      plan = chosen_false _ _ _ (among_both i p.items p.order ∙ free) ∙ ap (option_map (λ tests. parts (without i tests) (map (item_without i) p.items) (map (dir_without i) p.order))) has.are;
      kinded = has.alike.kinded;
      same = has.alike.same;
      some_item = some_mapped (item_without i) p.items s.some_item;
      shown = shown_left i columns p.items (shown_in columns p.sets p.items s.items_many) shown_free;
      there = columns_left i columns p.order (columns_in columns p.sets p.items p.order s) order_free;
    })
settles_at columns (Scale c by plus) p q s a = changed_settles columns (Scale c by plus) (place_of columns (Scale c by plus)) p q _ s a refl
settles_at columns (Recode c old new) p q s a = changed_settles columns (Recode c old new) (place_of columns (Recode c old new)) p q _ s a refl
settles_at columns (RetypeToText c) p q s (free, a) =
    changed_settles columns (RetypeToText c) (place_of columns (RetypeToText c)) p q _ s a (chosen_false _ _ _ free)

-- the parts after a step can be settled for the columns after it
pub settles : (step : Step) (i : ℕ) (before after : List schema_column.Column) (p q : Parts) → IsStage step i before after → IsForm before p.sets p.items p.order → ArePartsAfter step i p (Some q)
    → CanSettle after (parts_at step i p.sets p.items p.order) q
settles step i before after p q stage s a =
    subst (λ j. CanSettle after (parts_at step j p.sets p.items p.order) q) (sym stage.place)
    (subst (λ cs. CanSettle cs (parts_at step (place_of before step) p.sets p.items p.order) q) (sym stage.carried)
    (settles_at before step p q s (subst (λ j. ArePartsAfter step j p (Some q)) stage.place a)))

-- and what they are settled to is what the step makes of the form
pub settled_outcome : (after : List schema_column.Column) (o : Option Plan) (q : Parts) (form : Normal) → CanSettle after o q → IsSettled after form
    → Alike after (record { keeps = in_sets q.sets; order = q.order; items = q.items }) (formed form) → IsOutcome after o (Some form)
settled_outcome after o q form can settled alike =
    subst (λ w. IsSomeAnd w (λ p. IsSettled after form × Alike after p (formed form))) (sym can.plan) (
      settled,
      alike_on after (parts can.tests q.items q.order) (record { keeps = in_sets q.sets; order = q.order; items = q.items }) (formed form)
          (alike_by after (parts can.tests q.items q.order) (record { keeps = in_sets q.sets; order = q.order; items = q.items }) (record { keeps = can.same; order = λ r t k l e. refl; labels = refl; cells = λ r k. refl }))
          alike,
    )

none_changed : (step : Step) (i : ℕ) (ss : List ColumnSet) → IsSomeAnd (slice_get ss i) (λ s. set_after step s ≡ None) → members_after step i ss ≡ None
none_changed step i [] h = absurd h
none_changed step zero (s ∷ ss) h = ap (option_map (λ t. t ∷ members ss)) h
none_changed step (suc i) (s ∷ ss) h = ap (option_map (λ ts. in_set s ∷ ts)) (none_changed step i ss h)

none_full : (n : List ℕ) (i : ℕ) (ss : List ColumnSet) → option_map is_full (slice_get ss i) ≡ Some false → members_after (DropColumn n) i ss ≡ None
none_full n i [] f = absurd (cc)
none_full n zero (s ∷ ss) f = ap (option_map (λ t. t ∷ members ss)) (by s (is_false (is_full s) f))
  where
    is_false : (b : Bool) → Some b ≡ Some false → b ≡ false
    is_false b e = cc

    by : (u : ColumnSet) → is_full u ≡ false → set_after (DropColumn n) u ≡ None
    by (Ints spans) e = chosen_false (is_full (Ints spans)) _ _ e
    by (Texts spans) e = chosen_false (is_full (Texts spans)) _ _ e
none_full n (suc i) (s ∷ ss) f = ap (option_map (λ ts. in_set s ∷ ts)) (none_full n i ss f)

-- where nothing was made of the parts the definition makes nothing of them
pub none_outcome : (step : Step) (i : ℕ) (after : List schema_column.Column) (p : Parts) → ArePartsAfter step i p None → IsOutcome after (parts_at step i p.sets p.items p.order) None
none_outcome (Rename c to) i after p a = absurd (cc)
none_outcome (Add c v) i after p a = absurd a
none_outcome (DropColumn c) i after p (inl used) = chosen_true _ _ _ (among_both i p.items p.order ∙ used)
none_outcome (DropColumn c) i after p (inr partial) = by (is_among i (printed_columns p.items ++ order_columns p.order))
  where
    left : option_map (λ tests. parts (without i tests) (map (item_without i) p.items) (map (dir_without i) p.order)) (members_after (DropColumn c) i p.sets) ≡ None
    left = ap (option_map (λ tests. parts (without i tests) (map (item_without i) p.items) (map (dir_without i) p.order))) (none_full c i p.sets partial)

    by : (b : Bool) → (if b then None else option_map (λ tests. parts (without i tests) (map (item_without i) p.items) (map (dir_without i) p.order)) (members_after (DropColumn c) i p.sets)) ≡ None
    by true = refl
    by false = left
none_outcome (Scale c by plus) i after p a = ap (option_map (λ tests. parts tests p.items p.order)) (none_changed (Scale c by plus) i p.sets a)
none_outcome (Recode c old new) i after p a = ap (option_map (λ tests. parts tests p.items p.order)) (none_changed (Recode c old new) i p.sets a)
none_outcome (RetypeToText c) i after p (inl ordered) = chosen_true _ _ _ ordered
none_outcome (RetypeToText c) i after p (inr a) = by (is_among i (order_columns p.order))
  where
    left : option_map (λ tests. parts tests p.items p.order) (members_after (RetypeToText c) i p.sets) ≡ None
    left = ap (option_map (λ tests. parts tests p.items p.order)) (none_changed (RetypeToText c) i p.sets a)

    by : (b : Bool) → (if b then None else option_map (λ tests. parts tests p.items p.order) (members_after (RetypeToText c) i p.sets)) ≡ None
    by true = refl
    by false = left

-- the column and the set at a place
record At (cs : List schema_column.Column) (ss : List ColumnSet) (i : ℕ) : Type 0 where
  column : schema_column.Column
  set : ColumnSet
  column_at : slice_get cs i ≡ Some column
  set_at : slice_get ss i ≡ Some set
  own : IsSetOf column.kind set
  within : i < length ss

at_place : (cs : List schema_column.Column) (ss : List ColumnSet) (i : ℕ) → AreSetsOf cs ss → i < length cs → At cs ss i
at_place [] ss i h lt = absurd (omega arith)
at_place (c ∷ cs) [] i h lt = absurd h
at_place (c ∷ cs) (s ∷ ss) zero h lt = record { column = c; set = s; column_at = refl; set_at = refl; own = h.0; within = omega arith }
at_place (c ∷ cs) (s ∷ ss) (suc i) h lt =
    let more = at_place cs ss i h.1 (omega arith) in
    let below = more.within in
    record { column = more.column; set = more.set; column_at = more.column_at; set_at = more.set_at; own = more.own; within = omega arith }

-- a column that is known is there
known_within : (columns : List schema_column.Column) (name : List ℕ) → is_none (column_of columns name) ≡ false → index_of columns name < length columns
known_within columns name h = by (column_of columns name) refl h
  where
    by : (o : Option ℕ) → column_of columns name ≡ o → is_none o ≡ false → unwrap_or o 0 < length columns
    by None e k = absurd (cc)
    by (Some i) e k = found_within columns name i e

int_is : (k : Kind) → is_int k ≡ true → k ≡ kinds.Int
int_is kinds.Int h = refl
int_is kinds.Text h = absurd (cc)

fits_at : (step : Step) (columns : List schema_column.Column) (ss : List ColumnSet) → IsFaultless columns step → AreSetsOf columns ss → FitsStep step (place_of columns step) ss
fits_at (Rename c to) columns ss f h = tt
fits_at (Add c v) columns ss f h = tt
fits_at (DropColumn c) columns ss f h = (at_place columns ss (place_of columns (DropColumn c)) h (known_within columns c f.known)).within
fits_at (Scale c by plus) columns ss f h =
    let at = at_place columns ss (place_of columns (Scale c by plus)) h (known_within columns c f.known) in
    subst (λ o. IsSomeAnd o (Changes (Scale c by plus))) (sym at.set_at)
    (kind_is at.column.kind at.set at.own ∙ int_is at.column.kind (passes_kind columns (Scale c by plus) is_int at.column (not_false _ f.kind) at.column_at), rising_factor by f.good)
fits_at (Recode c old new) columns ss f h =
    let at = at_place columns ss (place_of columns (Recode c old new)) h (known_within columns c f.known) in
    subst (λ o. IsSomeAnd o (Changes (Recode c old new))) (sym at.set_at)
    (subst (λ k. (is_value_of k old && is_value_of k new) ≡ true) (sym (kind_is at.column.kind at.set at.own))
    (passes_kind columns (Recode c old new) (λ kind. is_value_of kind old && is_value_of kind new) at.column (not_false _ f.kind) at.column_at))
fits_at (RetypeToText c) columns ss f h =
    let at = at_place columns ss (place_of columns (RetypeToText c)) h (known_within columns c f.known) in
    subst (λ o. IsSomeAnd o (Changes (RetypeToText c))) (sym at.set_at)
    (kind_is at.column.kind at.set at.own ∙ int_is at.column.kind (passes_kind columns (RetypeToText c) is_int at.column (not_false _ f.kind) at.column_at))

-- the step may be done to the sets of a settled form
pub stage_fits : (step : Step) (i : ℕ) (before after : List schema_column.Column) (ss : List ColumnSet) → IsStage step i before after → AreSetsOf before ss → FitsStep step i ss
stage_fits step i before after ss stage h = subst (λ j. FitsStep step j ss) (sym stage.place) (fits_at step before ss (faultless before stage.number step stage.faultless) h)

pub can_settle : (step : Step) (i : ℕ) (after : List schema_column.Column) (p q : Parts) (o : Option Parts) → ((before : List schema_column.Column) × IsStage step i before after × IsForm before p.sets p.items p.order) → ArePartsAfter step i p o → o ≡ Some q
    → CanSettle after (parts_at step i p.sets p.items p.order) q
can_settle step i after p q o (before, stage, form) a is = settles step i before after p q stage form (subst (ArePartsAfter step i p) is a)

-- a place where there is something
pub some_within : {A : Type 0} (P : A → Type 0) (i : ℕ) (xs : List A) → IsSomeAnd (slice_get xs i) P → i < length xs
some_within P i [] h = absurd h
some_within P zero (x ∷ xs) h = omega arith
some_within P (suc i) (x ∷ xs) h = let more = some_within P i xs h in omega arith

-- the sets with the one at a place replaced by what the step makes of it
pub set_after_set : (step : Step) (i : ℕ) (ss : List ColumnSet) (s t : ColumnSet) → i < length ss → s ≡ get_or ss i s → IsSetAfter step s (Some t) → AreSetsAfter step i ss (slice_set ss i t)
set_after_set step i [] s t lt is a = absurd (omega arith)
set_after_set step zero (u ∷ us) s t lt is a = (subst (λ w. IsSetAfter step w (Some t)) is a, refl)
set_after_set step (suc i) (u ∷ us) s t lt is a = (refl, set_after_set step i us s t (omega arith) is a)
