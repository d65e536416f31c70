-- The parts of a settled form after a step have a settled form.
use Rattle.std.proofs.Common.{◌≡◌, ◌≢◌, ℕ, zero, suc, ℤ, pos, ◌+◌, ◌-◌, ◌<◌, ◌≤◌, Bool, true, false, ◌&&◌, ◌||◌, ◌⊎◌, inl, inr, List, [], ◌∷◌, ◌++◌, Option, Some, None, IsTrue, length, map, slice_get, refl, sym, ap, ◌∙◌, subst, arith, length-append, append_assoc}
use Rattle.std.specs.Prelude.{int_lt, nat_lt, option_map, ◌==◌, if◌then◌else◌, IsSomeAnd}
use Rattle.std.specs.List.{AllByRecursion, flat_map}
use Rattle.std.specs.Option.{option_to_list}
use Rattle.std.specs.Ordering.{int_cmp, is_eq, is_ge}
use Rattle.std.proofs.lemmas.Bool.Decides.{nat_tests}
use Rattle.std.proofs.lemmas.Bool.{cases_lt}
use Rattle.std.proofs.lemmas.List.Folds.{list_any-append}
use Rattle.cite_schema.specs.declared.value.Kind.{Kind}
use Rattle.cite_schema.specs.declared.value.Kind.TheVariants as kinds
use Rattle.cite_schema.specs.declared.value.Value.{Value}
use Rattle.cite_schema.specs.declared.value.Value.TheVariants.{Int, Text}
use Rattle.cite_schema.specs.declared.schema.Column as schema_column
use Rattle.cite_schema.specs.declared.item.Item.{Item}
use Rattle.cite_schema.specs.declared.item.Dir.{Dir}
use Rattle.cite_schema.specs.declared.item.Shown.{Shown}
use Rattle.cite_schema.specs.declared.item.Shown.TheVariants.{Column, Constant}
use Rattle.cite_schema.specs.declared.step.Step.{Step}
use Rattle.cite_schema.specs.declared.step.Step.TheVariants.{Rename, Add, DropColumn, Scale, Recode, RetypeToText}
use Rattle.cite_schema.specs.Values.{value_cmp, text_cmp, is_number, is_text, is_value_of, kind_of, printed}
use Rattle.cite_schema.specs.Tables.{fits}
use Rattle.cite_schema.specs.Headings.{is_heading}
use Rattle.cite_schema.specs.Answers.{Plan, Alike}
use Rattle.cite_schema.proofs.Rising.{and_first, and_second, and_true}
use Rattle.interval_normal.specs.declared.set.Span.{Span}
use Rattle.interval_normal.specs.Points.{least_number, least_number_valid, number_least, number_after, number_next, text_least, text_after, text_next}
use Rattle.interval_normal.specs.Spans.{has, IsCanonical}
use Rattle.subset_query.specs.declared.form.ColumnSet.{ColumnSet}
use Rattle.subset_query.specs.declared.form.ColumnSet.TheVariants.{Ints, Texts}
use Rattle.subset_query.specs.declared.form.Normal.{Normal}
use Rattle.subset_query.specs.declared.form.Normal.TheVariants as forms
use Rattle.subset_query.specs.Forms.{formed, in_set, in_sets, is_set_for, are_sets_for, IsSetOf, AreSetsOf, IsShownOf, IsShownIn, AreShownIn, AreColumnsIn, IsMany, IsForm, IsSettled, columns_of, printed_columns, order_columns}
use Rattle.subset_query.specs.Settling.{IsCanonicalSet}
use Rattle.subset_query.proofs.Sets.{numbers, texts}
use Rattle.subset_query.proofs.Alikes.{alike_self, alike_on, alike_by}
use Rattle.migration.specs.Places.{changed, without}
use Rattle.migration.specs.Columns.{place_of, column_after, columns_after, step_fault, is_int}
use Rattle.migration.specs.Sets.{is_in_image, span_image, set_after, only_number, is_one, retyped}
use Rattle.subset_query.specs.Printed.{is_whole}
use Rattle.migration.specs.Forms.{members, members_after, all_within, is_among, number_without, shown_without, item_without, dir_without, parts, parts_after, CarriesOne}
use Rattle.migration.specs.Harmless.{PartsHaveAForm}
use Rattle.migration.proofs.Faultless.{IsFaultless, faultless, not_false, passes_kind}
use Rattle.migration.proofs.Fitting.{mapped}
use Rattle.migration.proofs.Numerals.{printed_text}
use Rattle.migration.proofs.Scaling.{ge_least}
use Rattle.migration.proofs.ScaledSpans.{scaled_canonical}
use Rattle.migration.proofs.HarmlessSteps.{many_there, rising_factor, neither, other}
use Rattle.migration.proofs.SchemaColumns.{length_changed, carried_headings}
use Rattle.migration.proofs.SetWork.{one_value, one_canonical, one_has, with_value, with_canonical, with_has}
use Rattle.migration.proofs.Existing.{HasForm, has_form}

-- a test of values is a canonical set of the kind
record SetAs (k : Kind) (test : Value → Bool) : Type 0 where
  set : ColumnSet
  kinded : is_set_for k set ≡ true
  canonical : IsCanonicalSet set
  same : (v : Value) → is_value_of k v ≡ true → test v ≡ in_set set v

own_as : (k : Kind) (s : ColumnSet) → IsSetOf k s → SetAs k (in_set s)
own_as kinds.Int (Ints spans) h = record { set = Ints spans; kinded = refl; canonical = h.0; same = λ v f. refl }
own_as kinds.Text (Texts spans) h = record { set = Texts spans; kinded = refl; canonical = h.0; same = λ v f. refl }
own_as kinds.Int (Texts spans) h = absurd h
own_as kinds.Text (Ints spans) h = absurd h

from_empty : (t : List ℕ) → is_ge (text_cmp t []) ≡ true
from_empty [] = refl
from_empty (b ∷ bs) = refl

or_false : (b : Bool) → (b || false) ≡ b
or_false true = refl
or_false false = refl

and_true_is : (b : Bool) → b ≡ true → ((b && true) || false) ≡ true
and_true_is true h = refl
and_true_is false h = h

-- every value of the kind
full_as : (k : Kind) → SetAs k (λ v. true)
full_as kinds.Int = record { set = Ints (record { low = least_number; high = None } ∷ []); kinded = refl; canonical = record { low = refl; high = tt }; same = by }
  where
    by : (v : Value) → is_value_of kinds.Int v ≡ true → true ≡ in_set (Ints (record { low = least_number; high = None } ∷ [])) v
    by (Int z) f = sym (and_true_is (is_ge (int_cmp z least_number)) (ge_least z f))
    by (Text t) f = absurd (cc)
full_as kinds.Text = record { set = Texts (record { low = []; high = None } ∷ []); kinded = refl; canonical = record { low = refl; high = tt }; same = by }
  where
    by : (v : Value) → is_value_of kinds.Text v ≡ true → true ≡ in_set (Texts (record { low = []; high = None } ∷ [])) v
    by (Int z) f = absurd (cc)
    by (Text t) f = sym (and_true_is (is_ge (text_cmp t [])) (from_empty t))

IsNumber : ℤ → Type 0
IsNumber z = IsTrue (is_number z)

abbrev number_with : Bool → ℤ → List (Span ℤ) → List (Span ℤ)
number_with = with_value (λ z. IsTrue (is_number z)) int_cmp numbers least_number least_number_valid number_least number_after number_next

abbrev text_with : Bool → List ℕ → List (Span (List ℕ)) → List (Span (List ℕ))
text_with = with_value (λ t. IsTrue (is_text t)) text_cmp texts [] refl text_least text_after text_next

-- a recoded set
recode_as : (k : Kind) (s : ColumnSet) (old new : Value) → IsSetOf k s → is_value_of k new ≡ true → SetAs k (λ v. if is_eq (value_cmp v new) then in_set s old else in_set s v)
recode_as kinds.Int (Ints spans) old (Int w) h f = record {
  set = Ints (number_with (in_set (Ints spans) old) w spans);
  kinded = refl;
  canonical = with_canonical (λ z. IsTrue (is_number z)) int_cmp numbers least_number least_number_valid number_least number_after number_next (in_set (Ints spans) old) w spans f h.0;
  same = by;
}
  where
    by : (v : Value) → is_value_of kinds.Int v ≡ true → (if is_eq (value_cmp v (Int w)) then in_set (Ints spans) old else in_set (Ints spans) v) ≡ in_set (Ints (number_with (in_set (Ints spans) old) w spans)) v
    by (Int z) g = sym (with_has (λ z. IsTrue (is_number z)) int_cmp numbers least_number least_number_valid number_least number_after number_next (in_set (Ints spans) old) w spans z f h.0 g)
    by (Text t) g = absurd (cc)
recode_as kinds.Text (Texts spans) old (Text u) h f = record {
  set = Texts (text_with (in_set (Texts spans) old) u spans);
  kinded = refl;
  canonical = with_canonical (λ t. IsTrue (is_text t)) text_cmp texts [] refl text_least text_after text_next (in_set (Texts spans) old) u spans f h.0;
  same = by;
}
  where
    by : (v : Value) → is_value_of kinds.Text v ≡ true → (if is_eq (value_cmp v (Text u)) then in_set (Texts spans) old else in_set (Texts spans) v) ≡ in_set (Texts (text_with (in_set (Texts spans) old) u spans)) v
    by (Int z) g = absurd (cc)
    by (Text t) g = sym (with_has (λ t. IsTrue (is_text t)) text_cmp texts [] refl text_least text_after text_next (in_set (Texts spans) old) u spans t f h.0 g)
recode_as kinds.Int (Ints spans) old (Text u) h f = absurd (cc)
recode_as kinds.Text (Texts spans) old (Int w) h f = absurd (cc)
recode_as kinds.Int (Texts spans) old new h f = absurd h
recode_as kinds.Text (Ints spans) old new h f = absurd h

recode_is : (k : Kind) (c : List ℕ) (old new : Value) (s : ColumnSet) (test : Value → Bool) → IsSetOf k s → is_value_of k new ≡ true → set_after (Recode c old new) s ≡ Some test → SetAs k test
recode_is k c old new (Ints spans) test h f e =
    let same : (λ v. if is_eq (value_cmp v new) then in_set (Ints spans) old else in_set (Ints spans) v) ≡ test = of_some e in subst (SetAs k) same (recode_as k (Ints spans) old new h f)
  where
    of_some : {a b : Value → Bool} → Some a ≡ Some b → a ≡ b
    of_some e = cc
recode_is k c old new (Texts spans) test h f e =
    let same : (λ v. if is_eq (value_cmp v new) then in_set (Texts spans) old else in_set (Texts spans) v) ≡ test = of_some e in subst (SetAs k) same (recode_as k (Texts spans) old new h f)
  where
    of_some : {a b : Value → Bool} → Some a ≡ Some b → a ≡ b
    of_some e = cc

-- a scaled set
scale_is : (k : Kind) (c : List ℕ) (by plus : ℤ) (s : ColumnSet) (test : Value → Bool) → int_lt (pos 0) by ≡ true → is_int k ≡ true → IsSetOf k s → set_after (Scale c by plus) s ≡ Some test → SetAs k test
scale_is kinds.Int c by plus (Ints spans) test r i h e =
    let same : is_in_image by plus spans ≡ test = cc in
    subst (SetAs kinds.Int) same (record { set = Ints (flat_map (λ s. option_to_list (span_image by plus s)) spans); kinded = refl; canonical = scaled_canonical by plus spans r h.0; same = inside })
  where
    inside : (v : Value) → is_value_of kinds.Int v ≡ true → is_in_image by plus spans v ≡ in_set (Ints (flat_map (λ s. option_to_list (span_image by plus s)) spans)) v
    inside (Int z) g = refl
    inside (Text t) g = refl
scale_is kinds.Int c by plus (Texts spans) test r i h e = absurd h
scale_is kinds.Text c by plus s test r i h e = absurd (cc)

-- the one number of a set is a number
only_is : (spans : List (Span ℤ)) (z : ℤ) → IsCanonical (λ x. IsTrue (is_number x)) int_cmp spans → only_number spans ≡ Some z → is_number z ≡ true
only_is [] z h e = absurd (cc)
only_is (s ∷ []) z h e = by (is_one s) e
  where
    by : (b : Bool) → (if b then Some s.low else None) ≡ Some z → is_number z ≡ true
    by true e = let same : s.low ≡ z = cc in ap is_number (sym same) ∙ h.low
    by false e = absurd (cc)
only_is (s ∷ t ∷ ts) z h e = absurd (cc)

one_text_as : (t : List ℕ) → is_text t ≡ true → SetAs kinds.Text (λ v. is_eq (value_cmp v (Text t)))
one_text_as t f = record {
  set = Texts (one_value (λ u. IsTrue (is_text u)) text_cmp texts [] refl text_least text_after text_next t);
  kinded = refl;
  canonical = one_canonical (λ u. IsTrue (is_text u)) text_cmp texts [] refl text_least text_after text_next t f;
  same = by;
}
  where
    by : (v : Value) → is_value_of kinds.Text v ≡ true → is_eq (value_cmp v (Text t)) ≡ in_set (Texts (one_value (λ u. IsTrue (is_text u)) text_cmp texts [] refl text_least text_after text_next t)) v
    by (Int z) g = absurd (cc)
    by (Text u) g = sym (one_has (λ u. IsTrue (is_text u)) text_cmp texts [] refl text_least text_after text_next t u f g)

retyped_as : (spans : List (Span ℤ)) (test : Value → Bool) → IsCanonical (λ x. IsTrue (is_number x)) int_cmp spans → retyped spans ≡ Some test → SetAs kinds.Text test
retyped_as spans test h e = by (is_whole int_cmp least_number spans) e
  where
    of_some : {a b : Value → Bool} → Some a ≡ Some b → a ≡ b
    of_some e = cc

    by : (b : Bool) → (if b then Some (λ v. true) else option_map (λ z v. is_eq (value_cmp v (Text (printed (Int z))))) (only_number spans)) ≡ Some test → SetAs kinds.Text test
    by true e = subst (SetAs kinds.Text) (of_some e) (full_as kinds.Text)
    by false e =
        let (z, at, is) = mapped (λ z v. is_eq (value_cmp v (Text (printed (Int z))))) (only_number spans) test e in
        subst (SetAs kinds.Text) is (one_text_as (printed (Int z)) (printed_text z (only_is spans z h at)))

retype_is : (k : Kind) (c : List ℕ) (s : ColumnSet) (test : Value → Bool) → is_int k ≡ true → IsSetOf k s → set_after (RetypeToText c) s ≡ Some test → SetAs kinds.Text test
retype_is kinds.Int c (Ints spans) test i h e = retyped_as spans test h.0 e
retype_is kinds.Int c (Texts spans) test i h e = absurd h
retype_is kinds.Text c s test i h e = absurd (cc)

rename_is : (k : Kind) (c to : List ℕ) (s : ColumnSet) (test : Value → Bool) → IsSetOf k s → set_after (Rename c to) s ≡ Some test → SetAs k test
rename_is k c to (Ints spans) test h e = let same : in_set (Ints spans) ≡ test = cc in subst (SetAs k) same (own_as k (Ints spans) h)
rename_is k c to (Texts spans) test h e = let same : in_set (Texts spans) ≡ test = cc in subst (SetAs k) same (own_as k (Texts spans) h)

-- tests of cells are canonical sets of the columns' kinds
record SetsAs (cs : List schema_column.Column) (tests : List (Value → Bool)) : Type 0 where
  sets : List ColumnSet
  kinded : are_sets_for cs sets ≡ true
  canonical : AllByRecursion IsCanonicalSet sets
  same : (r : List Value) → fits cs r ≡ true → all_within tests r ≡ in_sets sets r

none_as : SetsAs [] []
none_as = record { sets = []; kinded = refl; canonical = tt; same = by }
  where
    by : (r : List Value) → fits [] r ≡ true → all_within [] r ≡ in_sets [] r
    by [] f = refl
    by (v ∷ vs) f = refl

more_as : (c : schema_column.Column) (cs : List schema_column.Column) (t : Value → Bool) (ts : List (Value → Bool)) → SetAs c.kind t → SetsAs cs ts → SetsAs (c ∷ cs) (t ∷ ts)
more_as c cs t ts h k = record { sets = h.set ∷ k.sets; kinded = and_true _ _ h.kinded k.kinded; canonical = (h.canonical, k.canonical); same = by }
  where
    by : (r : List Value) → fits (c ∷ cs) r ≡ true → all_within (t ∷ ts) r ≡ in_sets (h.set ∷ k.sets) r
    by [] f = absurd (cc)
    by (v ∷ vs) f = ap (λ b. b && all_within ts vs) (h.same v (and_first _ _ f)) ∙ ap (λ b. in_set h.set v && b) (k.same vs (and_second _ _ f))

own_all : (cs : List schema_column.Column) (ss : List ColumnSet) → AreSetsOf cs ss → SetsAs cs (members ss)
own_all [] [] h = none_as
own_all [] (s ∷ ss) h = absurd h
own_all (c ∷ cs) [] h = absurd h
own_all (c ∷ cs) (s ∷ ss) h = more_as c cs (in_set s) (members ss) (own_as c.kind s h.0) (own_all cs ss h.1)

sets_as : (step : Step) (i : ℕ) (cs : List schema_column.Column) (ss : List ColumnSet) (tests : List (Value → Bool))
    → ((c : schema_column.Column) (s : ColumnSet) (t : Value → Bool) → slice_get cs i ≡ Some c → IsSetOf c.kind s → set_after step s ≡ Some t → SetAs (column_after step c).kind t)
    → AreSetsOf cs ss → members_after step i ss ≡ Some tests → SetsAs (changed (column_after step) i cs) tests
sets_as step i [] [] tests one h e = let same : [] ≡ tests = cc in subst (SetsAs []) same none_as
sets_as step i [] (s ∷ ss) tests one h e = absurd h
sets_as step i (c ∷ cs) [] tests one h e = absurd h
sets_as step zero (c ∷ cs) (s ∷ ss) tests one h e =
    let (t, at, is) = mapped (λ t. t ∷ members ss) (set_after step s) tests e in
    subst (SetsAs (column_after step c ∷ cs)) is (more_as (column_after step c) cs t (members ss) (one c s t refl h.0 at) (own_all cs ss h.1))
sets_as step (suc i) (c ∷ cs) (s ∷ ss) tests one h e =
    let (ts, at, is) = mapped (λ ts. in_set s ∷ ts) (members_after step i ss) tests e in
    subst (SetsAs (c ∷ changed (column_after step) i cs)) is
    (more_as c (changed (column_after step) i cs) (in_set s) ts (own_as c.kind s h.0) (sets_as step i cs ss ts (λ d u t a. one d u t a) h.1 at))

dropped_as : (step : Step) (i : ℕ) (cs : List schema_column.Column) (ss : List ColumnSet) (tests : List (Value → Bool)) → AreSetsOf cs ss → members_after step i ss ≡ Some tests → SetsAs (without i cs) (without i tests)
dropped_as step i [] [] tests h e = let same : [] ≡ tests = cc in subst (λ ts. SetsAs [] (without i ts)) same none_as
dropped_as step i [] (s ∷ ss) tests h e = absurd h
dropped_as step i (c ∷ cs) [] tests h e = absurd h
dropped_as step zero (c ∷ cs) (s ∷ ss) tests h e =
    let (t, at, is) = mapped (λ t. t ∷ members ss) (set_after step s) tests e in subst (λ ts. SetsAs cs (without 0 ts)) is (own_all cs ss h.1)
dropped_as step (suc i) (c ∷ cs) (s ∷ ss) tests h e =
    let (ts, at, is) = mapped (λ ts. in_set s ∷ ts) (members_after step i ss) tests e in
    subst (λ us. SetsAs (c ∷ without i cs) (without (suc i) us)) is (more_as c (without i cs) (in_set s) (without i ts) (own_as c.kind s h.0) (dropped_as step i cs ss ts h.1 at))

added_as : (cs : List schema_column.Column) (ss : List ColumnSet) (c : schema_column.Column) → AreSetsOf cs ss → SetsAs (cs ++ c ∷ []) (members ss ++ (λ w. true) ∷ [])
added_as [] [] c h = more_as c [] (λ w. true) [] (full_as c.kind) none_as
added_as [] (s ∷ ss) c h = absurd h
added_as (d ∷ ds) [] c h = absurd h
added_as (d ∷ ds) (s ∷ ss) c h = more_as d (ds ++ c ∷ []) (in_set s) (members ss ++ (λ w. true) ∷ []) (own_as d.kind s h.0) (added_as ds ss c h.1)

-- parts whose tests are canonical sets have a settled form
parts_form : (cs : List schema_column.Column) (tests : List (Value → Bool)) (items : List Item) (order : List Dir) → SetsAs cs tests → is_heading cs ≡ true → items ≢ [] → AreShownIn cs items → AreColumnsIn cs order
    → HasForm cs (parts tests items order)
parts_form cs tests items order as' heading some shown there =
    let has = has_form cs as'.sets items order as'.kinded as'.canonical heading some shown there in
    record {
      form = has.form;
      settled = has.settled;
      alike = alike_on cs (parts tests items order) (record { keeps = in_sets as'.sets; order = order; items = items }) (formed has.form)
          (alike_by cs (parts tests items order) (record { keeps = in_sets as'.sets; order = order; items = items }) (record { keeps = as'.same; order = λ r t k l e. refl; labels = refl; cells = λ r k. refl })) has.alike;
      prints = has.prints;
    }

there_lt : {A : Type 0} (xs : List A) (i : ℕ) (x : A) → slice_get xs i ≡ Some x → i < length xs
there_lt [] i x e = absurd (cc)
there_lt (y ∷ ys) zero x e = omega arith
there_lt (y ∷ ys) (suc i) x e = let more = there_lt ys i x e in omega arith

many_lt : (cs : List schema_column.Column) (ss : List ColumnSet) (i : ℕ) → IsMany cs ss i → i < length cs
many_lt cs ss i h = let (d, at) = many_there (slice_get cs i) (slice_get ss i) h in there_lt cs i d at

pub shown_in : (cs : List schema_column.Column) (ss : List ColumnSet) (items : List Item) → AllByRecursion (λ (i : Item). IsShownOf cs ss i.what) items → AreShownIn cs items
shown_in cs ss [] h = tt
shown_in cs ss (i ∷ is) h = (by i.what h.0, shown_in cs ss is h.1)
  where
    by : (what : Shown) → IsShownOf cs ss what → IsShownIn cs what
    by (Column j) k = many_lt cs ss j k
    by (Constant bs) k = tt

pub columns_in : (cs : List schema_column.Column) (ss : List ColumnSet) (items : List Item) (order : List Dir) → IsForm cs ss items order → AreColumnsIn cs order
columns_in cs ss items order s = by [] order refl
  where
    by : (front back : List Dir) → order ≡ front ++ back → AllByRecursion (λ (d : Dir). d.column < length cs) back
    by front [] e = tt
    by front (d ∷ ds) e = (many_lt cs ss d.column (s.order_fits.each front d ds e).many, by (front ++ d ∷ []) ds (e ∙ sym (append_assoc front (d ∷ []) ds)))

-- what is shown stays shown where there are as many columns, or more
pub shown_among : (cs ds : List schema_column.Column) (items : List Item) → length cs ≤ length ds → AreShownIn cs items → AreShownIn ds items
shown_among cs ds [] le h = tt
shown_among cs ds (i ∷ is) le h = (by i.what h.0, shown_among cs ds is le h.1)
  where
    by : (what : Shown) → IsShownIn cs what → IsShownIn ds what
    by (Column j) k = omega arith
    by (Constant bs) k = tt

pub columns_among : (cs ds : List schema_column.Column) (order : List Dir) → length cs ≤ length ds → AreColumnsIn cs order → AreColumnsIn ds order
columns_among cs ds [] le h = tt
columns_among cs ds (d ∷ order) le h = (omega (arith, h.0), columns_among cs ds order le h.1)

-- a number is within the columns that are left
shorter : (i : ℕ) (cs : List schema_column.Column) → i < length cs → length (without i cs) + 1 ≡ length cs
shorter i [] h = absurd (omega arith)
shorter zero (c ∷ cs) h = omega arith
shorter (suc i) (c ∷ cs) h = let more = shorter i cs (omega arith) in omega arith

as_long : (i : ℕ) (cs : List schema_column.Column) → length cs ≤ i → length (without i cs) ≡ length cs
as_long i [] h = refl
as_long zero (c ∷ cs) h = absurd (omega arith)
as_long (suc i) (c ∷ cs) h = ap suc (as_long i cs (omega arith))

number_fits : (i j : ℕ) (cs : List schema_column.Column) → j < length cs → j ≢ i → number_without i j < length (without i cs)
number_fits i j cs lt apart = by (nat_lt i j) refl (cases_lt i (length cs))
  where
    by : (b : Bool) → nat_lt i j ≡ b → (i < length cs) ⊎ (length cs ≤ i) → (if b then j - 1 else j) < length (without i cs)
    by true h (inl k) = let less = shorter i cs k in let up = below i j h in omega arith
      where
        below : (n m : ℕ) → nat_lt n m ≡ true → n < m
        below n m h = grind (arith, nat_tests)
    by false h (inl k) = let less = shorter i cs k in let down = at_most i j h in omega arith
      where
        at_most : (n m : ℕ) → nat_lt n m ≡ false → m ≤ n
        at_most n m h = grind (arith, nat_tests)
    by true h (inr k) = let same = as_long i cs k in let up = below i j h in omega arith
      where
        below : (n m : ℕ) → nat_lt n m ≡ true → n < m
        below n m h = grind (arith, nat_tests)
    by false h (inr k) = let same = as_long i cs k in omega arith

pub shown_left : (i : ℕ) (cs : List schema_column.Column) (items : List Item) → AreShownIn cs items → is_among i (printed_columns items) ≡ false → AreShownIn (without i cs) (map (item_without i) items)
shown_left i cs [] h n = tt
shown_left i cs (it ∷ is) h n =
    let (here, more) = neither (is_among i (columns_of it.what)) (is_among i (printed_columns is)) (sym (list_any-append (λ c. c == i) (columns_of it.what) (printed_columns is)) ∙ n) in
    (by it.what h.0 here, shown_left i cs is h.1 more)
  where
    by : (what : Shown) → IsShownIn cs what → is_among i (columns_of what) ≡ false → IsShownIn (without i cs) (shown_without i what)
    by (Column j) k m = number_fits i j cs k (other j i (neither (j == i) false m).0)
    by (Constant bs) k m = tt

pub columns_left : (i : ℕ) (cs : List schema_column.Column) (order : List Dir) → AreColumnsIn cs order → is_among i (order_columns order) ≡ false → AreColumnsIn (without i cs) (map (dir_without i) order)
columns_left i cs [] h n = tt
columns_left i cs (d ∷ ds) h n =
    let (here, more) = neither (d.column == i) (is_among i (order_columns ds)) n in
    (number_fits i d.column cs h.0 (other d.column i here), columns_left i cs ds h.1 more)

pub some_mapped : {A B : Type 0} (f : A → B) (xs : List A) → xs ≢ [] → map f xs ≢ []
some_mapped f [] h e = h refl
some_mapped f (x ∷ xs) h e = cc

-- where a choice gave something, the test failed
not_chosen : {A : Type 0} (b : Bool) (rest : Option A) (x : A) → (if b then None else rest) ≡ Some x → (b ≡ false) × (rest ≡ Some x)
not_chosen true rest x e = absurd (cc)
not_chosen false rest x e = (refl, e)

module _ (columns : List schema_column.Column) (sets : List ColumnSet) (items : List Item) (order : List Dir) (s : IsForm columns sets items order) where
  -- the parts of a step that changes the column at its place
  changed_form : (step : Step) (p : Plan) → is_heading (changed (column_after step) (place_of columns step) columns) ≡ true
      → ((c : schema_column.Column) (u : ColumnSet) (t : Value → Bool) → slice_get columns (place_of columns step) ≡ Some c → IsSetOf c.kind u → set_after step u ≡ Some t → SetAs (column_after step c).kind t)
      → option_map (λ tests. parts tests items order) (members_after step (place_of columns step) sets) ≡ Some p
      → HasForm (changed (column_after step) (place_of columns step) columns) p
  changed_form step p heading one e =
      let i = place_of columns step in
      let cs = changed (column_after step) i columns in
      let (tests, at, is) = mapped (λ ts. parts ts items order) (members_after step i sets) p e in
      let same = length_changed (column_after step) i columns in
      subst (λ q. HasForm cs q) is
      (parts_form cs tests items order (sets_as step i columns sets tests one s.sets_fit at) heading s.some_item
      (shown_among columns cs items (omega arith) (shown_in columns sets items s.items_many))
      (columns_among columns cs order (omega arith) (columns_in columns sets items order s)))

  some_form : (step : Step) (p : Plan) → IsFaultless columns step → is_heading (columns_after columns step) ≡ true → parts_after columns step (forms.Some sets items order) ≡ Some p
      → HasForm (columns_after columns step) p
  some_form (Rename c to) p f heading e = changed_form (Rename c to) p heading (λ d u t at h k. rename_is d.kind c to u t h k) e
  some_form (Scale c by plus) p f heading e =
      changed_form (Scale c by plus) p heading (λ d u t at h k. scale_is d.kind c by plus u t (rising_factor by f.good) (passes_kind columns (Scale c by plus) is_int d (not_false _ f.kind) at) h k) e
  some_form (Recode c old new) p f heading e =
      changed_form (Recode c old new) p heading (λ d u t at h k. recode_is d.kind c old new u t h
      (and_second _ _ (passes_kind columns (Recode c old new) (λ kind. is_value_of kind old && is_value_of kind new) d (not_false _ f.kind) at)) k) e
  some_form (RetypeToText c) p f heading e =
      let (free, rest) = not_chosen (is_among (place_of columns (RetypeToText c)) (order_columns order)) _ p e in
      changed_form (RetypeToText c) p heading (λ d u t at h k. retype_is d.kind c u t (passes_kind columns (RetypeToText c) is_int d (not_false _ f.kind) at) h k) rest
  some_form (Add c v) p f heading e =
      let cs = columns ++ record { name = c; kind = kind_of v } ∷ [] in
      let is : parts (members sets ++ (λ w. true) ∷ []) items order ≡ p = cc in
      let more = length-append columns (record { name = c; kind = kind_of v } ∷ []) in
      subst (λ q. HasForm cs q) is
      (parts_form cs (members sets ++ (λ w. true) ∷ []) items order (added_as columns sets (record { name = c; kind = kind_of v }) s.sets_fit) heading s.some_item
      (shown_among columns cs items (omega arith) (shown_in columns sets items s.items_many))
      (columns_among columns cs order (omega arith) (columns_in columns sets items order s)))
  some_form (DropColumn c) p f heading e =
      let i = place_of columns (DropColumn c) in
      let (free, rest) = not_chosen (is_among i (printed_columns items ++ order_columns order)) _ p e in
      let (shown_free, order_free) = neither (is_among i (printed_columns items)) (is_among i (order_columns order)) (sym (list_any-append (λ j. j == i) (printed_columns items) (order_columns order)) ∙ free) in
      let (tests, at, is) = mapped (λ ts. parts (without i ts) (map (item_without i) items) (map (dir_without i) order)) (members_after (DropColumn c) i sets) p rest in
      subst (λ q. HasForm (without i columns) q) is
      (parts_form (without i columns) (without i tests) (map (item_without i) items) (map (dir_without i) order) (dropped_as (DropColumn c) i columns sets tests s.sets_fit at) heading (some_mapped (item_without i) items s.some_item)
      (shown_left i columns items (shown_in columns sets items s.items_many) shown_free)
      (columns_left i columns order (columns_in columns sets items order s) order_free))

-- that is what is asked of the one carried form
pub carries_has : (columns : List schema_column.Column) (step : Step) (form : Normal) (p : Plan) → parts_after columns step form ≡ Some p → (has : HasForm (columns_after columns step) p) → CarriesOne columns step form has.form
carries_has columns step form p e has =
    subst (λ o. IsSomeAnd o (λ q. IsSettled (columns_after columns step) has.form × Alike (columns_after columns step) q (formed has.form))) (sym e) (has.settled, has.alike)

pub form_of_parts : (n : ℕ) (columns : List schema_column.Column) (step : Step) (form : Normal) (p : Plan) → IsTrue (is_heading columns) → step_fault columns n step ≡ None → IsSettled columns form
    → parts_after columns step form ≡ Some p → HasForm (columns_after columns step) p
form_of_parts n columns step form p heading none settled e = by form settled e
  where
    after : is_heading (columns_after columns step) ≡ true
    after = carried_headings n columns (columns_after columns step) (step ∷ []) (rw none refl) heading

    by : (f : Normal) → IsSettled columns f → parts_after columns step f ≡ Some p → HasForm (columns_after columns step) p
    by (forms.Nothing labels) h e =
        let is : formed (forms.Nothing labels) ≡ p = cc in
        subst (λ q. HasForm (columns_after columns step) q) is (record { form = forms.Nothing labels; settled = h; alike = alike_self (columns_after columns step) (formed (forms.Nothing labels)); prints = λ j k. refl })
    by (forms.Some sets items order) h e = some_form columns sets items order h step p (faultless columns n step none) after e

pub parts_have_a_form : PartsHaveAForm
parts_have_a_form n columns step form p heading none settled e =
    let has = form_of_parts n columns step form p heading none settled e in (has.form, carries_has columns step form p e has)
