-- Harmless steps carry a form.
use Rattle.std.proofs.Common.{◌≡◌, ℕ, zero, suc, ℤ, ◌+◌, Bool, true, false, not, List, [], ◌∷◌, ◌++◌, Some, slice_get, refl, sym, ap, ◌∙◌, subst}
use Rattle.std.specs.Prelude.{option_map}
use Rattle.cite_schema.specs.declared.value.Kind.{Kind}
use Rattle.cite_schema.specs.declared.value.Kind.TheVariants as kinds
use Rattle.cite_schema.specs.declared.value.Value.{Value}
use Rattle.cite_schema.specs.declared.schema.Column as schema_column
use Rattle.cite_schema.specs.declared.item.Item.{Item}
use Rattle.cite_schema.specs.declared.item.Dir.{Dir}
use Rattle.cite_schema.specs.declared.step.Step.{Step}
use Rattle.cite_schema.specs.declared.step.Step.TheVariants.{Rename, Add, DropColumn, Scale, Recode, RetypeToText}
use Rattle.cite_schema.specs.Answers.{Plan, Gives}
use Rattle.cite_schema.proofs.Results.{unfaulted}
use Rattle.cite_schema.proofs.Rising.{and_first, and_second, and_true}
use Rattle.cite_schema.proofs.TableTexts.{before_some}
use Rattle.cite_schema.proofs.WellNamed.{are_well_named}
use Rattle.subset_query.specs.declared.form.ColumnSet.{ColumnSet}
use Rattle.subset_query.specs.declared.form.ColumnSet.TheVariants.{Ints, Texts}
use Rattle.subset_query.specs.declared.form.Normal.{Normal}
use Rattle.subset_query.specs.declared.form.Normal.TheVariants as forms
use Rattle.subset_query.specs.Forms.{formed, in_set, IsSetOf, AreSetsOf, printed_columns, IsSettled}
use Rattle.migration.specs.Columns.{place_of, columns_after, step_fault, is_int}
use Rattle.migration.specs.Rows.{carry_row, carry_rows}
use Rattle.migration.specs.Sets.{is_in_image, set_after}
use Rattle.migration.specs.Forms.{is_among, members, members_after, parts, parts_after}
use Rattle.migration.specs.Harmless.{printed_of, harmless_step, all_harmless, HarmlessStepsCarry}
use Rattle.migration.proofs.Faultless.{IsFaultless, faultless}
use Rattle.migration.proofs.HarmlessSteps.{IsHarmless, numbers_there, renamed_members, step_gives, first_step, one_step_table}
use Rattle.migration.proofs.SchemaColumns.{carried_headings}
use Rattle.migration.proofs.PartsForm.{form_of_parts, carries_has}

not_true : (b : Bool) → not b ≡ true → b ≡ false
not_true true e = cc
not_true false e = refl

true_not : (b : Bool) → b ≡ false → not b ≡ true
true_not true e = cc
true_not false e = refl

harmless_is : (columns : List schema_column.Column) (x : Step) (form : Normal) → harmless_step columns x (printed_of form) ≡ true → IsHarmless columns x form
harmless_is columns (Rename c to) form h = tt
harmless_is columns (Add c v) form h = tt
harmless_is columns (Scale c by plus) form h = not_true _ h
harmless_is columns (DropColumn c) form h = let e : false ≡ true = h in absurd (cc)
harmless_is columns (Recode c old new) form h = let e : false ≡ true = h in absurd (cc)
harmless_is columns (RetypeToText c) form h = let e : false ≡ true = h in absurd (cc)

-- no column that is not among the first is among the others
NoMore : List ℕ → List ℕ → Type 0
NoMore ps qs = (j : ℕ) → is_among j ps ≡ false → is_among j qs ≡ false

still_harmless_step : (columns : List schema_column.Column) (x : Step) (ps qs : List ℕ) → NoMore ps qs → harmless_step columns x ps ≡ true → harmless_step columns x qs ≡ true
unfolding NoMore
still_harmless_step columns (Rename c to) ps qs less h = refl
still_harmless_step columns (Add c v) ps qs less h = refl
still_harmless_step columns (Scale c by plus) ps qs less h = true_not _ (less (place_of columns (Scale c by plus)) (not_true _ h))
still_harmless_step columns (DropColumn c) ps qs less h = h
still_harmless_step columns (Recode c old new) ps qs less h = h
still_harmless_step columns (RetypeToText c) ps qs less h = h

still_harmless : (columns : List schema_column.Column) (steps : List Step) (ps qs : List ℕ) → NoMore ps qs → all_harmless columns steps ps ≡ true → all_harmless columns steps qs ≡ true
still_harmless columns [] ps qs less h = refl
still_harmless columns (x ∷ xs) ps qs less h =
    and_true _ _ (still_harmless_step columns x ps qs less (and_first _ _ h)) (still_harmless (columns_after columns x) xs ps qs less (and_second _ _ h))

no_constants : (labels : List (List ℕ)) (j : ℕ) → is_among j (printed_columns (formed (forms.Nothing labels)).items) ≡ false
no_constants [] j = refl
no_constants (l ∷ ls) j = no_constants ls j

-- the set of a column of numbers is scaled
scaled_there : (k : Kind) (c : List ℕ) (by plus : ℤ) (s : ColumnSet) → is_int k ≡ true → IsSetOf k s → (test : Value → Bool) × (set_after (Scale c by plus) s ≡ Some test)
scaled_there kinds.Int c by plus (Ints spans) i h = (is_in_image by plus spans, refl)
scaled_there kinds.Int c by plus (Texts spans) i h = absurd h
scaled_there kinds.Text c by plus s i h = absurd (cc)

scaled_members : (c : List ℕ) (by plus : ℤ) (cs : List schema_column.Column) (ss : List ColumnSet) (i : ℕ) → ((d : schema_column.Column) → slice_get cs i ≡ Some d → is_int d.kind ≡ true) → AreSetsOf cs ss
    → (tests : List (Value → Bool)) × (members_after (Scale c by plus) i ss ≡ Some tests)
scaled_members c by plus [] [] i n h = ([], refl)
scaled_members c by plus [] (s ∷ ss) i n h = absurd h
scaled_members c by plus (d ∷ ds) [] i n h = absurd h
scaled_members c by plus (d ∷ ds) (s ∷ ss) zero n h =
    let (test, is) = scaled_there d.kind c by plus s (n d refl) h.0 in (test ∷ members ss, ap (option_map (λ t. t ∷ members ss)) is)
scaled_members c by plus (d ∷ ds) (s ∷ ss) (suc i) n h =
    let (tests, is) = scaled_members c by plus ds ss i (λ e at. n e at) h.1 in (in_set s ∷ tests, ap (option_map (λ ts. in_set s ∷ ts)) is)

-- the parts of a form after a harmless step, which print no more
record HasParts (columns : List schema_column.Column) (x : Step) (form : Normal) : Type 0 where
  plan : Plan
  is : parts_after columns x form ≡ Some plan
  prints : NoMore (printed_of form) (printed_columns plan.items)

some_parts : (columns : List schema_column.Column) (x : Step) (sets : List ColumnSet) (items : List Item) (order : List Dir) → IsFaultless columns x → AreSetsOf columns sets → IsHarmless columns x (forms.Some sets items order) → HasParts columns x (forms.Some sets items order)
unfolding NoMore
some_parts columns (Rename c to) sets items order f s h =
    record { plan = parts (members sets) items order; is = ap (option_map (λ ts. parts ts items order)) (renamed_members c to (place_of columns (Rename c to)) sets); prints = λ j k. k }
some_parts columns (Add c v) sets items order f s h = record { plan = parts (members sets ++ (λ w. true) ∷ []) items order; is = refl; prints = λ j k. k }
some_parts columns (Scale c by plus) sets items order f s h =
    let (tests, is) = scaled_members c by plus columns sets (place_of columns (Scale c by plus)) (numbers_there columns c by plus f) s in
    record { plan = parts tests items order; is = ap (option_map (λ ts. parts ts items order)) is; prints = λ j k. k }
some_parts columns (DropColumn c) sets items order f s h = absurd h
some_parts columns (Recode c old new) sets items order f s h = absurd h
some_parts columns (RetypeToText c) sets items order f s h = absurd h

has_parts : (columns : List schema_column.Column) (x : Step) (form : Normal) → IsFaultless columns x → IsSettled columns form → IsHarmless columns x form → HasParts columns x form
unfolding NoMore
has_parts columns x (forms.Nothing labels) f s h = record { plan = formed (forms.Nothing labels); is = refl; prints = λ j k. no_constants labels j }
has_parts columns x (forms.Some sets items order) f s h = some_parts columns x sets items order f s.sets_fit h

itself : (columns : List schema_column.Column) (rows more : List (List Value)) → carry_rows columns [] rows ≡ Some more → rows ≡ more
itself columns [] more e = cc
itself columns (r ∷ rs) more e =
    let (t, ts, first, rest, is) = before_some (carry_row columns [] r) (carry_rows columns [] rs) more e in
    let one : r ≡ t = cc in
    ap (λ x. x ∷ rs) one ∙ ap (λ xs. t ∷ xs) (itself columns rs ts rest) ∙ sym is

pub harmless_carry : HarmlessStepsCarry
unfolding NoMore
harmless_carry n columns after [] form table carried bytes heading s fit settled h e g = (form, refl, subst (λ t. Gives (formed form) t bytes) (itself columns table carried e) g)
harmless_carry n columns after (x ∷ xs) form table carried bytes heading s fit settled h e g =
    let (none, rest) = unfaulted (step_fault columns n x) _ after s in
    let f = faultless columns n x none in
    let own = harmless_is columns x form (and_first _ _ h) in
    let there = has_parts columns x form f settled own in
    let has = form_of_parts n columns x form there.plan heading none settled there.is in
    let one = carries_has columns x form there.plan there.is has in
    let (mid, made_mid, on) = first_step columns x xs table carried e in
    let mid_fits = one_step_table columns x n table mid (are_well_named columns heading).some none fit made_mid in
    let given = step_gives columns x form has.form table mid bytes f settled own one fit mid_fits made_mid g in
    let later : all_harmless (columns_after columns x) xs (printed_of has.form) ≡ true =
    still_harmless (columns_after columns x) xs (printed_of form) (printed_of has.form) (λ j k. has.prints j (there.prints j k)) (and_second _ _ h) in
    let (other, carries, gives) = harmless_carry (n + 1) (columns_after columns x) after xs has.form mid carried bytes
    (carried_headings n columns (columns_after columns x) (x ∷ []) (rw none refl) heading) rest mid_fits has.settled later on given in
    (other, (has.form, one, carries), gives)
