-- What the parts of carrying a form hand on. Clauses of private functions alone cite it.
use Rattle.std.specs.Prelude.{◌≡◌, ◌<◌, ◌⊎◌, ⊤, ℕ, zero, suc, ℤ, pos, ◌&&◌, ◌||◌, Bool, true, false, IsTrue, int_lt, List, [], ◌∷◌, ◌++◌, Option, Some, None, IsSomeAnd, length, map, slice_get, option_map}
use Rattle.cite_schema.specs.Answers.{Plan, Alike}
use Rattle.cite_schema.specs.Values.{is_value_of, kind_of, is_text, text_cmp}
use Rattle.cite_schema.specs.Headings.{is_heading}
use Rattle.cite_schema.specs.declared.value.Kind.{Kind}
use Rattle.cite_schema.specs.declared.value.Kind.TheVariants as kinds
use Rattle.cite_schema.specs.declared.value.Value.{Value}
use Rattle.cite_schema.specs.declared.value.Value.TheVariants.{Text}
use Rattle.interval_normal.specs.declared.set.Span.{Span}
use Rattle.interval_normal.specs.Spans.{has}
use Rattle.cite_schema.specs.declared.schema.Column as schema_column
use Rattle.cite_schema.specs.declared.step.Step.{Step}
use Rattle.cite_schema.specs.declared.step.Step.TheVariants.{Rename, Add, DropColumn, Scale, Recode, RetypeToText}
use Rattle.subset_query.specs.declared.form.ColumnSet.{ColumnSet}
use Rattle.subset_query.specs.declared.form.Normal.{Normal}
use Rattle.subset_query.specs.declared.form.Normal.TheVariants as forms
use Rattle.subset_query.specs.Forms.{formed, in_set, is_set_for, printed_columns, order_columns, IsSettled}
use Rattle.subset_query.specs.Settling.{own_kind}
use Rattle.migration.specs.declared.parts.Parts.{Parts}
use Rattle.migration.specs.Places.{without}
use Rattle.migration.specs.Columns.{place_of, columns_after, step_fault}
use Rattle.migration.specs.Sets.{is_full, retyped, set_after}
use Rattle.migration.specs.Forms.{is_among, item_without, dir_without, parts_at}

-- of the values of the kind, the set has those that pass the test
abbrev pub IsSetAs : Kind → (Value → Bool) → ColumnSet → Type 0
IsSetAs k test set = IsTrue (is_set_for k set) × ((v : Value) → IsTrue (is_value_of k v) → test v ≡ in_set set v)

-- the kind of the column that a step names, after the step
abbrev pub kind_after : Step → Kind → Kind
kind_after (RetypeToText c) k = kinds.Text
kind_after _ k = k

-- the step changes the values of a column that has the set, and may be done to it
abbrev pub Changes : Step → ColumnSet → Type 0
Changes (Scale c by plus) set = (own_kind set ≡ kinds.Int) × IsTrue (int_lt (pos 0) by)
Changes (Recode c old new) set = IsTrue (is_value_of (own_kind set) old && is_value_of (own_kind set) new)
Changes (RetypeToText c) set = own_kind set ≡ kinds.Int
Changes _ set = ⊥

-- the set is what the step makes of a set, or it makes none of it
abbrev pub IsSetAfter : Step → ColumnSet → Option ColumnSet → Type 0
IsSetAfter step set None = set_after step set ≡ None
IsSetAfter step set (Some other) = IsSomeAnd (set_after step set) (λ test. IsSetAs (kind_after step (own_kind set)) test other)

-- the texts are what retyping makes of the spans, or it makes none of them
abbrev pub IsRetyped : List (Span ℤ) → Option (List (Span (List ℕ))) → Type 0
IsRetyped spans None = retyped spans ≡ None
IsRetyped spans (Some texts) = IsSomeAnd (retyped spans) (λ test. (t : List ℕ) → IsTrue (is_text t) → test (Text t) ≡ has text_cmp texts t)

-- the sets are those before, but for the one at a place, which is what the step makes of it
abbrev pub AreSetsAfter : Step → ℕ → List ColumnSet → List ColumnSet → Type 0
AreSetsAfter step i [] others = others ≡ []
AreSetsAfter step i (s ∷ ss) [] = ⊥
AreSetsAfter step zero (s ∷ ss) (t ∷ ts) = IsSetAfter step s (Some t) × (ts ≡ ss)
AreSetsAfter step (suc i) (s ∷ ss) (t ∷ ts) = (t ≡ s) × AreSetsAfter step i ss ts

-- a set of every value of the kind
abbrev pub IsFullFor : Kind → ColumnSet → Type 0
IsFullFor k set = IsSetAs k (λ v. true) set

-- the step may be done to the set of the column at the place
abbrev pub FitsStep : Step → ℕ → List ColumnSet → Type 0
FitsStep (Rename c to) i sets = ⊤
FitsStep (Add c v) i sets = ⊤
FitsStep (DropColumn c) i sets = i < length sets
FitsStep step i sets = IsSomeAnd (slice_get sets i) (Changes step)

-- the parts without the column at a place, where it is neither shown nor in the order, and has a full set
abbrev pub AreDropped : ℕ → Parts → Option Parts → Type 0
AreDropped i parts None =
    (is_among i (printed_columns parts.items) || is_among i (order_columns parts.order)) ≡ true ⊎ option_map is_full (slice_get parts.sets i) ≡ Some false
AreDropped i parts (Some after) =
    ((is_among i (printed_columns parts.items) || is_among i (order_columns parts.order)) ≡ false) × (option_map is_full (slice_get parts.sets i) ≡ Some true)
    × (after ≡ record { sets = without i parts.sets; items = map (item_without i) parts.items; order = map (dir_without i) parts.order })

-- the parts with the set at a place as it is after the step
abbrev pub AreChanged : Step → ℕ → Parts → Option Parts → Type 0
AreChanged step i parts None = IsSomeAnd (slice_get parts.sets i) (λ s. set_after step s ≡ None)
AreChanged step i parts (Some after) = AreSetsAfter step i parts.sets after.sets × (after.items ≡ parts.items) × (after.order ≡ parts.order)

-- the parts after a step that names the column at a place, or none
abbrev pub ArePartsAfter : Step → ℕ → Parts → Option Parts → Type 0
ArePartsAfter (Rename c to) i parts after = after ≡ Some parts
ArePartsAfter (Add c v) i parts None = ⊥
ArePartsAfter (Add c v) i parts (Some after) = ((set : ColumnSet) × IsFullFor (kind_of v) set × (after.sets ≡ parts.sets ++ set ∷ [])) × (after.items ≡ parts.items) × (after.order ≡ parts.order)
ArePartsAfter (DropColumn c) i parts after = AreDropped i parts after
ArePartsAfter (RetypeToText c) i parts None = is_among i (order_columns parts.order) ≡ true ⊎ AreChanged (RetypeToText c) i parts None
ArePartsAfter (RetypeToText c) i parts (Some after) = (is_among i (order_columns parts.order) ≡ false) × AreChanged (RetypeToText c) i parts (Some after)
ArePartsAfter step i parts after = AreChanged step i parts after

-- lists of columns
abbrev pub Columns : Type 0
Columns = List schema_column.Column

-- the step has no fault on columns that make a schema and names the one at a place, and these are the columns after it
pub record IsStage (step : Step) (i : ℕ) (before after : List schema_column.Column) : Type 0 where
  pub number : ℕ
  pub faultless : step_fault before number step ≡ None
  pub heading : IsTrue (is_heading before)
  pub place : i ≡ place_of before step
  pub carried : after ≡ columns_after before step

-- the form is the settled one that gives what the parts give, or there are no parts
abbrev pub IsOutcome : List schema_column.Column → Option Plan → Option Normal → Type 0
IsOutcome columns parts None = parts ≡ None
IsOutcome columns parts (Some form) = IsSomeAnd parts (λ p. IsSettled columns form × Alike columns p (formed form))

-- the parts of a form after a step that names the column at a place
abbrev pub form_parts : Step → ℕ → Normal → Option Plan
form_parts step i (forms.Nothing labels) = Some (formed (forms.Nothing labels))
form_parts step i (forms.Some sets items order) = parts_at step i sets items order
