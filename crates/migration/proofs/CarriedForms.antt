-- A form is carried step by step.
use Rattle.std.proofs.Common.{◌≡◌, ◌↔◌, ℕ, suc, ◌+◌, ◌<◌, List, [], ◌∷◌, Option, Some, None, Result, IsTrue, length, drop, get_or, drop-cons, refl, sym, ap, ◌∙◌, subst, arith}
use Rattle.std.specs.Prelude.{IsSomeAnd, IsOk, Ok, Err}
use Rattle.cite_schema.specs.Headings.{Heading, is_heading}
use Rattle.cite_schema.specs.Answers.{Plan, Alike}
use Rattle.cite_schema.specs.declared.schema.Column.{Column}
use Rattle.cite_schema.specs.declared.step.Step.{Step}
use Rattle.cite_schema.proofs.Results.{unfaulted, demanded, gave}
use Rattle.subset_query.specs.declared.form.Normal.{Normal}
use Rattle.subset_query.specs.declared.form.Normal.TheVariants as forms
use Rattle.subset_query.specs.Forms.{formed, IsSettled}
use Rattle.migration.specs.declared.fault.StepFault.{StepFault}
use Rattle.migration.specs.Columns.{place_of, step_places, columns_after, columns_after_all, step_fault, carry_schema}
use Rattle.migration.specs.Forms.{parts_after, CarriesOne, Carries}
use Rattle.migration.specs.Carrying.{form_parts, IsStage, IsOutcome}
use Rattle.migration.proofs.SchemaColumns.{carried_headings}
use Rattle.migration.proofs.OneCarried.{one_settled, settled_one}
use Rattle.migration.proofs.Placed.{from_place, cons_within}

-- what is still to be done: the steps that are left, on the columns and the form so far, make what all steps make
pub record IsUnderWay (first : List Column) (steps : List Step) (form : Normal) (columns : List Column) (rest : List Step) (now : Normal) : Type 0 where
  pub number : ℕ
  pub last : List Column
  pub faultless : columns_after_all number columns rest ≡ Ok last
  pub settled : IsSettled columns now
  pub same : (other : Normal) → (Carries columns rest now other ↔ Carries first steps form other)

pub begins : (schema : Heading) (steps : List Step) (form : Normal) → IsOk (carry_schema schema steps) → IsSettled schema.columns form → IsUnderWay schema.columns steps form schema.columns steps form
begins schema steps form h s =
    let (carried, is) = some_schema (carry_schema schema steps) h in
    let (few, rest) = demanded _ _ _ carried is in
    let (columns, are, more) = gave (columns_after_all 1 schema.columns steps) _ _ carried rest in
    record { number = 1; last = columns; faultless = are; settled = s; same = λ other. (λ c. c, λ c. c) }
  where
    some_schema : (r : Result Heading StepFault) → IsOk r → (carried : Heading) × (r ≡ Ok carried)
    some_schema (Ok carried) h = (carried, refl)
    some_schema (Err fault) h = absurd (cc)

module _ (first : List Column) (steps : List Step) (form : Normal) (columns : List Column) (x : Step) (xs : List Step) (now : Normal) (u : IsUnderWay first steps form columns (x ∷ xs) now) where
  faults : (step_fault columns u.number x ≡ None) × (columns_after_all (u.number + 1) (columns_after columns x) xs ≡ Ok u.last)
  faults = unfaulted (step_fault columns u.number x) _ u.last u.faultless

  pub stage : IsTrue (is_heading columns) → IsStage x (place_of columns x) columns (columns_after columns x)
  stage heading = record { number = u.number; faultless = faults.0; heading = heading; place = refl; carried = refl }

  same_parts : (n : Normal) → form_parts x (place_of columns x) n ≡ parts_after columns x n
  same_parts (forms.Nothing labels) = refl
  same_parts (forms.Some sets items order) = refl

  one : (next : Normal) → IsOutcome (columns_after columns x) (form_parts x (place_of columns x) now) (Some next) → CarriesOne columns x now next
  one next o = subst (λ p. IsSomeAnd p (λ q. IsSettled (columns_after columns x) next × Alike (columns_after columns x) q (formed next))) (same_parts now) o

  pub goes_on : (next : Normal) → IsOutcome (columns_after columns x) (form_parts x (place_of columns x) now) (Some next) → IsUnderWay first steps form (columns_after columns x) xs next
  goes_on next o = record {
    number = u.number + 1;
    last = u.last;
    faultless = faults.1;
    settled = settled_one (columns_after columns x) (parts_after columns x now) next (one next o);
    same = λ other. (λ c. (u.same other).0 (next, one next o, c), λ c. back other ((u.same other).1 c));
  }
    where
      back : (other : Normal) → Carries columns (x ∷ xs) now other → Carries (columns_after columns x) xs next other
      back other (a, made, more) =
          let is : a ≡ next = one_settled (columns_after columns x) (parts_after columns x now) a next made (one next o) in
          subst (λ n. Carries (columns_after columns x) xs n other) is more

  pub ends : IsOutcome (columns_after columns x) (form_parts x (place_of columns x) now) None → (other : Normal) → Carries first steps form other → ⊥
  ends o other c = no ((u.same other).1 c)
    where
      none : (p : Option Plan) (next : Normal) → p ≡ None → IsSomeAnd p (λ q. IsSettled (columns_after columns x) next × Alike (columns_after columns x) q (formed next)) → ⊥
      none None next e h = h
      none (Some q) next e h = absurd (cc)

      no : Carries columns (x ∷ xs) now other → ⊥
      no (a, made, more) = none (parts_after columns x now) a (sym (same_parts now) ∙ o) made

-- at the end the form so far is what the steps make
pub ended : (first : List Column) (steps : List Step) (form : Normal) (columns : List Column) (now : Normal) → IsUnderWay first steps form columns [] now → Carries first steps form now
ended first steps form columns now u = (u.same now).0 refl

-- the columns after a step without a fault make a schema
pub heading_after : (n : ℕ) (columns : List Column) (x : Step) → step_fault columns n x ≡ None → IsTrue (is_heading columns) → IsTrue (is_heading (columns_after columns x))
heading_after n columns x none heading = carried_headings n columns (columns_after columns x) (x ∷ []) (rw none refl) heading

-- the stage at hand, with its place and the columns after it as the program has them
pub stage_as : (x : Step) (i : ℕ) (columns after : List Column) → IsStage x (place_of columns x) columns (columns_after columns x) → i ≡ place_of columns x → after ≡ columns_after columns x → IsStage x i columns after
stage_as x i columns after stage place carried = record { number = stage.number; faultless = stage.faultless; heading = stage.heading; place = place; carried = carried }

-- the columns after a stage make a schema
pub stage_heading : (x : Step) (i : ℕ) (before after : List Column) → IsStage x i before after → IsTrue (is_heading after)
stage_heading x i before after stage = subst (λ cs. IsTrue (is_heading cs)) (sym stage.carried) (heading_after stage.number before x stage.faultless stage.heading)

module _ (first : List Column) (steps : List Step) (form : Normal) (columns : List Column) (now : Normal) where
  -- the step at hand, and those behind it
  pub at_step : (xs : List Step) (i : ℕ) (x : Step) → i < length xs → x ≡ get_or xs i x → IsUnderWay first steps form columns (drop i xs) now → IsUnderWay first steps form columns (x ∷ drop (i + 1) xs) now
  at_step xs i x lt is u = subst (λ rest. IsUnderWay first steps form columns rest now) (from_place xs i x lt is) u

  outcome_as : (x : Step) (i : ℕ) (after : List Column) (o p : Option Normal) → i ≡ place_of columns x → after ≡ columns_after columns x → o ≡ p → IsOutcome after (form_parts x i now) o
      → IsOutcome (columns_after columns x) (form_parts x (place_of columns x) now) p
  outcome_as x i after o p place carried is made =
      subst (λ cs. IsOutcome cs (form_parts x (place_of columns x) now) p) carried (subst (λ j. IsOutcome after (form_parts x j now) p) place (subst (IsOutcome after (form_parts x i now)) is made))

  pub goes_on_as : (x : Step) (xs : List Step) (i : ℕ) (after : List Column) (o : Option Normal) (next : Normal) → IsUnderWay first steps form columns (x ∷ xs) now → i ≡ place_of columns x → after ≡ columns_after columns x
      → IsOutcome after (form_parts x i now) o → o ≡ Some next → IsUnderWay first steps form after xs next
  goes_on_as x xs i after o next u place carried made is =
      subst (λ cs. IsUnderWay first steps form cs xs next) (sym carried) (goes_on first steps form columns x xs now u next (outcome_as x i after o (Some next) place carried is made))

  pub ends_as : (x : Step) (xs : List Step) (i : ℕ) (after : List Column) (o : Option Normal) → IsUnderWay first steps form columns (x ∷ xs) now → i ≡ place_of columns x → after ≡ columns_after columns x
      → IsOutcome after (form_parts x i now) o → o ≡ None → (other : Normal) → Carries first steps form other → ⊥
  ends_as x xs i after o u place carried made is = ends first steps form columns x xs now u (outcome_as x i after o None place carried is made)

-- what is still to be done, with the places of the columns that the steps that are left name
pub record IsPlaced (first : List Column) (steps : List Step) (form : Normal) (places : List ℕ) (rest : List Step) (now : Normal) : Type 0 where
  pub columns : List Column
  pub heading : IsTrue (is_heading columns)
  pub places_are : places ≡ step_places columns rest
  pub under_way : IsUnderWay first steps form columns rest now

pub placed_begins : (schema : Heading) (steps : List Step) (form : Normal) (places : List ℕ) → IsTrue (is_heading schema.columns) → places ≡ step_places schema.columns steps → IsOk (carry_schema schema steps) → IsSettled schema.columns form
    → IsPlaced schema.columns steps form places steps form
placed_begins schema steps form places heading are h s = record { columns = schema.columns; heading = heading; places_are = are; under_way = begins schema steps form h s }

pub placed_ended : (first : List Column) (steps : List Step) (form : Normal) (places : List ℕ) (rest : List Step) (now : Normal) → rest ≡ [] → IsPlaced first steps form places rest now → Carries first steps form now
placed_ended first steps form places rest now none u = ended first steps form u.columns now (subst (λ xs. IsUnderWay first steps form u.columns xs now) none u.under_way)

module _ (first : List Column) (steps : List Step) (form : Normal) (places : List ℕ) (i : ℕ) (x : Step) (now : Normal) (lt : i < length steps) (is : x ≡ get_or steps i x) (u : IsPlaced first steps form (drop i places) (drop i steps) now) where
  from_here : drop i places ≡ place_of u.columns x ∷ step_places (columns_after u.columns x) (drop (i + 1) steps)
  from_here = u.places_are ∙ ap (step_places u.columns) (from_place steps i x lt is)

  -- the step has a place
  pub there : i < length places
  there = cons_within i places _ _ from_here

  way : IsUnderWay first steps form u.columns (x ∷ drop (i + 1) steps) now
  way = at_step first steps form u.columns now steps i x lt is u.under_way

  here : IsStage x (place_of u.columns x) u.columns (columns_after u.columns x)
  here = stage first steps form u.columns x (drop (i + 1) steps) now way u.heading

  both : (p : ℕ) → p ≡ get_or places i p → p ∷ drop (i + 1) places ≡ place_of u.columns x ∷ step_places (columns_after u.columns x) (drop (i + 1) steps)
  both p at = sym (from_place places i p there at) ∙ from_here

  heads : (a b : ℕ) (xs ys : List ℕ) → a ∷ xs ≡ b ∷ ys → (a ≡ b) × (xs ≡ ys)
  heads a b xs ys e = (cc, cc)

  place_is : (p : ℕ) → p ≡ get_or places i p → p ≡ place_of u.columns x
  place_is p at = (heads p (place_of u.columns x) (drop (i + 1) places) (step_places (columns_after u.columns x) (drop (i + 1) steps)) (both p at)).0

  -- the step at hand, with its place
  pub stage_here : (p : ℕ) → p ≡ get_or places i p → IsStage x p u.columns (columns_after u.columns x)
  stage_here p at = stage_as x p u.columns (columns_after u.columns x) here (place_is p at) refl

  -- what a step makes of the form, whatever columns it stands on
  abbrev pub Outcomes : ℕ → Option Normal → Type 0
  Outcomes p o = (before after : List Column) → IsStage x p before after → IsSettled before now → IsOutcome after (form_parts x p now) o

  made : (p : ℕ) (o : Option Normal) → p ≡ get_or places i p → Outcomes p o → IsOutcome (columns_after u.columns x) (form_parts x p now) o
  made p o at all = all u.columns (columns_after u.columns x) (stage_here p at) u.under_way.settled

  pub placed_on : (p : ℕ) (o : Option Normal) (next : Normal) → p ≡ get_or places i p → Outcomes p o → o ≡ Some next → IsPlaced first steps form (drop (i + 1) places) (drop (i + 1) steps) next
  placed_on p o next at all some = record {
    columns = columns_after u.columns x;
    heading = heading_after here.number u.columns x here.faultless u.heading;
    places_are = (heads p (place_of u.columns x) (drop (i + 1) places) (step_places (columns_after u.columns x) (drop (i + 1) steps)) (both p at)).1;
    under_way = goes_on_as first steps form u.columns now x (drop (i + 1) steps) p (columns_after u.columns x) o next way (place_is p at) refl (made p o at all) some;
  }

  pub placed_ends : (p : ℕ) (o : Option Normal) → p ≡ get_or places i p → Outcomes p o → o ≡ None → (other : Normal) → Carries first steps form other → ⊥
  placed_ends p o at all none = ends_as first steps form u.columns now x (drop (i + 1) steps) p (columns_after u.columns x) o way (place_is p at) refl (made p o at all) none
