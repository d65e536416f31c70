-- In every archive to which a history leads, a migration has an outcome.
use Rattle.std.proofs.Common.{◌≡◌, ℕ, ◌+◌, ◌⊎◌, inl, inr, List, [], ◌∷◌, Option, Some, None, Result, IsTrue, refl, sym, ap, ◌∙◌, subst}
use Rattle.std.specs.Prelude.{Ok, Err, IsSomeAnd, nat_lt, ◌==◌}
use Rattle.std.specs.List.{AllByRecursion}
use Rattle.cite_schema.specs.Answers.{Plan, Gives, Alike}
use Rattle.cite_schema.specs.Headings.{Heading, is_heading}
use Rattle.cite_schema.specs.Tests.{demand}
use Rattle.cite_schema.specs.declared.value.Value.{Value}
use Rattle.cite_schema.specs.declared.schema.Column.{Column}
use Rattle.cite_schema.specs.declared.step.Step.{Step}
use Rattle.cite_schema.proofs.Answered.{always_gives, one_text}
use Rattle.cite_schema.proofs.Results.{demanded, unfaulted, gave}
use Rattle.subset_query.specs.declared.form.Normal.{Normal}
use Rattle.subset_query.specs.Forms.{formed, IsSettled}
use Rattle.migration.specs.Columns.{columns_after, columns_after_all, step_fault, carry_schema}
use Rattle.migration.specs.Rows.{carry_rows}
use Rattle.migration.specs.Forms.{parts_after, CarriesOne, Carries}
use Rattle.migration.proofs.OneCarried.{one_settled, settled_one, carried_to_one}
use Rattle.migration.proofs.PartsForm.{parts_have_a_form}
use Rattle.migration.proofs.SchemaColumns.{carried_headings}
use Rattle.migration.proofs.Tabled.{carried_table}
use Rattle.archive_model.specs.declared.answers.Refused.{Refused}
use Rattle.archive_model.specs.declared.answers.Refused.TheVariants as refusals
use Rattle.archive_model.specs.declared.answers.Moved.{Moved}
use Rattle.archive_model.specs.Archives.{Archive, Minted, columns_of, version_count, now_table}
use Rattle.archive_model.specs.Limits.{Versions, clock_end}
use Rattle.archive_model.specs.Outcomes.{Outcome, refuses, makes, over}
use Rattle.archive_model.specs.Citing.{IsFirst}
use Rattle.archive_model.specs.Migrating.{migrate_entry, with_migration, overflow, new_migration, IsCarried, Stays, IsHarmed, AreCarried, NamesHarmed, IsMigrated, AreVerified}
use Rattle.archive_model.specs.ArchiveLaws.{Resolves}
use Rattle.archive_model.specs.OutcomeLaws.{MigrationsHaveAnOutcome}
use Rattle.archive_model.proofs.Sound.{Sound, some_column, columns_carried, rows_carried, citations_resolve}
use Rattle.archive_model.proofs.SameForms.{text_same}
use Rattle.archive_model.proofs.Deciding.{first_or_none}

-- the steps carry the form to some form
abbrev IsCarriedOn : List Column → List Step → Normal → Type 0
IsCarriedOn columns steps form = (other : Normal) × Carries columns steps form other

-- a step that leaves no parts of a form carries it to none
none_left : (columns : List Column) (x : Step) (form next : Normal) → parts_after columns x form ≡ None → CarriesOne columns x form next → ⊥
none_left columns x form next e one =
    subst (λ (o : Option Plan). IsSomeAnd o (λ p. IsSettled (columns_after columns x) next × Alike (columns_after columns x) p (formed next))) e one

-- whether steps without a fault carry a settled form is decided, step by step
carried_or_not : (n : ℕ) (columns after : List Column) (steps : List Step) (form : Normal) → IsTrue (is_heading columns) → columns_after_all n columns steps ≡ Ok after → IsSettled columns form → Dec (IsCarriedOn columns steps form)
carried_or_not n columns after [] form heading s settled = yes (form, refl)
carried_or_not n columns after (x ∷ xs) form heading s settled =
    let (fine, rest) = unfaulted (step_fault columns n x) _ after s in
    by (parts_after columns x form) refl (λ p is.
    let (next, one) = parts_have_a_form n columns x form p heading fine settled is in
    through next one (carried_or_not (n + 1) (columns_after columns x) after xs next
    (carried_headings n columns (columns_after columns x) (x ∷ []) (rw fine refl) heading) rest (settled_one (columns_after columns x) (parts_after columns x form) next one)))
  where
    through : (next : Normal) → CarriesOne columns x form next → Dec (IsCarriedOn (columns_after columns x) xs next) → Dec (IsCarriedOn columns (x ∷ xs) form)
    through next one (yes (other, more)) = yes (other, (next, one, more))
    through next one (no h) =
        no (λ w. h (w.0, subst (λ f. Carries (columns_after columns x) xs f w.0) (one_settled (columns_after columns x) (parts_after columns x form) w.1.0 next w.1.1 one) w.1.2))

    by : (o : Option Plan) → parts_after columns x form ≡ o → ((p : Plan) → parts_after columns x form ≡ Some p → Dec (IsCarriedOn columns (x ∷ xs) form)) → Dec (IsCarriedOn columns (x ∷ xs) form)
    by None e more = no (λ w. none_left columns x form w.1.0 e w.1.1)
    by (Some p) e more = more p e

of_some : {X : Type 0} (x y : X) → Some x ≡ Some y → x ≡ y
of_some x y e = cc

-- the form, the table and the bytes of a citation that stays are no others
pub stays_alone : (a : Archive) (steps : List Step) (m : Minted) (form : Normal) (old t : List (List Value)) → Carries (columns_of a) steps m.form form → now_table a m.issue.version ≡ Some old
    → carry_rows (columns_of a) steps old ≡ Some t → (other : Normal) → IsCarried a steps m other → Gives (formed form) t m.bytes
stays_alone a steps m form old t carries is rows other c =
    let same_form : other ≡ form = carried_to_one (columns_of a) steps m.form other form c.carries carries in
    let same_old : c.old ≡ old = of_some c.old old (sym c.old_is ∙ is) in
    let same_table : c.table ≡ t = of_some c.table t (sym c.table_is ∙ ap (carry_rows (columns_of a) steps) same_old ∙ rows) in
    subst (λ u. Gives (formed form) u m.bytes) same_table (subst (λ f. Gives (formed f) c.table m.bytes) same_form c.gives)

-- each citation that stays has a carried form
all_carried : (a : Archive) (steps : List Step) (ms : List Minted) → AllByRecursion (Stays a steps) ms → (ks : List Minted) × AreCarried a steps ms ks
all_carried a steps [] h = ([], tt)
all_carried a steps (m ∷ ms) h =
    let (form, c) = h.0 in
    let (ks, more) = all_carried a steps ms h.1 in
    (record m { form = form } ∷ ks, (c, refl, more))

module _ (a : Archive) (sound : Sound a) (steps : List Step) (schema : Heading) (schema_is : carry_schema a.last.schema steps ≡ Ok schema) (none_lost : overflow a steps ≡ None) where
  -- the carried form gives one text on the carried table of the citation's version: the citation's bytes, or others
  stays_or_harmed : (m : Minted) → Resolves a.last a.older m → Stays a steps m ⊎ IsHarmed a steps m
  stays_or_harmed m r = by (carried_or_not 1 (columns_of a) schema.columns steps m.form sound.heading columns_are r.settled)
    where
      columns_are : columns_after_all 1 (columns_of a) steps ≡ Ok schema.columns
      columns_are = columns_carried a.last.schema schema steps schema_is

      given : (form : Normal) → Carries (columns_of a) steps m.form form → Stays a steps m ⊎ IsHarmed a steps m
      given form carries =
          let h = sound.tables m.issue.version r.from r.to in
          let (t, rows) = rows_carried a sound steps none_lost m.issue.version h r.from r.to in
          let (bytes, gives) = always_gives schema.columns (formed form) t (carried_table 1 (columns_of a) schema.columns steps h.table t (some_column a sound) columns_are h.fits rows) in
          compared h.table h.is t rows bytes gives (text_same bytes m.bytes)
        where
          compared : (old : List (List Value)) → now_table a m.issue.version ≡ Some old → (t : List (List Value)) → carry_rows (columns_of a) steps old ≡ Some t → (bytes : List ℕ) → Gives (formed form) t bytes
              → Dec (bytes ≡ m.bytes) → Stays a steps m ⊎ IsHarmed a steps m
          compared old is t rows bytes gives (yes p) = inl (form, record { carries = carries; old = old; old_is = is; table = t; table_is = rows; gives = subst (Gives (formed form) t) p gives })
          compared old is t rows bytes gives (no h) = inr (λ w. h (one_text (formed form) t bytes m.bytes gives (stays_alone a steps m form old t carries is rows w.0 w.1)))

      by : Dec (IsCarriedOn (columns_of a) steps m.form) → Stays a steps m ⊎ IsHarmed a steps m
      by (yes (form, carries)) = given form carries
      by (no h) = inr (λ w. h (w.0, w.1.carries))

  -- so the first that is harmed is found, or all are carried
  harm_or_move : (now : ℕ) (next : Archive) → (o : Outcome Moved) × (NamesHarmed a steps o ⊎ IsMigrated a steps now next o)
  harm_or_move now next = by (first_or_none (Resolves a.last a.older) (Stays a steps) (IsHarmed a steps) stays_or_harmed a.minted sound.citations)
    where
      by : ((n : ℕ) × IsFirst (Stays a steps) (IsHarmed a steps) a.minted n) ⊎ AllByRecursion (Stays a steps) a.minted → (o : Outcome Moved) × (NamesHarmed a steps o ⊎ IsMigrated a steps now next o)
      by (inl (n, first)) = (refuses a (refusals.CitedSubset (n + 1)), inl (record { place = n; first = first; outcome = refl }))
      by (inr all) =
          let (ks, are) = all_carried a steps a.minted all in (
            makes a (migrate_entry a steps now) (record { schema = next.last.schema.number; version = version_count next }) (demand (nat_lt now clock_end) (refusals.ClockRange now) (Ok (record next { minted = ks }))),
            inr (record { minted = ks; carried = are; outcome = refl }),
          )

verified : (a : Archive) → Sound a → (schema : ℕ) (steps : List Step) (now : ℕ) (r : Result Archive Refused) → new_migration a schema steps now ≡ r → (o : Outcome Moved) × AreVerified a steps now r o
verified a sound schema steps now (Err x) e = (refuses a x, refl)
verified a sound schema steps now (Ok next) e =
    let (number, e1) = demanded (schema == a.last.schema.number) _ _ next e in
    let (carried, is, e2) = gave (carry_schema a.last.schema steps) refusals.Steps _ next e1 in
    let (few, e3) = unfaulted (over (with_migration a carried steps now) (Versions ∷ [])) _ next e2 in
    let (none, e4) = unfaulted (overflow a steps) _ next e3 in
    harm_or_move a sound steps carried is none now next

pub migrations_have_an_outcome : MigrationsHaveAnOutcome
migrations_have_an_outcome history a schema steps now leads = verified a (citations_resolve history a leads) schema steps now (new_migration a schema steps now) refl
