-- What a migration does before the citations are looked at, case by case.
use Rattle.std.proofs.Common.{◌≡◌, ◌≢◌, ℕ, zero, suc, ◌+◌, ◌-◌, ◌^◌, ◌<◌, ◌≤◌, cond, List, [], ◌∷◌, Option, Some, None, Result, map, min, refl, sym, ap, ◌∙◌, subst, arith}
use Rattle.std.specs.Prelude.{Ok, Err, option_map, nat_lt, is_none, slice_get}
use Rattle.std.specs.List.{AllByRecursion, find}
use Rattle.std.specs.Option.{option_and_then, option_or}
use Rattle.cite_schema.specs.Headings.{Heading}
use Rattle.cite_schema.specs.TableTexts.{all_some}
use Rattle.cite_schema.specs.Tests.{demand, unless, given}
use Rattle.cite_schema.specs.declared.value.Value.{Value}
use Rattle.cite_schema.specs.declared.step.Step.{Step}
use Rattle.cite_schema.proofs.TableTexts.{before_some}
use Rattle.migration.specs.declared.fault.StepFault.{StepFault}
use Rattle.migration.specs.Columns.{carry_schema}
use Rattle.migration.specs.Rows.{carry_row}
use Rattle.versioned_rows.specs.Histories.{RowHistory, rows_of, as_of, first_version, lost_key}
use Rattle.versioned_rows.specs.Nexts.{IsNextByRule}
use Rattle.versioned_rows.specs.Weights.{rows_weight}
use Rattle.entry_codec.specs.Payloads.{record_length}
use Rattle.archive_model.specs.declared.answers.Refused.{Refused}
use Rattle.archive_model.specs.declared.answers.Refused.TheVariants as refusals
use Rattle.archive_model.specs.Archives.{Archive, columns_of, version_count, now_table}
use Rattle.archive_model.specs.Limits.{Counted, Versions, Weight, JournalBytes, limit, limit_number, quantity}
use Rattle.archive_model.specs.Outcomes.{over}
use Rattle.archive_model.specs.Agreeing.{AgreeRows}
use Rattle.archive_model.specs.Migrating.{migrate_entry, with_migration, overflow, new_migration}
use Rattle.archive_model.proofs.InStep.{steps_keep, agreement_counts}
use Rattle.archive_state.specs.Limiting.{amount, passed}
use Rattle.archive_state.proofs.BatchRows.{same_numbers, other_numbers}
use Rattle.archive_state.proofs.LimitsPassed.{is_over, is_within, over_is_passed, none_passed, capped_over, uncapped}

-- what the rows decide, and then the limits
abbrev by_rows : Archive → List Step → ℕ → Heading → Result Archive Refused
by_rows a steps now carried = unless (overflow a steps) (unless (over (with_migration a carried steps now) (Weight ∷ JournalBytes ∷ [])) (Ok (with_migration a carried steps now)))

-- what the count of versions decides before them
abbrev by_count : Archive → List Step → ℕ → Heading → Result Archive Refused
by_count a steps now carried = unless (over (with_migration a carried steps now) (Versions ∷ [])) (by_rows a steps now carried)

-- and the steps before that
abbrev by_steps : Archive → List Step → ℕ → Result Archive Refused
by_steps a steps now = given (carry_schema a.last.schema steps) refusals.Steps (by_count a steps now)

-- what is found in the same versions is found first
first_same : {A : Type 0} (n : ℕ) (f g : ℕ → Option A) → ((k : ℕ) → 1 ≤ k → k ≤ n → f k ≡ g k) → first_version n f ≡ first_version n g
first_same zero f g h = refl
first_same {A} (suc n) f g h =
    ap (λ o. option_or o (option_map (λ (x : A). (suc n, x)) (f (suc n)))) (first_same n f g (λ k from to. h k from (omega (arith, to))))
    ∙ ap (λ o. option_or (first_version n g) (option_map (λ (x : A). (suc n, x)) o)) (h (suc n) (omega arith) (omega arith))

-- where nothing is found in any, nothing is
first_none : {A : Type 0} (n : ℕ) (f : ℕ → Option A) → ((k : ℕ) → 1 ≤ k → k ≤ n → f k ≡ None) → first_version n f ≡ None
first_none zero f h = refl
first_none {A} (suc n) f h =
    ap (λ o. option_or o (option_map (λ (x : A). (suc n, x)) (f (suc n)))) (first_none n f (λ k from to. h k from (omega (arith, to))))
    ∙ ap (λ o. option_map (λ (x : A). (suc n, x)) o) (h (suc n) (omega arith) (omega arith))

-- where all rows are carried, none is lost
none_missing : (rule : List Value → Option (List Value)) (xs ys : List (List Value)) → all_some (map rule xs) ≡ Some ys → find (λ r. is_none (rule r)) xs ≡ None
none_missing rule [] ys e = refl
none_missing rule (x ∷ xs) ys e =
    let (z, zs, first, rest, is) = before_some (rule x) (all_some (map rule xs)) ys e in
    ap (λ o. cond (is_none o) (Some x) (find (λ r. is_none (rule r)) xs)) first ∙ none_missing rule xs zs rest

none_lost : (rule : List Value → Option (List Value)) (xs ys : List (List Value)) → all_some (map rule xs) ≡ Some ys → lost_key rule xs ≡ None
none_lost rule xs ys e = ap (option_and_then (λ r. slice_get r 0)) (none_missing rule xs ys e)

module _ (a : Archive) (schema : ℕ) (steps : List Step) (now : ℕ) where
  pub other_schema : schema ≢ a.last.schema.number → new_migration a schema steps now ≡ Err (refusals.WrongSchema a.last.schema.number)
  other_schema h = ap (λ b. demand b (refusals.WrongSchema a.last.schema.number) (by_steps a steps now)) (other_numbers schema a.last.schema.number h)

  module _ (same : schema ≡ a.last.schema.number) where
    this_schema : new_migration a schema steps now ≡ by_steps a steps now
    this_schema = ap (λ b. demand b (refusals.WrongSchema a.last.schema.number) (by_steps a steps now)) (same_numbers schema a.last.schema.number same)

    pub steps_refused : (fault : StepFault) → carry_schema a.last.schema steps ≡ Err fault → new_migration a schema steps now ≡ Err (refusals.Steps fault)
    steps_refused fault e = this_schema ∙ ap (λ r. given r refusals.Steps (by_count a steps now)) e

    module _ (carried : Heading) (e : carry_schema a.last.schema steps ≡ Ok carried) where
      this_count : new_migration a schema steps now ≡ by_count a steps now carried
      this_count = this_schema ∙ ap (λ r. given r refusals.Steps (by_count a steps now)) e

      pub too_many : 200000 ≤ version_count a → new_migration a schema steps now ≡ Err (refusals.Full 2)
      too_many h =
          this_count ∙ ap (λ b. unless (option_map (λ c. refusals.Full (limit_number c)) (cond b (Some Versions) None)) (by_rows a steps now carried))
          (is_over 200000 (version_count (with_migration a carried steps now)) (omega (arith, h)))

      module _ (few : version_count a < 200000) (rows : RowHistory) (agree : AgreeRows rows a) where
        these_rows : new_migration a schema steps now ≡ by_rows a steps now carried
        these_rows =
            this_count ∙ ap (λ b. unless (option_map (λ c. refusals.Full (limit_number c)) (cond b (Some Versions) None)) (by_rows a steps now carried))
            (is_within 200000 (version_count (with_migration a carried steps now)) (omega (arith, few)))

        abbrev rule : List Value → Option (List Value)
        rule = carry_row (columns_of a) steps

        first_is : first_version (version_count a) (λ n. option_and_then (lost_key rule) (now_table a n)) ≡ first_version rows.last (λ v. lost_key rule (as_of rows v))
        first_is =
            first_same (version_count a) (λ n. option_and_then (lost_key rule) (now_table a n)) (λ v. lost_key rule (as_of rows v)) (λ k from to. ap (option_and_then (lost_key rule)) (agree.tables k from to))
            ∙ ap (λ n. first_version n (λ v. lost_key rule (as_of rows v))) (sym agree.last)

        pub row_lost : (version : ℕ) (key : Value) → first_version rows.last (λ v. lost_key rule (as_of rows v)) ≡ Some (version, key) → new_migration a schema steps now ≡ Err (refusals.Overflow version key)
        row_lost version key lost =
            these_rows ∙ ap (λ o. unless (option_map (λ (u : ℕ × Value). refusals.Overflow u.0 u.1) o) (unless (over (with_migration a carried steps now) (Weight ∷ JournalBytes ∷ [])) (Ok (with_migration a carried steps now)))) (first_is ∙ lost)

        module _ (new : RowHistory) (next : IsNextByRule rule rows new) (journal : ℕ) (whole : journal ≡ min (a.journal + record_length (migrate_entry a steps now)) (2 ^ 64 - 1)) where
          none : first_version rows.last (λ v. lost_key rule (as_of rows v)) ≡ None
          none = first_none rows.last (λ v. lost_key rule (as_of rows v)) (λ k from to. none_lost rule (as_of rows k) (as_of new k) (next.past k to))

          abbrev moved : Archive
          moved = with_migration a carried steps now

          agree_next : AgreeRows new moved
          agree_next = steps_keep a carried steps now a.minted rows new agree next

          abbrev counts : Counted → ℕ
          counts = amount 0 0 (rows_weight (rows_of new)) 0 journal

          counted : AllByRecursion (λ c. nat_lt (limit c) (quantity moved c) ≡ nat_lt (limit c) (counts c)) (Weight ∷ JournalBytes ∷ [])
          counted = (
            ap (λ n. nat_lt (limit Weight) n) (agreement_counts moved new agree_next).1,
            (capped_over (limit JournalBytes) (2 ^ 64 - 1) (a.journal + record_length (migrate_entry a steps now)) (omega arith) ∙ ap (λ n. nat_lt (limit JournalBytes) n) (sym whole), tt),
          )

          decided : (o : Option ℕ) → passed counts (Weight ∷ JournalBytes ∷ []) ≡ o → new_migration a schema steps now ≡ unless (option_map (λ l. refusals.Full l) o) (Ok moved)
          decided o e =
              these_rows
              ∙ ap (λ o. unless (option_map (λ (u : ℕ × Value). refusals.Overflow u.0 u.1) o) (unless (over moved (Weight ∷ JournalBytes ∷ [])) (Ok moved))) (first_is ∙ none)
              ∙ ap (λ r. unless r (Ok moved)) (over_is_passed moved counts (Weight ∷ JournalBytes ∷ []) counted ∙ ap (option_map (λ l. refusals.Full l)) e)

          pub too_much : (l : ℕ) → passed counts (Weight ∷ JournalBytes ∷ []) ≡ Some l → new_migration a schema steps now ≡ Err (refusals.Full l)
          too_much l e = decided (Some l) e

          pub made : passed counts (Weight ∷ JournalBytes ∷ []) ≡ None → new_migration a schema steps now ≡ Ok moved
          made e = decided None e

          pub journal_whole : passed counts (Weight ∷ JournalBytes ∷ []) ≡ None → journal ≡ a.journal + record_length (migrate_entry a steps now)
          journal_whole e =
              let within = (none_passed counts (Weight ∷ JournalBytes ∷ []) e).1.0 in
              whole ∙ uncapped (limit JournalBytes) (2 ^ 64 - 1) (a.journal + record_length (migrate_entry a steps now)) (omega arith) (subst (λ n. n ≤ limit JournalBytes) whole within)
