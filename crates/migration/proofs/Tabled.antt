-- What steps without a fault make of a table is a table of the columns after them.
use Rattle.std.proofs.Common.{◌≡◌, ℕ, ◌<◌, ◌+◌, true, ◌&&◌, List, [], ◌∷◌, Some, length, slice_get, refl, ap, ◌∙◌, subst, arith}
use Rattle.std.specs.Prelude.{⊤, Ok}
use Rattle.std.specs.List.{list_all}
use Rattle.std.specs.Ordering.{is_lt}
use Rattle.cite_schema.specs.declared.value.Value.{Value}
use Rattle.cite_schema.specs.declared.schema.Column.{Column}
use Rattle.cite_schema.specs.declared.step.Step.{Step}
use Rattle.cite_schema.specs.Tables.{fits, cell_cmp, key_cmp, is_keyed}
use Rattle.cite_schema.proofs.Rising.{and_first, and_second, and_true}
use Rattle.cite_schema.proofs.Results.{unfaulted}
use Rattle.cite_schema.proofs.TableTexts.{before_some}
use Rattle.migration.specs.Columns.{columns_after, columns_after_all, step_fault}
use Rattle.migration.specs.Rows.{row_after, carry_row, carry_rows}
use Rattle.migration.specs.CarryLaws.{CarriedTablesAreTables}
use Rattle.migration.proofs.Faultless.{faultless}
use Rattle.migration.proofs.Fitting.{step_fits}
use Rattle.migration.proofs.Keys.{carried_keeps_key, step_leaves_some, chained}

-- a row that fits is carried to a row that fits
pub carried_fits : (n : ℕ) (columns after : List Column) (steps : List Step) (row carried : List Value) → columns_after_all n columns steps ≡ Ok after
    → fits columns row ≡ true → carry_row columns steps row ≡ Some carried → fits after carried ≡ true
carried_fits n columns after [] row carried s h e =
    let is : row ≡ carried = cc in let same : columns ≡ after = cc in
    subst (λ cs. fits cs carried ≡ true) same (subst (λ r. fits columns r ≡ true) is h)
carried_fits n columns after (x ∷ xs) row carried s h e =
    let (none, rest) = unfaulted (step_fault columns n x) _ after s in
    let (next, first, more) = chained (carry_row (columns_after columns x) xs) (row_after columns x row) carried e in
    carried_fits (n + 1) (columns_after columns x) after xs next carried rest (step_fits columns x row next (faultless columns n x none) h first) more

-- steps without a fault leave a column
pub steps_leave_some : (n : ℕ) (columns after : List Column) (steps : List Step) → columns_after_all n columns steps ≡ Ok after → 0 < length columns → 0 < length after
steps_leave_some n columns after [] s some = let same : columns ≡ after = cc in subst (λ cs. 0 < length cs) same some
steps_leave_some n columns after (x ∷ xs) s some =
    let (none, rest) = unfaulted (step_fault columns n x) _ after s in
    steps_leave_some (n + 1) (columns_after columns x) after xs rest (step_leaves_some columns x (faultless columns n x none) some)

-- row by row the keys are the same
abbrev pub HaveSameKeys : List (List Value) → List (List Value) → Type 0
HaveSameKeys [] [] = ⊤
HaveSameKeys (r ∷ rs) (t ∷ ts) = (slice_get t 0 ≡ slice_get r 0) × HaveSameKeys rs ts
HaveSameKeys _ _ = ⊥

-- rows with the same keys rise alike
pub same_keys_keyed : (rs ts : List (List Value)) → HaveSameKeys rs ts → is_keyed ts ≡ is_keyed rs
same_keys_keyed [] [] h = refl
same_keys_keyed [] (t ∷ ts) h = absurd h
same_keys_keyed (r ∷ rs) [] h = absurd h
same_keys_keyed (r ∷ []) (t ∷ []) h = refl
same_keys_keyed (r ∷ []) (t ∷ u ∷ ts) h = absurd h.1
same_keys_keyed (r ∷ s ∷ rs) (t ∷ []) h = absurd h.1
same_keys_keyed (r ∷ s ∷ rs) (t ∷ u ∷ ts) h =
    ap (λ k. is_lt (cell_cmp k (slice_get u 0)) && is_keyed (u ∷ ts)) h.0
    ∙ ap (λ k. is_lt (cell_cmp (slice_get r 0) k) && is_keyed (u ∷ ts)) h.1.0
    ∙ ap (λ b. is_lt (key_cmp r s) && b) (same_keys_keyed (s ∷ rs) (u ∷ ts) h.1)

row_has_value : (columns : List Column) (row : List Value) → 0 < length columns → fits columns row ≡ true → 0 < length row
row_has_value [] row some h = absurd (omega arith)
row_has_value (c ∷ cs) [] some h = absurd (cc)
row_has_value (c ∷ cs) (v ∷ vs) some h = omega arith

module _ (n : ℕ) (columns after : List Column) (steps : List Step) (some : 0 < length columns) (s : columns_after_all n columns steps ≡ Ok after) where
  rows_fit : (table carried : List (List Value)) → list_all (fits columns) table ≡ true → carry_rows columns steps table ≡ Some carried → list_all (fits after) carried ≡ true
  rows_fit [] carried h e = let is : [] ≡ carried = cc in subst (λ t. list_all (fits after) t ≡ true) is refl
  rows_fit (r ∷ rs) carried h e =
      let (t, ts, first, rest, is) = before_some (carry_row columns steps r) (carry_rows columns steps rs) carried e in
      rw is (and_true _ _ (carried_fits n columns after steps r t s (and_first _ _ h) first) (rows_fit rs ts (and_second _ _ h) rest))

  rows_keep : (table carried : List (List Value)) → list_all (fits columns) table ≡ true → carry_rows columns steps table ≡ Some carried → HaveSameKeys table carried
  rows_keep [] carried h e = let is : [] ≡ carried = cc in subst (HaveSameKeys []) is tt
  rows_keep (r ∷ rs) carried h e =
      let (t, ts, first, rest, is) = before_some (carry_row columns steps r) (carry_rows columns steps rs) carried e in
      rw is (carried_keeps_key n columns after steps r t (row_has_value columns r some (and_first _ _ h)) s first, rows_keep rs ts (and_second _ _ h) rest)

pub carried_table : CarriedTablesAreTables
carried_table n columns after steps table carried some s h e =
    and_true _ _ (rows_fit n columns after steps some s table carried (and_first _ _ h) e)
    (same_keys_keyed table carried (rows_keep n columns after steps some s table carried (and_first _ _ h) e) ∙ and_second _ _ h)
