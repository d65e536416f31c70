-- Lines whose rows fit make a table of a table.
use Rattle.std.proofs.Common.{◌≡◌, ◌≢◌, ℕ, ◌+◌, Bool, true, false, not, cond, List, [], ◌∷◌, Option, Some, slice_get, filter, refl, sym, ap, ◌∙◌}
use Rattle.std.specs.Prelude.{Ok}
use Rattle.std.specs.List.{AllByRecursion, list_all}
use Rattle.std.specs.List.Sorted.{IsStrictlySortedBy}
use Rattle.std.specs.Ordering.{ordering_reverse, is_lt, is_eq}
use Rattle.std.specs.declared.cmp.Ordering.{Ordering}
use Rattle.std.specs.declared.cmp.Ordering.TheVariants.{Less, Equal, Greater}
use Rattle.cite_schema.specs.declared.value.Value.{Value}
use Rattle.cite_schema.specs.declared.schema.Column.{Column}
use Rattle.cite_schema.specs.declared.line.Line.{Line}
use Rattle.cite_schema.specs.declared.line.Line.TheVariants.{Put, Change, Remove}
use Rattle.cite_schema.specs.Tables.{fits, key_cmp, is_keyed}
use Rattle.cite_schema.proofs.Orders.{key_total}
use Rattle.cite_schema.proofs.Results.{unfaulted}
use Rattle.cite_schema.proofs.Rising.{below_all, rises_from_sorted, sorted_from_rises, rises_filter, and_first, and_second, and_true}
use Rattle.versioned_rows.specs.Changes.{is_under, without_key, with_row, after_line, after_lines, line_fault}
use Rattle.versioned_rows.specs.ChangeLaws.{FitsLine, FitLines, LinesMakeTables}

all_with : (P : List Value → Type 0) (row : List Value) (ts : List (List Value)) → P row → AllByRecursion P ts → AllByRecursion P (with_row row ts)
all_with P row [] h k = (h, tt)
all_with P row (t ∷ ts) h k = by (is_lt (key_cmp row t)) (all_with P row ts h k.1)
  where
    by : (b : Bool) → AllByRecursion P (with_row row ts) → AllByRecursion P (cond b (row ∷ t ∷ ts) (t ∷ with_row row ts))
    by true m = (h, k)
    by false m = (k.0, m)

sorted_with : (row : List Value) (ts : List (List Value)) → AllByRecursion (λ t. key_cmp row t ≢ Equal) ts → IsStrictlySortedBy key_cmp ts → IsStrictlySortedBy key_cmp (with_row row ts)
unfolding IsStrictlySortedBy
sorted_with row [] n h = (tt, tt)
sorted_with row (t ∷ ts) n h = by (key_cmp row t) refl (sorted_with row ts n.1 h.1)
  where
    by : (o : Ordering) → key_cmp row t ≡ o → IsStrictlySortedBy key_cmp (with_row row ts) → IsStrictlySortedBy key_cmp (cond (is_lt o) (row ∷ t ∷ ts) (t ∷ with_row row ts))
    by Less e more = ((e, below_all key_cmp key_total row t ts e h.0), h)
    by Equal e more = absurd (n.0 e)
    by Greater e more = (all_with (λ z. key_cmp t z ≡ Less) row ts (key_total.antisymm t row ∙ ap ordering_reverse e) h.0, more)

-- what is left without the key of a row has other keys
apart : (row : List Value) (ts : List (List Value)) → AllByRecursion (λ t. key_cmp row t ≢ Equal) (without_key (slice_get row 0) ts)
apart row [] = tt
apart row (t ∷ ts) = by (key_cmp row t) refl (apart row ts)
  where
    by : (o : Ordering) → key_cmp row t ≡ o → AllByRecursion (λ u. key_cmp row u ≢ Equal) (without_key (slice_get row 0) ts)
        → AllByRecursion (λ u. key_cmp row u ≢ Equal) (cond (not (is_eq o)) (t ∷ without_key (slice_get row 0) ts) (without_key (slice_get row 0) ts))
    by Less e more = (λ f. let c : Less ≡ Equal = sym e ∙ f in absurd (cc), more)
    by Equal e more = more
    by Greater e more = (λ f. let c : Greater ≡ Equal = sym e ∙ f in absurd (cc), more)

keyed_without : (key : Option Value) (ts : List (List Value)) → is_keyed ts ≡ true → is_keyed (without_key key ts) ≡ true
keyed_without key ts h = rises_filter key_cmp key_total (λ r. not (is_under key r)) ts h

keyed_with : (row : List Value) (ts : List (List Value)) → is_keyed ts ≡ true → is_keyed (with_row row (without_key (slice_get row 0) ts)) ≡ true
keyed_with row ts h =
    let left = without_key (slice_get row 0) ts in
    rises_from_sorted key_cmp key_total (with_row row left)
    (sorted_with row left (apart row ts) (sorted_from_rises key_cmp key_total left (keyed_without (slice_get row 0) ts h)))

fit_filtered : (columns : List Column) (p : List Value → Bool) (ts : List (List Value)) → list_all (fits columns) ts ≡ true → list_all (fits columns) (filter p ts) ≡ true
fit_filtered columns p [] h = refl
fit_filtered columns p (t ∷ ts) h = by (p t) (fit_filtered columns p ts (and_second _ _ h))
  where
    by : (b : Bool) → list_all (fits columns) (filter p ts) ≡ true → list_all (fits columns) (cond b (t ∷ filter p ts) (filter p ts)) ≡ true
    by true m = and_true _ _ (and_first _ _ h) m
    by false m = m

fit_with : (columns : List Column) (row : List Value) (ts : List (List Value)) → fits columns row ≡ true → list_all (fits columns) ts ≡ true → list_all (fits columns) (with_row row ts) ≡ true
fit_with columns row [] h k = and_true _ _ h refl
fit_with columns row (t ∷ ts) h k = by (is_lt (key_cmp row t)) (fit_with columns row ts h (and_second _ _ k))
  where
    by : (b : Bool) → list_all (fits columns) (with_row row ts) ≡ true → list_all (fits columns) (cond b (row ∷ t ∷ ts) (t ∷ with_row row ts)) ≡ true
    by true m = and_true _ _ h k
    by false m = and_true _ _ (and_first _ _ k) m

-- rows that fit, with rising keys
record Tabled (columns : List Column) (table : List (List Value)) : Type 0 where
  fitting : list_all (fits columns) table ≡ true
  keyed : is_keyed table ≡ true

line_tabled : (columns : List Column) (line : Line) (table : List (List Value)) → FitsLine columns line → Tabled columns table → Tabled columns (after_line line table)
line_tabled columns (Put row) table f h = record { fitting = fit_with columns row _ f (fit_filtered columns _ table h.fitting); keyed = keyed_with row table h.keyed }
line_tabled columns (Change row) table f h = record { fitting = fit_with columns row _ f (fit_filtered columns _ table h.fitting); keyed = keyed_with row table h.keyed }
line_tabled columns (Remove key) table f h = record { fitting = fit_filtered columns _ table h.fitting; keyed = keyed_without (Some key) table h.keyed }

lines_tabled : (n : ℕ) (columns : List Column) (lines : List Line) (table after : List (List Value)) → FitLines columns lines → Tabled columns table → after_lines n lines table ≡ Ok after → Tabled columns after
lines_tabled n columns [] table after f h e = let is : table ≡ after = cc in record { fitting = ap (list_all (fits columns)) (sym is) ∙ h.fitting; keyed = ap is_keyed (sym is) ∙ h.keyed }
lines_tabled n columns (l ∷ ls) table after f h e =
    let (none, rest) = unfaulted (line_fault n l table) _ after e in
    lines_tabled (n + 1) columns ls (after_line l table) after f.1 (line_tabled columns l table f.0 h) rest

pub lines_make_tables : LinesMakeTables
lines_make_tables n columns lines table after f h e =
    let t = lines_tabled n columns lines table after f (record { fitting = and_first _ _ h; keyed = and_second _ _ h }) e in
    and_true _ _ t.fitting t.keyed
