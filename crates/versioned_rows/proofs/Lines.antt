-- What lines do to a table, as edits of it.
use Rattle.std.proofs.Common.{◌≡◌, ◌≢◌, ℕ, ◌+◌, Bool, true, false, not, cond, ◌||◌, List, [], ◌∷◌, Option, Some, None, map, slice_get, refl, sym, ap, ◌∙◌, subst}
use Rattle.std.specs.Prelude.{Ok, Err, Result}
use Rattle.std.specs.List.{AllByRecursion}
use Rattle.std.specs.List.Sorted.{IsStrictlySortedBy}
use Rattle.std.specs.Ordering.{is_eq, is_lt, match_ordering}
use Rattle.std.specs.declared.cmp.Ordering.{Ordering}
use Rattle.std.specs.declared.cmp.Ordering.TheVariants.{Less, Equal, Greater}
use Rattle.cite_schema.specs.Lines.{key_in}
use Rattle.cite_schema.specs.Tables.{cell_cmp, key_cmp}
use Rattle.cite_schema.specs.Tests.{unless}
use Rattle.cite_schema.specs.declared.line.Line.{Line}
use Rattle.cite_schema.specs.declared.line.Line.TheVariants.{Put, Change, Remove}
use Rattle.cite_schema.specs.declared.value.Value.{Value}
use Rattle.cite_schema.proofs.Orders.{key_total, cell_total}
use Rattle.stable_order.specs.Rows.{ToldApart}
use Rattle.shared_pages.specs.declared.edit.Edit.{Edit}
use Rattle.shared_pages.specs.declared.edit.Edit.TheVariants.{Put as put, Remove as remove}
use Rattle.shared_pages.specs.Edits.{place, changed, edited}
use Rattle.shared_pages.proofs.Editing.{changed_sorted}
use Rattle.shared_pages.proofs.Order.{turned, map_all}
use Rattle.versioned_rows.specs.declared.fault.ApplyFault.{ApplyFault}
use Rattle.versioned_rows.specs.declared.fault.ApplyFault.TheVariants.{KeyTaken, KeyMissing}
use Rattle.versioned_rows.specs.Changes.{is_under, has_row_under, without_key, with_row, after_line, line_fault, after_lines}
use Rattle.versioned_rows.specs.ChangeLaws.{NameOwnKeys}
use Rattle.versioned_rows.specs.Parts.{line_row, or_later}

-- what a line does to a table in key order
abbrev pub edit_of : Line → Edit (List Value)
edit_of (Put r) = put r
edit_of (Change r) = put r
edit_of (Remove v) = remove (v ∷ [])

-- the key of a line is that of its row
pub key_of_row : (l : Line) → slice_get (line_row l) 0 ≡ key_in l
key_of_row (Put r) = refl
key_of_row (Change r) = refl
key_of_row (Remove v) = refl

place_of : (l : Line) → place (edit_of l) ≡ line_row l
place_of (Put r) = refl
place_of (Change r) = refl
place_of (Remove v) = refl

-- the rows are under other keys, greater than this one
abbrev AreAbove : List Value → List (List Value) → Type 0
AreAbove r table = AllByRecursion (λ t. key_cmp r t ≡ Less) table

without-above : (r : List Value) (table : List (List Value)) → AreAbove r table → without_key (slice_get r 0) table ≡ table
without-above r [] h = refl
without-above r (t ∷ ts) h = ap (λ o. cond (not (is_eq o)) (t ∷ without_key (slice_get r 0) ts) (without_key (slice_get r 0) ts)) h.0 ∙ ap (λ l. t ∷ l) (without-above r ts h.1)

above_same : (r x : List Value) (table : List (List Value)) → key_cmp x r ≡ Equal → AreAbove x table → AreAbove r table
above_same r x table e h = map_all _ _ (λ t l. sym (key_total.congr x r t e) ∙ l) table h

above_below : (r x : List Value) (table : List (List Value)) → key_cmp r x ≡ Less → AreAbove x table → AreAbove r table
above_below r x table e h = map_all _ _ (λ t l. key_total.trans r x t e l) table h

with_first : (r : List Value) (table : List (List Value)) → AreAbove r table → with_row r table ≡ r ∷ table
with_first r [] h = refl
with_first r (t ∷ ts) h = ap (λ o. cond (is_lt o) (r ∷ t ∷ ts) (t ∷ with_row r ts)) h.0

-- a table in order without the row of a key, as an edit
without_is : (v : Value) (table : List (List Value)) → IsStrictlySortedBy key_cmp table → without_key (Some v) table ≡ changed key_cmp table (remove (v ∷ []))
unfolding IsStrictlySortedBy
without_is v [] s = refl
without_is v (x ∷ xs) s = by (key_cmp x r) refl (without_is v xs s.1)
  where
    r : List Value
    r = v ∷ []

    by : (o : Ordering) → key_cmp x r ≡ o → without_key (Some v) xs ≡ changed key_cmp xs (remove r)
        → cond (not (is_eq (key_cmp r x))) (x ∷ without_key (Some v) xs) (without_key (Some v) xs) ≡ match_ordering (key_cmp x r) (x ∷ changed key_cmp xs (remove r)) xs (x ∷ xs)
    by Less e more =
        ap (λ o. cond (not (is_eq o)) (x ∷ without_key (Some v) xs) (without_key (Some v) xs)) (turned key_cmp key_total x r Less e)
        ∙ ap (λ l. x ∷ l) more ∙ sym (ap (λ o. match_ordering o (x ∷ changed key_cmp xs (remove r)) xs (x ∷ xs)) e)
    by Equal e more =
        ap (λ o. cond (not (is_eq o)) (x ∷ without_key (Some v) xs) (without_key (Some v) xs)) (turned key_cmp key_total x r Equal e)
        ∙ without-above r xs (above_same r x xs e s.0) ∙ sym (ap (λ o. match_ordering o (x ∷ changed key_cmp xs (remove r)) xs (x ∷ xs)) e)
    by Greater e more =
        let low = turned key_cmp key_total x r Greater e in
        ap (λ o. cond (not (is_eq o)) (x ∷ without_key (Some v) xs) (without_key (Some v) xs)) low
        ∙ ap (λ l. x ∷ l) (without-above r xs (above_below r x xs low s.0)) ∙ sym (ap (λ o. match_ordering o (x ∷ changed key_cmp xs (remove r)) xs (x ∷ xs)) e)

-- a table in order with a row in the place of the one of its key, as an edit
with_is : (r : List Value) (table : List (List Value)) → IsStrictlySortedBy key_cmp table → with_row r (without_key (slice_get r 0) table) ≡ changed key_cmp table (put r)
unfolding IsStrictlySortedBy
with_is r [] s = refl
with_is r (x ∷ xs) s = by (key_cmp x r) refl (with_is r xs s.1)
  where
    left : List (List Value)
    left = without_key (slice_get r 0) xs

    by : (o : Ordering) → key_cmp x r ≡ o → with_row r (without_key (slice_get r 0) xs) ≡ changed key_cmp xs (put r)
        → with_row r (cond (not (is_eq (key_cmp r x))) (x ∷ without_key (slice_get r 0) xs) (without_key (slice_get r 0) xs)) ≡ match_ordering (key_cmp x r) (x ∷ changed key_cmp xs (put r)) (r ∷ xs) (r ∷ x ∷ xs)
    by Less e more =
        let high = turned key_cmp key_total x r Less e in
        ap (λ o. with_row r (cond (not (is_eq o)) (x ∷ left) left)) high ∙ ap (λ o. cond (is_lt o) (r ∷ x ∷ left) (x ∷ with_row r left)) high
        ∙ ap (λ l. x ∷ l) more ∙ sym (ap (λ o. match_ordering o (x ∷ changed key_cmp xs (put r)) (r ∷ xs) (r ∷ x ∷ xs)) e)
    by Equal e more =
        let above = above_same r x xs e s.0 in
        ap (λ o. with_row r (cond (not (is_eq o)) (x ∷ left) left)) (turned key_cmp key_total x r Equal e)
        ∙ ap (with_row r) (without-above r xs above) ∙ with_first r xs above ∙ sym (ap (λ o. match_ordering o (x ∷ changed key_cmp xs (put r)) (r ∷ xs) (r ∷ x ∷ xs)) e)
    by Greater e more =
        let low = turned key_cmp key_total x r Greater e in
        ap (λ o. with_row r (cond (not (is_eq o)) (x ∷ left) left)) low ∙ ap (λ o. cond (is_lt o) (r ∷ x ∷ left) (x ∷ with_row r left)) low
        ∙ ap (λ l. r ∷ x ∷ l) (without-above r xs (above_below r x xs low s.0)) ∙ sym (ap (λ o. match_ordering o (x ∷ changed key_cmp xs (put r)) (r ∷ xs) (r ∷ x ∷ xs)) e)

line_is : (l : Line) (table : List (List Value)) → IsStrictlySortedBy key_cmp table → after_line l table ≡ changed key_cmp table (edit_of l)
line_is (Put r) table s = with_is r table s
line_is (Change r) table s = with_is r table s
line_is (Remove v) table s = without_is v table s

-- a key is there after a line of another key where it was there before
has_after : (key other : Option Value) (table : List (List Value)) → cell_cmp other key ≢ Equal → has_row_under key (without_key other table) ≡ has_row_under key table
has_after key other [] n = refl
has_after key other (t ∷ ts) n = by (cell_cmp other (slice_get t 0)) refl (has_after key other ts n)
  where
    apart : cell_cmp other (slice_get t 0) ≡ Equal → is_eq (cell_cmp key (slice_get t 0)) ≡ false
    apart e = differ (cell_cmp key (slice_get t 0)) refl
      where
        differ : (o : Ordering) → cell_cmp key (slice_get t 0) ≡ o → is_eq o ≡ false
        differ Less f = refl
        differ Equal f = absurd (n (cell_total.congr other (slice_get t 0) key e ∙ turned cell_cmp cell_total key (slice_get t 0) Equal f))
        differ Greater f = refl

    by : (o : Ordering) → cell_cmp other (slice_get t 0) ≡ o → has_row_under key (without_key other ts) ≡ has_row_under key ts
        → has_row_under key (cond (not (is_eq (cell_cmp other (slice_get t 0)))) (t ∷ without_key other ts) (without_key other ts)) ≡ has_row_under key (t ∷ ts)
    by Less e more = ap (λ o. has_row_under key (cond (not (is_eq o)) (t ∷ without_key other ts) (without_key other ts))) e ∙ ap (λ b. is_under key t || b) more
    by Equal e more = ap (λ o. has_row_under key (cond (not (is_eq o)) (t ∷ without_key other ts) (without_key other ts))) e ∙ more ∙ sym (ap (λ b. b || has_row_under key ts) (apart e))
    by Greater e more = ap (λ o. has_row_under key (cond (not (is_eq o)) (t ∷ without_key other ts) (without_key other ts))) e ∙ ap (λ b. is_under key t || b) more

-- the same of a row that is put
has_with : (key : Option Value) (r : List Value) (table : List (List Value)) → cell_cmp (slice_get r 0) key ≢ Equal → has_row_under key (with_row r table) ≡ has_row_under key table
has_with key r table n = by table
  where
    other : is_under key r ≡ false
    other = differ (cell_cmp key (slice_get r 0)) refl
      where
        differ : (o : Ordering) → cell_cmp key (slice_get r 0) ≡ o → is_eq o ≡ false
        differ Less f = refl
        differ Equal f = absurd (n (turned cell_cmp cell_total key (slice_get r 0) Equal f))
        differ Greater f = refl

    by : (table : List (List Value)) → has_row_under key (with_row r table) ≡ has_row_under key table
    by [] = ap (λ b. b || false) other
    by (t ∷ ts) = at (is_lt (key_cmp r t)) (by ts)
      where
        at : (b : Bool) → has_row_under key (with_row r ts) ≡ has_row_under key ts → has_row_under key (cond b (r ∷ t ∷ ts) (t ∷ with_row r ts)) ≡ has_row_under key (t ∷ ts)
        at true more = ap (λ b. b || has_row_under key (t ∷ ts)) other
        at false more = ap (λ b. is_under key t || b) more

has_line : (key : Option Value) (l : Line) (table : List (List Value)) → cell_cmp (key_in l) key ≢ Equal → has_row_under key (after_line l table) ≡ has_row_under key table
has_line key (Put r) table n = has_with key r (without_key (slice_get r 0) table) n ∙ has_after key (slice_get r 0) table n
has_line key (Change r) table n = has_with key r (without_key (slice_get r 0) table) n ∙ has_after key (slice_get r 0) table n
has_line key (Remove v) table n = has_after key (Some v) table n

-- the faults of lines, each against the same table
abbrev pub first_fault : ℕ → List Line → List (List Value) → Option ApplyFault
first_fault n [] table = None
first_fault n (l ∷ ls) table = or_later (line_fault n l table) (first_fault (n + 1) ls table)

same_fault : (n : ℕ) (l : Line) (table other : List (List Value)) → has_row_under (key_in l) table ≡ has_row_under (key_in l) other → line_fault n l table ≡ line_fault n l other
same_fault n (Put r) table other e = ap (λ b. cond b (Some (KeyTaken n)) None) e
same_fault n (Change r) table other e = ap (λ b. cond b None (Some (KeyMissing n))) e
same_fault n (Remove v) table other e = ap (λ b. cond b None (Some (KeyMissing n))) e

same_faults : (n : ℕ) (l : Line) (ls : List Line) (table : List (List Value)) → AllByRecursion (λ m. cell_cmp (key_in l) (key_in m) ≢ Equal) ls → first_fault n ls (after_line l table) ≡ first_fault n ls table
same_faults n l [] table h = refl
same_faults n l (m ∷ ms) table h =
    ap (λ f. or_later f (first_fault (n + 1) ms (after_line l table))) (same_fault n m (after_line l table) table (has_line (key_in m) l table h.0))
    ∙ ap (or_later (line_fault n m table)) (same_faults (n + 1) l ms table h.1)

-- what follows from the first fault: the fault, or the table after all edits
abbrev pub outcome : Option ApplyFault → List (List Value) → Result (List (List Value)) ApplyFault
outcome None table = Ok table
outcome (Some fault) table = Err fault

-- where no two lines name one key, the faults stand against the table before all of them
pub after_lines_is : (n : ℕ) (lines : List Line) (table : List (List Value)) → NameOwnKeys lines → IsStrictlySortedBy key_cmp table
    → after_lines n lines table ≡ outcome (first_fault n lines table) (edited key_cmp table (map edit_of lines))
after_lines_is n [] table a s = refl
after_lines_is n (l ∷ ls) table a s =
    by (line_fault n l table)
    (after_lines_is (n + 1) ls (after_line l table) a.1 (subst (IsStrictlySortedBy key_cmp) (sym (line_is l table s)) (changed_sorted key_cmp key_total table (edit_of l) s))
    ∙ ap (λ f. outcome f (edited key_cmp (after_line l table) (map edit_of ls))) (same_faults (n + 1) l ls table a.0)
    ∙ ap (λ t. outcome (first_fault (n + 1) ls table) (edited key_cmp t (map edit_of ls))) (line_is l table s))
  where
    by : (o : Option ApplyFault) → after_lines (n + 1) ls (after_line l table) ≡ outcome (first_fault (n + 1) ls table) (edited key_cmp (changed key_cmp table (edit_of l)) (map edit_of ls))
        → unless o (after_lines (n + 1) ls (after_line l table)) ≡ outcome (or_later o (first_fault (n + 1) ls table)) (edited key_cmp (changed key_cmp table (edit_of l)) (map edit_of ls))
    by None more = more
    by (Some fault) more = refl

-- lines that name their own keys have rows that are told apart
pub own_keys : (lines : List Line) → NameOwnKeys lines → ToldApart (λ l m c. key_cmp (line_row l) (line_row m)) lines
own_keys [] a = tt
own_keys (l ∷ ls) a = (map_all _ _ (λ m n e. n (sym (ap (λ k. cell_cmp k (key_in m)) (key_of_row l)) ∙ sym (ap (cell_cmp (slice_get (line_row l) 0)) (key_of_row m)) ∙ e)) ls a.0, own_keys ls a.1)
