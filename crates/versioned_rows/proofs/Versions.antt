-- The next version.
use Rattle.std.proofs.Common.{◌≡◌, ◌⊎◌, inl, inr, ℕ, ◌≤◌, ◌<◌, ◌+◌, Bool, true, false, cond, ◌&&◌, ◌||◌, nat_le, List, [], ◌∷◌, ◌++◌, Option, Some, None, IsPermutation, map, length, slice_get, refl, sym, ap, ◌∙◌, subst, arith}
use Rattle.std.specs.Prelude.{Ok, min, ◌-◌, ◌^◌}
use Rattle.std.specs.List.{AllByRecursion}
use Rattle.std.specs.List.Sorted.{IsStrictlySortedBy}
use Rattle.std.specs.Option.{is_none, is_some}
use Rattle.std.specs.Ordering.{is_eq, ordering_reverse}
use Rattle.std.specs.declared.cmp.Ordering.{Ordering}
use Rattle.std.specs.declared.cmp.Ordering.TheVariants.{Less, Equal, Greater}
use Rattle.std.proofs.lemmas.Bool.{cases_lt}
use Rattle.cite_schema.specs.Lines.{brought}
use Rattle.cite_schema.specs.Tables.{key_cmp}
use Rattle.cite_schema.specs.declared.line.Line.{Line}
use Rattle.cite_schema.specs.declared.line.Line.TheVariants.{Put, Change, Remove}
use Rattle.cite_schema.proofs.Orders.{key_total}
use Rattle.stable_order.specs.Rows.{ToldApart}
use Rattle.shared_pages.specs.declared.edit.Edit.{Edit}
use Rattle.shared_pages.specs.Edits.{places, edited}
use Rattle.shared_pages.proofs.Editing.{edited_sorted}
use Rattle.shared_pages.proofs.Order.{map_all}
use Rattle.versioned_rows.specs.declared.fault.ApplyFault.{ApplyFault}
use Rattle.versioned_rows.specs.declared.fault.ApplyFault.TheVariants.{KeyTaken, KeyMissing, NoMemory}
use Rattle.versioned_rows.specs.declared.rows.KeptRow.{KeptRow}
use Rattle.versioned_rows.specs.Changes.{has_row_under, line_fault, after_lines}
use Rattle.versioned_rows.specs.ChangeLaws.{NameOwnKeys, HaveKeys}
use Rattle.versioned_rows.specs.Histories.{RowHistory, ends_after, rows_of, as_of, last_table}
use Rattle.versioned_rows.specs.Keeping.{kept_cmp, kept_total, IsEndOf, WasThere, IsHistory, IsRows}
use Rattle.versioned_rows.specs.Nexts.{IsNextByLines, TellsLine}
use Rattle.versioned_rows.specs.Parts.{open_at, finds, asked, fault_by, first_by, or_later, all_puts, all_removes}
use Rattle.versioned_rows.specs.Weights.{rows_weight}
use Rattle.versioned_rows.proofs.Applying.{IsReady, lines_after, edits_apart, lines_bound}
use Rattle.versioned_rows.proofs.Lines.{edit_of, first_fault, outcome, after_lines_is, own_keys}
use Rattle.versioned_rows.proofs.Looking.{none_free, found_ending}
use Rattle.versioned_rows.proofs.Stepping.{Row, rows_in, opened_by, opens, table_of-opens, IsFresh}
use Rattle.versioned_rows.proofs.Sums.{rows_weight-permutation, rows_weight-append}
use Rattle.versioned_rows.proofs.Tables.{table_of, as_of_is}

same_way : (o : Ordering) → is_eq (ordering_reverse o) ≡ is_eq o
same_way Less = refl
same_way Equal = refl
same_way Greater = refl

-- a key stands in the table where a row of it is found
key_found : (r : Row) (kept : List KeptRow) → has_row_under (slice_get r 0) (opens kept) ≡ is_some (open_at key_cmp r kept)
key_found r [] = refl
key_found r (k ∷ ks) = by k.until (key_found r ks)
  where
    turned_round : is_eq (key_cmp r k.row) ≡ is_eq (key_cmp k.row r)
    turned_round = ap is_eq (key_total.antisymm r k.row) ∙ same_way (key_cmp k.row r)

    test : (b : Bool) → has_row_under (slice_get r 0) (opens ks) ≡ is_some (open_at key_cmp r ks) → (b || has_row_under (slice_get r 0) (opens ks)) ≡ is_some (cond b (Some k) (open_at key_cmp r ks))
    test true more = refl
    test false more = more

    by : (o : Option ℕ) → has_row_under (slice_get r 0) (opens ks) ≡ is_some (open_at key_cmp r ks) → has_row_under (slice_get r 0) (opened_by o k.row ++ opens ks) ≡ is_some (cond (is_none o && is_eq (key_cmp k.row r)) (Some k) (open_at key_cmp r ks))
    by None more = ap (λ b. b || has_row_under (slice_get r 0) (opens ks)) turned_round ∙ test (is_eq (key_cmp k.row r)) more
    by (Some to) more = more

fault_same : (kept : List KeptRow) (n : ℕ) (l : Line) → line_fault n l (opens kept) ≡ fault_by n l (finds kept l)
fault_same kept n (Put r) = ap (λ b. cond b (Some (KeyTaken n)) None) (key_found r kept) ∙ by (open_at key_cmp r kept)
  where
    by : (o : Option KeptRow) → cond (is_some o) (Some (KeyTaken n)) None ≡ fault_by n (Put r) o
    by None = refl
    by (Some k) = refl
fault_same kept n (Change r) = ap (λ b. cond b None (Some (KeyMissing n))) (key_found r kept) ∙ by (open_at key_cmp r kept)
  where
    by : (o : Option KeptRow) → cond (is_some o) None (Some (KeyMissing n)) ≡ fault_by n (Change r) o
    by None = refl
    by (Some k) = refl
fault_same kept n (Remove v) = ap (λ b. cond b None (Some (KeyMissing n))) (key_found (v ∷ []) kept) ∙ by (open_at key_cmp (v ∷ []) kept)
  where
    by : (o : Option KeptRow) → cond (is_some o) None (Some (KeyMissing n)) ≡ fault_by n (Remove v) o
    by None = refl
    by (Some k) = refl

faults_same : (kept : List KeptRow) (n : ℕ) (lines : List Line) → first_fault n lines (opens kept) ≡ first_by (finds kept) n lines
faults_same kept n [] = refl
faults_same kept n (l ∷ ls) = ap (λ f. or_later f (first_fault (n + 1) ls (opens kept))) (fault_same kept n l) ∙ ap (or_later (fault_by n l (finds kept l))) (faults_same kept (n + 1) ls)

fresh : (kept : List KeptRow) (last : ℕ) (r : Row) → AllByRecursion (WasThere last) kept → IsFresh key_cmp key_total (last + 1) r kept
fresh kept last r b = map_all _ _ (λ k h e. let f = h.from in omega arith) kept b

ready_one : (kept : List KeptRow) (last n : ℕ) (l : Line) → AllByRecursion (WasThere last) kept → fault_by n l (finds kept l) ≡ None → IsReady key_cmp key_total (last + 1) kept l (finds kept l)
ready_one kept last n (Put r) b e = by (open_at key_cmp r kept) refl e
  where
    by : (o : Option KeptRow) → open_at key_cmp r kept ≡ o → fault_by n (Put r) o ≡ None → IsReady key_cmp key_total (last + 1) kept (Put r) (open_at key_cmp r kept)
    by None f e = (fresh kept last r b, none_free key_cmp key_total r kept f)
    by (Some k) f e = cc
ready_one kept last n (Change r) b e = by (open_at key_cmp r kept) refl e
  where
    by : (o : Option KeptRow) → open_at key_cmp r kept ≡ o → fault_by n (Change r) o ≡ None → IsReady key_cmp key_total (last + 1) kept (Change r) (open_at key_cmp r kept)
    by None f e = cc
    by (Some k) f e = subst (IsReady key_cmp key_total (last + 1) kept (Change r)) (sym f) (fresh kept last r b, found_ending key_cmp key_total r kept k f)
ready_one kept last n (Remove v) b e = by (open_at key_cmp (v ∷ []) kept) refl e
  where
    by : (o : Option KeptRow) → open_at key_cmp (v ∷ []) kept ≡ o → fault_by n (Remove v) o ≡ None → IsReady key_cmp key_total (last + 1) kept (Remove v) (open_at key_cmp (v ∷ []) kept)
    by None f e = cc
    by (Some k) f e = subst (IsReady key_cmp key_total (last + 1) kept (Remove v)) (sym f) (fresh kept last (v ∷ []) b, found_ending key_cmp key_total (v ∷ []) kept k f)

ready_all : (kept : List KeptRow) (last n : ℕ) (lines : List Line) → AllByRecursion (WasThere last) kept → first_by (finds kept) n lines ≡ None → AllByRecursion (λ l. IsReady key_cmp key_total (last + 1) kept l (finds kept l)) lines
ready_all kept last n [] b e = tt
ready_all kept last n (l ∷ ls) b e = by (fault_by n l (finds kept l)) refl (λ f. ready_all kept last (n + 1) ls b f) e
  where
    by : (o : Option ApplyFault) → fault_by n l (finds kept l) ≡ o → (first_by (finds kept) (n + 1) ls ≡ None → AllByRecursion (λ l. IsReady key_cmp key_total (last + 1) kept l (finds kept l)) ls)
        → or_later o (first_by (finds kept) (n + 1) ls) ≡ None → IsReady key_cmp key_total (last + 1) kept l (finds kept l) × AllByRecursion (λ l. IsReady key_cmp key_total (last + 1) kept l (finds kept l)) ls
    by None f more e = (ready_one kept last n l b f, more e)
    by (Some x) f more e = cc

-- a row that was there is there a version later
pub to_later : (last : ℕ) (k : KeptRow) → WasThere last k → WasThere (last + 1) k
to_later last k h = record { key = h.key; first = h.first; from = (let f = h.from in omega arith); until = by k.until h.until }
  where
    by : (o : Option ℕ) → IsEndOf o k.from last → IsEndOf o k.from (last + 1)
    by None u = tt
    by (Some to) u = (u.0, (let l = u.1 in omega arith))

-- versions that are to come have what no version ended
pub later_tables : (last v : ℕ) (kept : List KeptRow) → AllByRecursion (WasThere last) kept → last ≤ v → table_of v kept ≡ opens kept
later_tables last v kept h l = table_of-opens v kept (map_all _ _ (λ k w. later k w) kept h)
  where
    later : (k : KeptRow) → WasThere last k → WasThere v k
    later k w = record { key = w.key; first = w.first; from = (let f = w.from in omega arith); until = by k.until w.until }
      where
        by : (o : Option ℕ) → IsEndOf o k.from last → IsEndOf o k.from v
        by None u = tt
        by (Some to) u = (u.0, (let m = u.1 in omega arith))

-- what the edits of lines make of kept rows
pub record IsNext (kept new : List KeptRow) (last : ℕ) (lines : List Line) : Type 0 where
  pub history : IsHistory (record { last = last + 1; kept = new })
  pub table : table_of (last + 1) new ≡ edited key_cmp (table_of last kept) (map edit_of lines)
  pub before : (version : ℕ) → version ≤ last → table_of version new ≡ table_of version kept
  pub moved : IsPermutation (rows_in kept ++ brought lines) (rows_in new)
  pub counts : length (table_of (last + 1) new) + all_removes lines ≡ length (table_of last kept) + all_puts lines

pub asked_apart : (kept : List KeptRow) (last : ℕ) (lines : List Line) → IsHistory (record { last = last; kept = kept }) → NameOwnKeys lines → first_by (finds kept) 1 lines ≡ None
    → ToldApart (places kept_cmp) (asked (last + 1) kept lines)
asked_apart kept last lines h a f = edits_apart key_cmp key_total (finds kept) (last + 1) kept lines (ready_all kept last 1 lines h.there f) (own_keys lines a)

-- the last table of a history is in order
last_sorted : (kept : List KeptRow) (last : ℕ) → IsHistory (record { last = last; kept = kept }) → IsStrictlySortedBy key_cmp (opens kept)
last_sorted kept last h = subst (IsStrictlySortedBy key_cmp) (as_of_is last kept ∙ table_of-opens last kept h.there) (h.tables last)

pub next_version : (kept : List KeptRow) (last : ℕ) (lines : List Line) → IsHistory (record { last = last; kept = kept }) → NameOwnKeys lines → HaveKeys lines → first_by (finds kept) 1 lines ≡ None
    → IsNext kept (edited kept_cmp kept (asked (last + 1) kept lines)) last lines
next_version kept last lines h a k f =
    let new = edited kept_cmp kept (asked (last + 1) kept lines) in
    let ready = ready_all kept last 1 lines h.there f in
    let now : table_of last kept ≡ opens kept = table_of-opens last kept h.there in
    let sorted : IsStrictlySortedBy key_cmp (opens kept) = last_sorted kept last h in
    let after = lines_after key_cmp key_total (finds kept) (last + 1) kept lines ready (own_keys lines a) h.sorted sorted h.settled in
    let there : AllByRecursion (WasThere (last + 1)) new = lines_bound key_cmp key_total (finds kept) (last + 1) last kept lines (omega arith) (to_later last) k h.there ready in
    let then : table_of (last + 1) new ≡ opens new = table_of-opens (last + 1) new there in
    let rising : IsStrictlySortedBy key_cmp (opens new) = subst (IsStrictlySortedBy key_cmp) (sym after.rows) (edited_sorted key_cmp key_total (opens kept) (map edit_of lines) sorted) in
    record {
      history = record {
        sorted = edited_sorted kept_cmp kept_total kept (asked (last + 1) kept lines) h.sorted;
        there = there;
        settled = after.settled;
        tables = λ v. in_order new there rising after.before v (cases_lt v (last + 1));
      };
      table = then ∙ after.rows ∙ ap (λ t. edited key_cmp t (map edit_of lines)) (sym now);
      before = λ version l. after.before version (omega arith);
      moved = after.moved;
      counts = ap (λ t. length t + all_removes lines) then ∙ after.counts ∙ ap (λ t. length t + all_puts lines) (sym now);
    }
  where
    in_order : (new : List KeptRow) → AllByRecursion (WasThere (last + 1)) new → IsStrictlySortedBy key_cmp (opens new) → ((old : ℕ) → old < last + 1 → table_of old new ≡ table_of old kept)
        → (v : ℕ) → (v < last + 1) ⊎ (last + 1 ≤ v) → IsStrictlySortedBy key_cmp (as_of (record { last = last + 1; kept = new }) v)
    in_order new there rising before v (inl l) = subst (IsStrictlySortedBy key_cmp) (as_of_is v kept ∙ sym (before v l) ∙ sym (as_of_is v new)) (h.tables v)
    in_order new there rising before v (inr l) = subst (IsStrictlySortedBy key_cmp) (sym (as_of_is v new ∙ later_tables (last + 1) v new there l)) rising

-- as the rows of a version are seen, what lines do to its last table is the fault of the first that has one, or the edited table
pub after_lines_by : (kept : List KeptRow) (last : ℕ) (lines : List Line) → IsHistory (record { last = last; kept = kept }) → NameOwnKeys lines
    → after_lines 1 lines (last_table (record { last = last; kept = kept })) ≡ outcome (first_by (finds kept) 1 lines) (edited key_cmp (table_of last kept) (map edit_of lines))
after_lines_by kept last lines h a =
    let now : table_of last kept ≡ opens kept = table_of-opens last kept h.there in
    ap (after_lines 1 lines) (as_of_is last kept ∙ now) ∙ after_lines_is 1 lines (opens kept) a (last_sorted kept last h)
    ∙ ap (λ f. outcome f (edited key_cmp (opens kept) (map edit_of lines))) (faults_same kept 1 lines)
    ∙ ap (λ t. outcome (first_by (finds kept) 1 lines) (edited key_cmp t (map edit_of lines))) (sym now)

-- the next version, as it is seen
pub next_by_lines : (kept new : List KeptRow) (last : ℕ) (lines : List Line) → IsHistory (record { last = last; kept = kept }) → NameOwnKeys lines → first_by (finds kept) 1 lines ≡ None → IsNext kept new last lines
    → IsNextByLines lines (record { last = last; kept = kept }) (record { last = last + 1; kept = new })
next_by_lines kept new last lines h a f n = record {
  last = refl;
  table = after_lines_by kept last lines h a ∙ ap (λ o. outcome o (edited key_cmp (table_of last kept) (map edit_of lines))) f ∙ ap Ok (sym (as_of_is (last + 1) new ∙ n.table));
  past = λ v l. as_of_is v new ∙ n.before v l ∙ sym (as_of_is v kept);
  kept = n.moved;
}

-- a fault, as it is told
pub tells_line : (kept : List KeptRow) (last : ℕ) (lines : List Line) (fault : ApplyFault) → IsHistory (record { last = last; kept = kept }) → NameOwnKeys lines
    → (fault ≡ NoMemory) ⊎ (first_by (finds kept) 1 lines ≡ Some fault) → TellsLine lines (record { last = last; kept = kept }) fault
tells_line kept last lines fault h a (inl e) n = absurd (n e)
tells_line kept last lines fault h a (inr e) n = after_lines_by kept last lines h a ∙ ap (λ o. outcome o (edited key_cmp (table_of last kept) (map edit_of lines))) e

pub min_small : (n : ℕ) → n < 2 ^ 64 → min n (2 ^ 64 - 1) ≡ n
min_small n l = omega arith

-- the sums of the next version
pub next_rows : (kept new : List KeptRow) (last alive weight alive' weight' : ℕ) (lines : List Line) → IsRows (record { last = last; kept = kept }) alive weight → IsNext kept new last lines
    → alive' + all_removes lines ≡ alive + all_puts lines → weight' ≡ min (weight + rows_weight (brought lines)) (2 ^ 64 - 1) → rows_weight (rows_in kept ++ brought lines) < 2 ^ 64
    → IsRows (record { last = last + 1; kept = new }) alive' weight'
next_rows kept new last alive weight alive' weight' lines h n c w l =
    let counts = n.counts in
    let counted : alive ≡ length (table_of last kept) = h.counted ∙ ap length (as_of_is last kept) in
    let same : alive' ≡ length (table_of (last + 1) new) = omega arith in
    record {
      history = n.history;
      counted = same ∙ ap length (sym (as_of_is (last + 1) new));
      weighed =
          w ∙ ap (λ m. min (m + rows_weight (brought lines)) (2 ^ 64 - 1)) h.weighed ∙ ap (λ m. min m (2 ^ 64 - 1)) (sym (rows_weight-append (rows_in kept) (brought lines)))
          ∙ min_small (rows_weight (rows_in kept ++ brought lines)) l ∙ sym (rows_weight-permutation (rows_in kept ++ brought lines) (rows_in new) n.moved);
    }

-- no more rows are taken away than there are, and no more are there than are kept
pub counts_fit : (kept : List KeptRow) (last alive weight : ℕ) (lines : List Line) → IsRows (record { last = last; kept = kept }) alive weight → NameOwnKeys lines → HaveKeys lines → first_by (finds kept) 1 lines ≡ None
    → all_removes lines ≤ alive + all_puts lines
counts_fit kept last alive weight lines h a k f =
    let counts = (next_version kept last lines h.history a k f).counts in
    let counted : alive ≡ length (table_of last kept) = h.counted ∙ ap length (as_of_is last kept) in
    omega arith

shown_few : (version : ℕ) (kept : List KeptRow) → length (table_of version kept) ≤ length kept
shown_few version [] = omega arith
shown_few version (k ∷ ks) = by (nat_le k.from version && ends_after k.until version) (shown_few version ks)
  where
    by : (b : Bool) → length (table_of version ks) ≤ length ks → length (cond b (k.row ∷ []) [] ++ table_of version ks) ≤ length (k ∷ ks)
    by true l = omega arith
    by false l = omega arith

puts_few : (lines : List Line) → all_puts lines ≤ length (brought lines)
puts_few [] = omega arith
puts_few (Put r ∷ ls) = let more = puts_few ls in omega arith
puts_few (Change r ∷ ls) = let more = puts_few ls in omega arith
puts_few (Remove v ∷ ls) = let more = puts_few ls in omega arith

pub counts_room : (kept : List KeptRow) (last alive weight : ℕ) (lines : List Line) → IsRows (record { last = last; kept = kept }) alive weight → length kept + length (brought lines) < 2 ^ 64 → alive + all_puts lines < 2 ^ 64
counts_room kept last alive weight lines h l =
    let counted : alive ≡ length (table_of last kept) = h.counted ∙ ap length (as_of_is last kept) in
    let few = shown_few last kept in
    let puts = puts_few lines in
    omega arith

-- the same of lines and rows as they are read
pub room_seen : (h seen : RowHistory) (read lines : List Line) → h ≡ seen → read ≡ lines → length seen.kept + length (brought lines) < 2 ^ 64 → length h.kept + length (brought read) < 2 ^ 64
room_seen h seen read lines v e l = subst (λ w. length h.kept + length (brought w) < 2 ^ 64) (sym e) (subst (λ (s : RowHistory). length s.kept + length (brought lines) < 2 ^ 64) (sym v) l)

pub weight_seen : (h seen : RowHistory) (read lines : List Line) → h ≡ seen → read ≡ lines → rows_weight (rows_of seen ++ brought lines) < 2 ^ 64 → rows_weight (rows_of h ++ brought read) < 2 ^ 64
weight_seen h seen read lines v e l = subst (λ w. rows_weight (rows_of h ++ brought w) < 2 ^ 64) (sym e) (subst (λ (s : RowHistory). rows_weight (rows_of s ++ brought lines) < 2 ^ 64) (sym v) l)

-- what the edits of lines that go with the table make of kept rows
pub next_of : (kept new : List KeptRow) (last : ℕ) (read lines : List Line) (edits : List (Edit KeptRow)) → IsHistory (record { last = last; kept = kept }) → read ≡ lines → NameOwnKeys lines → HaveKeys lines
    → first_by (finds kept) 1 read ≡ None → edits ≡ asked (last + 1) kept read → new ≡ edited kept_cmp kept edits → IsNext kept new last read
next_of kept new last read lines edits h e a k f q n =
    subst (λ w. IsNext kept w last read) (sym (n ∙ ap (edited kept_cmp kept) q)) (next_version kept last read h (subst NameOwnKeys (sym e) a) (subst HaveKeys (sym e) k) f)
