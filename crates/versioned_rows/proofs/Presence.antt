-- Each kept row is in the table of the version that brought it.
use Rattle.std.proofs.Common.{◌≡◌, ℕ, ◌<◌, ◌≤◌, Bool, true, cond, ◌&&◌, nat_le, nat_lt, List, [], ◌∷◌, ◌++◌, Option, Some, None, map, filter, refl, sym, ap, ◌∙◌, subst, arith}
use Rattle.std.specs.List.{AllByRecursion, Contains}
use Rattle.std.proofs.lemmas.Bool.Decides.{nat_tests}
use Rattle.std.proofs.lemmas.List.{append_assoc}
use Rattle.std.proofs.lemmas.List.Elements.{Contains-append_left, Contains-append_right, Contains-push}
use Rattle.cite_schema.specs.declared.value.Value.{Value}
use Rattle.versioned_rows.specs.declared.rows.KeptRow.{KeptRow}
use Rattle.versioned_rows.specs.Histories.{RowHistory, rows_of, as_of, ends_after, is_in_version}
use Rattle.versioned_rows.specs.Keeping.{IsEndOf, WasThere}
use Rattle.versioned_rows.specs.Presence.{WasInTable}
use Rattle.versioned_rows.proofs.Tables.{shown, table_of, as_of_is}

own : (n : ℕ) → nat_le n n ≡ true
own n = grind (arith, nat_tests)

later : (n m : ℕ) → n < m → nat_lt n m ≡ true
later n m h = grind (arith, nat_tests)

-- a row that ended, ended after the version that brought it
not_ended : (until : Option ℕ) (from last : ℕ) → IsEndOf until from last → ends_after until from ≡ true
not_ended None from last h = refl
not_ended (Some until) from last h = later from until h.0

-- a row is in the version that brought it
in_own : (last : ℕ) (k : KeptRow) → WasThere last k → (nat_le k.from k.from && ends_after k.until k.from) ≡ true
in_own last k there = ap (λ b. b && ends_after k.until k.from) (own k.from) ∙ not_ended k.until k.from last there.until

-- a row that is in a version is in its table
has_row : (v : ℕ) (before : List KeptRow) (k : KeptRow) (ks : List KeptRow) → (nat_le k.from v && ends_after k.until v) ≡ true → Contains (table_of v (before ++ k ∷ ks)) k.row
has_row v [] k ks is = subst (λ b. Contains (cond b (k.row ∷ []) [] ++ table_of v ks) k.row) (sym is) (Contains-append_left (k.row ∷ []) (table_of v ks) k.row (Contains-push [] k.row))
has_row v (b ∷ bs) k ks is = Contains-append_right (shown v b) (table_of v (bs ++ k ∷ ks)) k.row (has_row v bs k ks is)

-- so it is of each of some last kept rows
all_were : (h : RowHistory) (before ks : List KeptRow) → h.kept ≡ before ++ ks → AllByRecursion (WasThere h.last) ks → AllByRecursion (WasInTable h) (map (λ (k : KeptRow). k.row) ks)
all_were h before [] e there = tt
all_were h before (k ∷ ks) e there = (
  record {
    version = k.from;
    from = there.0.first;
    to = there.0.from;
    has = subst (λ l. Contains (map (λ (k : KeptRow). k.row) (filter (is_in_version k.from) l)) k.row) (sym e)
        (subst (λ t. Contains t k.row) (sym (as_of_is k.from (before ++ k ∷ ks))) (has_row k.from before k ks (in_own h.last k there.0)));
  },
  all_were h (before ++ k ∷ []) ks (e ∙ sym (append_assoc before (k ∷ []) ks)) there.1,
)

-- and of all
pub rows_were : (h : RowHistory) → AllByRecursion (WasThere h.last) h.kept → AllByRecursion (WasInTable h) (rows_of h)
rows_were h there = all_were h [] h.kept refl there
