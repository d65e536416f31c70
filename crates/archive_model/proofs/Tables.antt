-- The present tables of a version that stands on older ones.
use Rattle.std.proofs.Common.{◌≡◌, ℕ, zero, suc, ◌+◌, ◌<◌, ◌≤◌, Bool, true, false, ◌⊎◌, inl, inr, List, [], ◌∷◌, Option, Some, None, IsTrue, length, map, slice_get, refl, sym, ap, ◌∙◌, subst, arith, cond}
use Rattle.std.specs.Prelude.{◌==◌, option_map, is_none, if◌then◌else◌}
use Rattle.std.specs.List.{list_all, find}
use Rattle.std.specs.Option.{option_and_then, option_or}
use Rattle.std.proofs.lemmas.Bool.{cases_lt}
use Rattle.std.proofs.lemmas.Bool.Decides.{nat_tests}
use Rattle.cite_schema.specs.declared.value.Value.{Value}
use Rattle.cite_schema.specs.declared.schema.Column.{Column}
use Rattle.cite_schema.specs.declared.line.Line.{Line}
use Rattle.cite_schema.specs.Tables.{fits, is_table}
use Rattle.cite_schema.specs.TableTexts.{before, all_some}
use Rattle.cite_schema.proofs.Rising.{and_first, and_second}
use Rattle.versioned_rows.specs.Histories.{first_version, lost_key}
use Rattle.archive_model.specs.Archives.{Version, Maker, ByFounding, ByBatch, ByMigration, carried_by, all_carried_by, table_in}
use Rattle.archive_model.specs.ArchiveLaws.{HasTable}

-- a batch makes nothing else of rows
pub batch_carries : (columns : List Column) (curator : List ℕ) (number : ℕ) (digest : List ℕ) (lines : List Line) (rows : List (List Value)) → all_carried_by columns (ByBatch curator number digest lines) rows ≡ Some rows
batch_carries columns curator number digest lines [] = refl
batch_carries columns curator number digest lines (r ∷ rs) = ap (before (Some r)) (batch_carries columns curator number digest lines rs)

same_number : (n : ℕ) → (n == n) ≡ true
same_number n = grind (arith, nat_tests)

other_number : (n k : ℕ) → n ≤ k + 1 → (n == suc k + 1) ≡ false
other_number n k h = grind (arith, nat_tests)

-- the last version has its own table
pub last_table_in : (v : Version) (ws : List Version) → table_in v ws (length ws + 1) ≡ Some v.table
last_table_in v [] = refl
last_table_in v (w ∷ ws) = rw (same_number (length (w ∷ ws) + 1)) refl

-- an older one has the table that it had, carried on
pub older_table_in : (v w : Version) (ws : List Version) (n : ℕ) → n ≤ length ws + 1 → table_in v (w ∷ ws) n ≡ option_and_then (all_carried_by w.schema.columns v.maker) (table_in w ws n)
older_table_in v w ws n h = rw (other_number n (length ws) h) refl

pub older_or_last : (n k : ℕ) → n ≤ suc k + 1 → (n ≤ k + 1) ⊎ (n ≡ suc k + 1)
older_or_last n k h = by (cases_lt (k + 1) n)
  where
    by : (k + 1 < n) ⊎ (n ≤ k + 1) → (n ≤ k + 1) ⊎ (n ≡ suc k + 1)
    by (inl l) = inr (omega arith)
    by (inr l) = inl l

-- where each older table is carried, each version has a table
pub grown_tables : (v w : Version) (ws : List Version) → ((n : ℕ) → 1 ≤ n → n ≤ length ws + 1 → HasTable w ws n) → IsTrue (is_table v.schema.columns v.table)
    → ((n : ℕ) (h : HasTable w ws n) → 1 ≤ n → n ≤ length ws + 1 → (t : List (List Value)) × (all_carried_by w.schema.columns v.maker h.table ≡ Some t) × IsTrue (is_table v.schema.columns t))
    → (n : ℕ) → 1 ≤ n → n ≤ length (w ∷ ws) + 1 → HasTable v (w ∷ ws) n
grown_tables v w ws old own carry n from to = by (older_or_last n (length ws) to)
  where
    by : (n ≤ length ws + 1) ⊎ (n ≡ suc (length ws) + 1) → HasTable v (w ∷ ws) n
    by (inl le) =
        let h = old n from le in
        let (t, is, fit) = carry n h from le in
        record { table = t; is = older_table_in v w ws n le ∙ ap (option_and_then (all_carried_by w.schema.columns v.maker)) h.is ∙ is; fits = fit }
    by (inr e) = record { table = v.table; is = ap (table_in v (w ∷ ws)) e ∙ last_table_in v (w ∷ ws); fits = own }

some_key : (columns : List Column) (r : List Value) → 0 < length columns → fits columns r ≡ true → (k : Value) × (slice_get r 0 ≡ Some k)
some_key [] r some h = absurd (omega arith)
some_key (c ∷ cs) [] some h = absurd (cc)
some_key (c ∷ cs) (v ∷ vs) some h = (v, refl)

was_none : {A : Type 0} (o : Option A) → is_none o ≡ false → (x : A) × (o ≡ Some x)
was_none None h = absurd (cc)
was_none (Some x) h = (x, refl)

-- where no row is lost, each is carried
pub none_lost : (columns : List Column) (rule : List Value → Option (List Value)) (rows : List (List Value)) → 0 < length columns → list_all (fits columns) rows ≡ true → lost_key rule rows ≡ None
    → (t : List (List Value)) × (all_some (map rule rows) ≡ Some t)
none_lost columns rule [] some h e = ([], refl)
none_lost columns rule (r ∷ rs) some h e = by (is_none (rule r)) refl e (λ f. none_lost columns rule rs some (and_second _ _ h) f)
  where
    by : (b : Bool) → is_none (rule r) ≡ b → option_and_then (λ (q : List Value). slice_get q 0) (cond b (Some r) (find (λ q. is_none (rule q)) rs)) ≡ None
        → (lost_key rule rs ≡ None → (t : List (List Value)) × (all_some (map rule rs) ≡ Some t)) → (t : List (List Value)) × (all_some (map rule (r ∷ rs)) ≡ Some t)
    by true n e more = let (k, is) = some_key columns r some (and_first _ _ h) in let c : Some k ≡ None = sym is ∙ e in absurd (cc)
    by false n e more =
        let (q, is) = was_none (rule r) n in
        let (t, are) = more e in
        (q ∷ t, ap (λ o. before o (all_some (map rule rs))) is ∙ ap (before (Some q)) are)

sooner_or_now : (k n : ℕ) → k ≤ suc n → (k ≤ n) ⊎ (k ≡ suc n)
sooner_or_now k n to = by (cases_lt n k)
  where
    by : (n < k) ⊎ (k ≤ n) → (k ≤ n) ⊎ (k ≡ suc n)
    by (inl l) = inr (omega arith)
    by (inr l) = inl l

-- where there is neither of two, there is not the first and not the second
neither : {A B : Type 0} (f : A → B) (o : Option B) (p : Option A) → option_or o (option_map f p) ≡ None → (o ≡ None) × (p ≡ None)
neither f (Some u) p e = absurd (cc)
neither f None (Some x) e = absurd (cc)
neither f None None e = (refl, refl)

-- where nothing is found in any version up to n, nothing is found in one of them
pub none_first : {A : Type 0} (n : ℕ) (found : ℕ → Option A) → first_version n found ≡ None → (k : ℕ) → 1 ≤ k → k ≤ n → found k ≡ None
none_first zero found e k from to = absurd (omega arith)
none_first {A} (suc n) found e k from to =
    let (sooner, now) = neither (λ (x : A). (suc n, x)) (first_version n found) (found (suc n)) e in
    by now (sooner_or_now k n to) (λ le. none_first n found sooner k from le)
  where
    by : found (suc n) ≡ None → (k ≤ n) ⊎ (k ≡ suc n) → (k ≤ n → found k ≡ None) → found k ≡ None
    by now (inl le) more = more le
    by now (inr is) more = ap found is ∙ now
