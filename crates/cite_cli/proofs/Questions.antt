-- When the query of `select` may be asked: where its column is there and has numbers.
use Rattle.std.proofs.Common.{◌≡◌, ℕ, ℤ, zero, suc, ◌<◌, ◌≤◌, Bool, true, false, ◌&&◌, ◌||◌, ◌==◌, IsTrue, List, [], ◌∷◌, Option, Some, None, length, map, get_or, refl, sym, ap, ◌∙◌, arith}
use Rattle.std.specs.Prelude.{nat_lt, nat_le, is_none}
use Rattle.std.specs.List.{AllByRecursion, list_any, position, position_or_len, sum_by}
use Rattle.std.specs.Option.{option_map}
use Rattle.std.specs.Ordering.{is_eq}
use Rattle.std.proofs.lemmas.Bool.{lt-ltb, le-ltb}
use Rattle.std.proofs.lemmas.Bool.Decides.{nat_tests}
use Rattle.std.proofs.lemmas.List.{length-map}
use Rattle.std.proofs.lemmas.Option.{slice_get-get_or}
use Rattle.std.proofs.lemmas.Cmp.{tied_itself}
use Rattle.std.proofs.lemmas.List.Elements.{recursion_from_All}
use Rattle.std.proofs.lemmas.List.Quantifiers.{position-Some}
use Rattle.cite_schema.specs.Values.{text_cmp}
use Rattle.cite_schema.specs.Headings.{is_heading, is_name}
use Rattle.cite_schema.specs.Tables.{is_short}
use Rattle.cite_schema.specs.Queries.{column_of}
use Rattle.cite_schema.specs.declared.value.Kind.{Kind}
use Rattle.cite_schema.specs.declared.value.Kind.TheVariants as kinds
use Rattle.cite_schema.specs.declared.value.Value.{Value}
use Rattle.cite_schema.specs.declared.value.Value.TheVariants.{Int}
use Rattle.cite_schema.specs.declared.schema.Column.{Column}
use Rattle.cite_schema.specs.declared.condition.Cond.{Ge, Lt, AllOf}
use Rattle.cite_schema.specs.declared.condition.Cond.TheOpen as open_
use Rattle.cite_schema.specs.declared.condition.Cond.TheOpen.{Cond-F}
use Rattle.cite_schema.specs.declared.condition.Cond.TheVariants.{rolls-Ge, rolls-Lt}
use Rattle.cite_schema.specs.declared.condition.Cond.TheFolds.{fold-Cond, fold-roll-Cond}
use Rattle.cite_schema.specs.declared.query.OnColumn.{OnColumn}
use Rattle.cite_schema.specs.declared.query.Asked.{Asked}
use Rattle.cite_schema.proofs.Orders.{text_total}
use Rattle.cite_schema.proofs.WellNamed.{are_well_named}
use Rattle.subset_query.specs.Checks.{nodes_of, nodes_step, depth_of, depth_step, all_pass, passes_step, is_of_kind, kind_named, is_wrong_kind, first_of, size_faults, column_faults, query_fault}
use Rattle.subset_query.specs.declared.checks.QueryFault.{QueryFault}
use Rattle.subset_query.specs.declared.checks.QueryFault.TheVariants.{UnknownColumn, WrongKind}
use Rattle.subset_query.proofs.Faults.{five_faults}
use Rattle.subset_query.proofs.Folding.{fold-AllOf}
use Rattle.cite_cli.specs.declared.bounds.Bounds.{Bounds}
use Rattle.cite_cli.specs.declared.refusal.Refusal.TheVariants as refusals
use Rattle.cite_cli.specs.Refusals.{kind_fault}
use Rattle.cite_cli.specs.Select.{between, within, select_query}

-- The condition.

fold-Ge : (A : Type 0) (step : Cond-F A → A) (v : Value) → fold-Cond A step (Ge v) ≡ step (open_.Ge v)
fold-Ge A step v = ap (fold-Cond A step) (sym (rolls-Ge v)) ∙ fold-roll-Cond A step (open_.Ge v)

fold-Lt : (A : Type 0) (step : Cond-F A → A) (v : Value) → fold-Cond A step (Lt v) ≡ step (open_.Lt v)
fold-Lt A step v = ap (fold-Cond A step) (sym (rolls-Lt v)) ∙ fold-roll-Cond A step (open_.Lt v)

-- of two members
fold-both : (A : Type 0) (step : Cond-F A → A) (v w : Value) → fold-Cond A step (AllOf (Ge v ∷ Lt w ∷ [])) ≡ step (open_.AllOf (step (open_.Ge v) ∷ step (open_.Lt w) ∷ []))
fold-both A step v w =
    fold-AllOf A step (Ge v ∷ Lt w ∷ [])
    ∙ ap (λ a. step (open_.AllOf (a ∷ fold-Cond A step (Lt w) ∷ []))) (fold-Ge A step v)
    ∙ ap (λ a. step (open_.AllOf (step (open_.Ge v) ∷ a ∷ []))) (fold-Lt A step w)

few_nodes : (low : ℤ) (high : Option ℤ) → nodes_of (between low high) ≤ 3
few_nodes low None = let n = fold-Ge ℕ nodes_step (Int low) in omega (arith, n)
few_nodes low (Some high) = let n = fold-both ℕ nodes_step (Int low) (Int high) in omega (arith, n)

not_deep : (low : ℤ) (high : Option ℤ) → depth_of (between low high) ≤ 2
not_deep low None = let n = fold-Ge ℕ depth_step (Int low) in omega (arith, n)
not_deep low (Some high) = let n = fold-both ℕ depth_step (Int low) (Int high) in omega (arith, n)

-- what all numbers pass
all_numbers : (test : Value → Bool) → ((z : ℤ) → test (Int z) ≡ true) → (low : ℤ) (high : Option ℤ) → all_pass test (between low high) ≡ true
all_numbers test passes low None = fold-Ge Bool (passes_step test) (Int low) ∙ passes low
all_numbers test passes low (Some high) =
    fold-both Bool (passes_step test) (Int low) (Int high)
    ∙ ap (λ b. b && (test (Int high) && true)) (passes low)
    ∙ ap (λ b. b && true) (passes high)

-- and a kind that no number has
first_fails : (a b : Bool) → a ≡ false → (a && b) ≡ false
first_fails true b e = absurd (cc)
first_fails false b e = refl

no_number : (test : Value → Bool) → ((z : ℤ) → test (Int z) ≡ false) → (low : ℤ) (high : Option ℤ) → all_pass test (between low high) ≡ false
no_number test fails low None = fold-Ge Bool (passes_step test) (Int low) ∙ fails low
no_number test fails low (Some high) = fold-both Bool (passes_step test) (Int low) (Int high) ∙ first_fails (test (Int low)) (test (Int high) && true) (fails low)

-- The columns.

found_none : {X : Type 0} (p : X → Bool) (xs : List X) → AllByRecursion (λ x. p x ≡ false) xs → position_or_len p xs ≡ length xs
found_none p [] h = refl
found_none p (x ∷ xs) h = let more = found_none p xs h.1 in rw h.0 (omega (arith, more))

-- where none passes, there is no first that does
none_found : {X : Type 0} (p : X → Bool) (xs : List X) → AllByRecursion (λ x. p x ≡ false) xs → position p xs ≡ None
none_found p xs h = rw (found_none p xs h) (rw (le-ltb (length xs) (length xs) (omega arith)) refl)

found_first : {X : Type 0} (p : X → Bool) (xs : List X) (k : ℕ) (d : X) → k < length xs → p (get_or xs k d) ≡ true → position_or_len p xs < length xs
found_first p [] k d lt e = absurd (omega arith)
found_first p (x ∷ xs) k d lt e = by (p x) refl k lt e (found_first p xs)
  where
    by : (b : Bool) → p x ≡ b → (k : ℕ) → k < length (x ∷ xs) → p (get_or (x ∷ xs) k d) ≡ true → ((k : ℕ) (d : _) → k < length xs → p (get_or xs k d) ≡ true → position_or_len p xs < length xs) → position_or_len p (x ∷ xs) < length (x ∷ xs)
    by true h k lt e more = rw h (omega arith)
    by false h zero lt e more = absurd (cc)
    by false h (suc k) lt e more = let later = more k d (omega arith) e in rw h (omega (arith, later))

-- each column is found by its name
pub name_found : (columns : List Column) (k : ℕ) (d : Column) → k < length columns → is_none (column_of columns (get_or columns k d).name) ≡ false
name_found columns k d lt =
    let name = (get_or columns k d).name in
    let within = found_first (λ (c : Column). is_eq (text_cmp c.name name)) columns k d lt (ap is_eq (tied_itself text_total name)) in
    rw (lt-ltb _ _ within) refl

-- The sizes of the query.

few_columns : (columns : List Column) → is_heading columns ≡ true → (0 < length columns) × (length columns ≤ 64)
few_columns columns h = let good = are_well_named columns h in (good.some, good.few)

no_more : (n : ℕ) → n ≤ 64 → (nat_lt 128 n || (nat_lt 128 0 || nat_lt 64 1)) ≡ false
no_more n h = rw (le-ltb 128 n (omega arith)) refl

first_holds : (a b : Bool) → (a && b) ≡ true → a ≡ true
first_holds true b h = refl
first_holds false b h = absurd (cc)

second_holds : (a b : Bool) → (a && b) ≡ true → b ≡ true
second_holds true b h = h
second_holds false b h = absurd (cc)

at_most : (n m : ℕ) → nat_le n m ≡ true → n ≤ m
at_most n m h = grind (arith, nat_tests)

short_name : (name : List ℕ) → is_name name ≡ true → length name ≤ 64
short_name name h = at_most (length name) 64 (first_holds (nat_le (length name) 64) _ (second_holds (nat_lt 0 (length name)) _ h))

short_names : (columns : List Column) → AllByRecursion (λ c. IsTrue (is_name c.name)) columns → list_any (λ (a : Asked). nat_lt 65535 (length a.label)) (map (λ (c : Column). record { column = c.name; label = c.name }) columns) ≡ false
short_names [] h = refl
short_names (c ∷ cs) h = let short = short_name c.name h.0 in rw (le-ltb 65535 (length c.name) (omega arith)) (short_names cs h.1)

no_size_fault : (columns : List Column) (column : List ℕ) (bounds : Bounds) → is_heading columns ≡ true → first_of (size_faults (select_query columns column bounds)) ≡ None
no_size_fault columns column bounds h =
    let good = are_well_named columns h in
    let n = length-map columns (λ (c : Column). asked_by c) in
    let nodes = few_nodes bounds.low bounds.high in
    let depth = not_deep bounds.low bounds.high in
    rw (
      none_empty (map asked_by columns) (omega (arith, n, good.some)),
      no_more (length (map asked_by columns)) (omega (arith, n, good.few)),
      le-ltb 1024 (sum_by (λ o. nodes_of o.cond) (select_query columns column bounds).conds) (omega (arith, nodes)),
      le-ltb 32 (depth_of (within bounds)) (omega (arith, depth)),
      all_numbers is_short (λ z. refl) bounds.low bounds.high,
      short_names columns (recursion_from_All (λ c. IsTrue (is_name c.name)) columns good.named),
    ) refl
  where
    asked_by : Column → Asked
    asked_by c = record { column = c.name; label = c.name }

    none_empty : {X : Type 0} (xs : List X) → 0 < length xs → (length xs == 0) ≡ false
    none_empty xs lt = grind (arith, nat_tests)

-- The first fault of the query is that of its column.

one_found : {X : Type 0} (p : X → Bool) (x : X) → p x ≡ true → position p (x ∷ []) ≡ Some 0
one_found p x e = rw e refl

one_passed : {X : Type 0} (p : X → Bool) (x : X) → p x ≡ false → position p (x ∷ []) ≡ None
one_passed p x e = rw e refl

-- all columns are asked by their own names, so none is unknown
none_unknown : (columns : List Column) → position (λ (a : Asked). is_none (column_of columns a.column)) (map (λ (c : Column). record { column = c.name; label = c.name }) columns) ≡ None
none_unknown columns = none_found _ _ (each columns (λ k d lt. name_found columns k d lt))
  where
    each : (cs : List Column) → ((k : ℕ) (d : Column) → k < length cs → is_none (column_of columns (get_or cs k d).name) ≡ false)
        → AllByRecursion (λ (a : Asked). is_none (column_of columns a.column) ≡ false) (map (λ (c : Column). record { column = c.name; label = c.name }) cs)
    each [] h = tt
    each (c ∷ cs) h = (h 0 c (omega arith), each cs (λ k d lt. h (suc k) d (omega arith)))

-- the fault of a query on a column of this kind
pub asked_fault : Option Kind → Option QueryFault
asked_fault None = Some (UnknownColumn 1 0)
asked_fault (Some kinds.Text) = Some (WrongKind 0)
asked_fault (Some kinds.Int) = None

pub question_fault : (columns : List Column) (column : List ℕ) (bounds : Bounds) → is_heading columns ≡ true → query_fault columns (select_query columns column bounds) ≡ asked_fault (kind_named columns column)
unfolding asked_fault
question_fault columns column bounds h = rw (no_size_fault columns column bounds h) (by (column_of columns column) refl)
  where
    on : OnColumn
    on = record { column = column; cond = within bounds }

    by_kind : (k : Kind) → kind_named columns column ≡ Some k → option_map (λ i. WrongKind i) (position (λ o. is_wrong_kind columns o) (on ∷ [])) ≡ asked_fault (Some k)
    by_kind kinds.Int e =
        rw (one_passed (λ o. is_wrong_kind columns o) on (rw (e, all_numbers (is_of_kind kinds.Int) (λ z. refl) bounds.low bounds.high) refl)) refl
    by_kind kinds.Text e =
        rw (one_found (λ o. is_wrong_kind columns o) on (rw (e, no_number (is_of_kind kinds.Text) (λ z. refl) bounds.low bounds.high) refl)) refl

    by : (o : Option ℕ) → column_of columns column ≡ o → first_of (column_faults columns (select_query columns column bounds)) ≡ asked_fault (kind_named columns column)
    by None e = rw (one_found (λ (o : OnColumn). is_none (column_of columns o.column)) on (ap is_none e), e) refl
    by (Some i) e =
        let (within_columns, passes, before) = position-Some (λ (c : Column). is_eq (text_cmp c.name column)) columns i (record { name = []; kind = kinds.Int }) e in
        let there = slice_get-get_or columns i (record { name = []; kind = kinds.Int }) within_columns in
        let kind : kind_named columns column ≡ Some (get_or columns i (record { name = []; kind = kinds.Int })).kind = rw (e, there) refl in
        five_faults _ _ _ _ _ refl
        (ap (option_map (λ i. UnknownColumn 1 i)) (one_passed (λ (o : OnColumn). is_none (column_of columns o.column)) on (ap is_none e)))
        (ap (option_map (λ i. UnknownColumn 2 i)) (none_unknown columns))
        refl
        ∙ by_kind _ kind ∙ ap asked_fault (sym kind)

-- What it says of the column.

pub column_good : (kind : Option Kind) → asked_fault kind ≡ None → kind_fault kind ≡ None
unfolding asked_fault
column_good None e = absurd (cc)
column_good (Some kinds.Int) e = refl
column_good (Some kinds.Text) e = absurd (cc)

pub column_unknown : (kind : Option Kind) (part place : ℕ) → asked_fault kind ≡ Some (UnknownColumn part place) → kind_fault kind ≡ Some refusals.UnknownColumn
unfolding asked_fault
column_unknown None part place e = refl
column_unknown (Some kinds.Int) part place e = absurd (cc)
column_unknown (Some kinds.Text) part place e = absurd (cc)

pub column_of_texts : (kind : Option Kind) (place : ℕ) → asked_fault kind ≡ Some (WrongKind place) → kind_fault kind ≡ Some refusals.WrongKind
unfolding asked_fault
column_of_texts None place e = absurd (cc)
column_of_texts (Some kinds.Int) place e = absurd (cc)
column_of_texts (Some kinds.Text) place e = refl

-- there is no other fault
pub no_other : (kind : Option Kind) (fault : QueryFault) → asked_fault kind ≡ Some fault → ((part place : ℕ) → fault ≡ UnknownColumn part place → ⊥) → ((place : ℕ) → fault ≡ WrongKind place → ⊥) → ⊥
unfolding asked_fault
no_other None fault e unknown wrong = unknown 1 0 (cc)
no_other (Some kinds.Int) fault e unknown wrong = absurd (cc)
no_other (Some kinds.Text) fault e unknown wrong = wrong 0 (cc)
