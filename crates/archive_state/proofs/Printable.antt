-- Requests and foundings that break no rule have a payload.
use Rattle.std.proofs.Common.{◌≡◌, ℕ, zero, suc, ◌+◌, ◌<◌, ◌≤◌, ◌^◌, Bool, true, false, not, ◌||◌, cond, List, [], ◌∷◌, Option, Some, None, IsTrue, length, map, sum, refl, sym, ap, ◌∙◌, subst, arith}
use Rattle.std.specs.Prelude.{nat_le, nat_lt, max, is_none, option_map, if◌then◌else◌, ◌==◌}
use Rattle.std.specs.List.{AllByRecursion, list_all, list_any, position, position_or_len, sum_by}
use Rattle.std.specs.Option.{option_or}
use Rattle.std.specs.Ordering.{is_eq}
use Rattle.std.specs.declared.cmp.Ordering.{Ordering}
use Rattle.std.specs.declared.cmp.Ordering.TheVariants.{Less, Equal, Greater}
use Rattle.std.proofs.lemmas.Bool.Decides.{nat_tests}
use Rattle.std.proofs.lemmas.List.Elements.{recursion_from_All}
use Rattle.std.proofs.lemmas.List.Sums.{sum_by-cons, sum-map}
use Rattle.cite_schema.specs.Headings.{is_heading, is_name}
use Rattle.cite_schema.specs.Metadata.{are_creators, is_plain, is_plain_within, meta_fault}
use Rattle.cite_schema.specs.Queries.{column_of}
use Rattle.cite_schema.specs.Tables.{is_short}
use Rattle.cite_schema.specs.Values.{text_cmp}
use Rattle.cite_schema.specs.declared.value.Value.{Value}
use Rattle.cite_schema.specs.declared.value.Value.TheVariants as values
use Rattle.cite_schema.specs.declared.schema.Column.{Column}
use Rattle.cite_schema.specs.declared.condition.Cond.{Cond, out-Cond}
use Rattle.cite_schema.specs.declared.condition.Cond.TheOpen.{Cond-F, Lt, Le, Eq, Ne, Ge, Gt, Among, Prefix, AllOf, AnyOf, Not}
use Rattle.cite_schema.specs.declared.condition.Cond.TheFolds.{fold_out-Cond, map-Cond}
use Rattle.cite_schema.specs.declared.query.OnColumn.{OnColumn}
use Rattle.cite_schema.specs.declared.query.Asked.{Asked}
use Rattle.cite_schema.specs.declared.query.Along.{Along}
use Rattle.cite_schema.specs.declared.query.Query.{Query}
use Rattle.cite_schema.specs.declared.query.Meta.{Meta}
use Rattle.cite_schema.proofs.Orders.{text_exact}
use Rattle.cite_schema.proofs.Rising.{and_first, and_second}
use Rattle.cite_schema.proofs.WellNamed.{are_well_named}
use Rattle.subset_query.specs.declared.checks.QueryFault.{QueryFault}
use Rattle.subset_query.specs.declared.checks.QueryFault.TheVariants.{NoItems, TooManyParts, TooManyNodes, TooDeep, TextTooLong, ConditionTwice, WrongKind}
use Rattle.subset_query.specs.Checks.{nodes_of, nodes_step, greatest, depth_of, depth_step, all_pass, passes_step, has_too_many_parts, has_long_text, names_twice, unknown_in, is_wrong_kind, where_so, first_of, size_faults, column_faults, query_fault}
use Rattle.archive_model.proofs.Sound.{unmapped}
use Rattle.entry_codec.specs.Spellable.{held, FitsText, FitsList, FitsValue, FitsLayer, FitsCond, FitsOn, FitsQuery, FitsMeta}

at_most : (n m : ℕ) → nat_le n m ≡ true → n ≤ m
at_most n m h = grind (arith, nat_tests)

below_next : (n m : ℕ) → nat_le n m ≡ true → n < suc m
below_next n m h = let most = at_most n m h in omega arith

not_above : (n m : ℕ) → nat_lt m n ≡ false → n ≤ m
not_above n m h = grind (arith, nat_tests)

-- what holds of each that passes a test
all_by : {X : Type 0} (test : X → Bool) (P : X → Type 0) → ((x : X) → test x ≡ true → P x) → (xs : List X) → list_all test xs ≡ true → AllByRecursion P xs
all_by test P one [] h = tt
all_by test P one (x ∷ xs) h = (one x (and_first _ _ h), all_by test P one xs (and_second _ _ h))

-- what holds of each that does not fail a test
all_unless : {X : Type 0} (test : X → Bool) (P : X → Type 0) → ((x : X) → test x ≡ false → P x) → (xs : List X) → list_any test xs ≡ false → AllByRecursion P xs
all_unless test P one [] h = tt
all_unless test P one (x ∷ xs) h = (one x (neither _ _ h).0, all_unless test P one xs (neither _ _ h).1)
  where
    neither : (a b : Bool) → (a || b) ≡ false → (a ≡ false) × (b ≡ false)
    neither true b e = absurd (cc)
    neither false b e = (refl, e)

pub short_value : (v : Value) → is_short v ≡ true → FitsValue held v
short_value (values.Int z) h = tt
short_value (values.Text t) h = below_next (length t) 65535 h

some_nodes : (f : Cond-F ℕ) → 1 ≤ nodes_step f
some_nodes (Lt v) = omega arith
some_nodes (Le v) = omega arith
some_nodes (Eq v) = omega arith
some_nodes (Ne v) = omega arith
some_nodes (Ge v) = omega arith
some_nodes (Gt v) = omega arith
some_nodes (Among vs) = omega arith
some_nodes (Prefix p) = omega arith
some_nodes (AllOf ns) = omega arith
some_nodes (AnyOf ns) = omega arith
some_nodes (Not n) = omega arith

-- a condition has a node at least
has_node : (c : Cond) → 1 ≤ nodes_of c
has_node c = subst (λ n. 1 ≤ n) (sym (fold_out-Cond ℕ nodes_step c)) (some_nodes (map-Cond Cond ℕ nodes_of (out-Cond c)))

some_depth : (f : Cond-F ℕ) → 1 ≤ depth_step f
some_depth (Lt v) = omega arith
some_depth (Le v) = omega arith
some_depth (Eq v) = omega arith
some_depth (Ne v) = omega arith
some_depth (Ge v) = omega arith
some_depth (Gt v) = omega arith
some_depth (Among vs) = omega arith
some_depth (Prefix p) = omega arith
some_depth (AllOf ns) = omega arith
some_depth (AnyOf ns) = omega arith
some_depth (Not n) = omega arith

has_depth : (c : Cond) → 1 ≤ depth_of c
has_depth c = subst (λ n. 1 ≤ n) (sym (fold_out-Cond ℕ depth_step c)) (some_depth (map-Cond Cond ℕ depth_of (out-Cond c)))

sum_nodes : (c : Cond) (cs : List Cond) → sum (map nodes_of (c ∷ cs)) ≡ nodes_of c + sum (map nodes_of cs)
sum_nodes c cs = sum-map nodes_of (c ∷ cs) ∙ sum_by-cons nodes_of c cs ∙ ap (λ n. nodes_of c + n) (sym (sum-map nodes_of cs))

-- members have as many nodes as there are of them, at least
members_counted : (cs : List Cond) → length cs ≤ sum (map nodes_of cs)
members_counted [] = omega arith
members_counted (c ∷ cs) = let here = has_node c in let more = members_counted cs in let split = sum_nodes c cs in omega (arith, here, more, split)

left_most : (a b n : ℕ) → max a b ≤ n → (a ≤ n) × (b ≤ n)
left_most a b n h = (omega arith, omega arith)

-- what holds of each condition that is not too deep and not too large
abbrev Below : ℕ → Type 0
Below d = (c : Cond) → depth_of c ≤ d → nodes_of c ≤ 1024 → all_pass is_short c ≡ true → FitsCond held d c

members_fit : (d : ℕ) → Below d → (cs : List Cond) → greatest (map depth_of cs) ≤ d → sum (map nodes_of cs) ≤ 1024 → list_all (λ b. b) (map (all_pass is_short) cs) ≡ true → AllByRecursion (FitsCond held d) cs
members_fit d one [] deep many short = tt
members_fit d one (c ∷ cs) deep many short =
    let depths = left_most (depth_of c) (greatest (map depth_of cs)) d deep in
    let split = sum_nodes c cs in
    (one c depths.0 (omega (arith, many, split)) (and_first _ _ short), members_fit d one cs depths.1 (omega (arith, many, split)) (and_second _ _ short))

list_fits : (d : ℕ) → Below d → (cs : List Cond) → 1 + greatest (map depth_of cs) ≤ suc d → 1 + sum (map nodes_of cs) ≤ 1024 → list_all (λ b. b) (map (all_pass is_short) cs) ≡ true → FitsList (2 ^ 32) (FitsCond held d) cs
list_fits d one cs deep many short = let few = members_counted cs in (omega arith, members_fit d one cs (omega arith) (omega arith) short)

layer_fits : (d : ℕ) → Below d → (f : Cond-F Cond) → depth_step (map-Cond Cond ℕ depth_of f) ≤ suc d → nodes_step (map-Cond Cond ℕ nodes_of f) ≤ 1024
    → passes_step is_short (map-Cond Cond Bool (all_pass is_short) f) ≡ true → FitsLayer held (FitsCond held d) f
layer_fits d one (Lt v) deep many short = short_value v short
layer_fits d one (Le v) deep many short = short_value v short
layer_fits d one (Eq v) deep many short = short_value v short
layer_fits d one (Ne v) deep many short = short_value v short
layer_fits d one (Ge v) deep many short = short_value v short
layer_fits d one (Gt v) deep many short = short_value v short
layer_fits d one (Among vs) deep many short = (omega arith, all_by is_short (FitsValue held) short_value vs short)
layer_fits d one (Prefix p) deep many short = below_next (length p) 65535 short
layer_fits d one (AllOf cs) deep many short = list_fits d one cs deep many short
layer_fits d one (AnyOf cs) deep many short = list_fits d one cs deep many short
layer_fits d one (Not c) deep many short = one c (omega arith) (omega arith) short

cond_fits : (d : ℕ) → Below d
unfolding FitsCond
cond_fits zero c deep many short = let some = has_depth c in absurd (omega arith)
cond_fits (suc d) c deep many short =
    layer_fits d (cond_fits d) (out-Cond c) (subst (λ n. n ≤ suc d) (fold_out-Cond ℕ depth_step c) deep) (subst (λ n. n ≤ 1024) (fold_out-Cond ℕ nodes_step c) many)
    (sym (fold_out-Cond Bool (passes_step is_short) c) ∙ short)

-- where no element passes a test, none is found
none_passes : {X : Type 0} (p : X → Bool) (xs : List X) → nat_lt (position_or_len p xs) (length xs) ≡ false → list_any p xs ≡ false
none_passes p [] e = refl
none_passes p (x ∷ xs) e = by (p x) refl e (none_passes p xs)
  where
    next : (n m : ℕ) → nat_lt (1 + n) (suc m) ≡ false → nat_lt n m ≡ false
    next n m h = grind (arith, nat_tests)

    never : (n : ℕ) → nat_lt 0 (suc n) ≡ false → ⊥
    never n h = grind (arith, nat_tests)

    by : (b : Bool) → p x ≡ b → nat_lt (cond (not b) (1 + position_or_len p xs) 0) (suc (length xs)) ≡ false → (nat_lt (position_or_len p xs) (length xs) ≡ false → list_any p xs ≡ false)
        → (p x || list_any p xs) ≡ false
    by true t h more = absurd (never (length xs) h)
    by false t h more = ap (λ b. b || list_any p xs) t ∙ more (next (position_or_len p xs) (length xs) h)

none_found : {X : Type 0} (p : X → Bool) (xs : List X) → position p xs ≡ None → list_any p xs ≡ false
none_found p xs e = none_passes p xs (by (nat_lt (position_or_len p xs) (length xs)) e)
  where
    by : (b : Bool) → cond b (Some (position_or_len p xs)) None ≡ None → b ≡ false
    by true h = absurd (cc)
    by false h = refl

was_equal : (o : Ordering) → is_eq o ≡ true → o ≡ Equal
was_equal Less e = absurd (cc)
was_equal Equal e = refl
was_equal Greater e = absurd (cc)

-- the name of a column is short
pub named_short : (name : List ℕ) → is_name name ≡ true → length name ≤ 64
named_short name h = at_most (length name) 64 (and_first _ _ (and_second _ _ h))

known_at : (cs : List Column) (name : List ℕ) → AllByRecursion (λ c. IsTrue (is_name c.name)) cs → nat_lt (position_or_len (λ (c : Column). is_eq (text_cmp c.name name)) cs) (length cs) ≡ true → length name ≤ 64
known_at [] name named e = absurd (cc)
known_at (c ∷ cs) name named e = by (is_eq (text_cmp c.name name)) refl e (known_at cs name named.1)
  where
    next : (n m : ℕ) → nat_lt (1 + n) (suc m) ≡ true → nat_lt n m ≡ true
    next n m h = grind (arith, nat_tests)

    by : (b : Bool) → is_eq (text_cmp c.name name) ≡ b → nat_lt (cond (not b) (1 + position_or_len (λ (c : Column). is_eq (text_cmp c.name name)) cs) 0) (suc (length cs)) ≡ true
        → (nat_lt (position_or_len (λ (c : Column). is_eq (text_cmp c.name name)) cs) (length cs) ≡ true → length name ≤ 64) → length name ≤ 64
    by true t h more = subst (λ (n : List ℕ). length n ≤ 64) (text_exact c.name name (was_equal _ t)) (named_short c.name named.0)
    by false t h more = more (next (position_or_len (λ (c : Column). is_eq (text_cmp c.name name)) cs) (length cs) h)

pub known_short : (cs : List Column) (name : List ℕ) → IsTrue (is_heading cs) → is_none (column_of cs name) ≡ false → FitsText name
known_short cs name heading e =
    let short = known_at cs name (recursion_from_All (λ (c : Column). IsTrue (is_name c.name)) cs (are_well_named cs heading).named) (by (nat_lt (position_or_len (λ (c : Column). is_eq (text_cmp c.name name)) cs) (length cs)) e) in
    omega arith
  where
    by : (b : Bool) → is_none (cond b (Some (position_or_len (λ (c : Column). is_eq (text_cmp c.name name)) cs)) None) ≡ false → b ≡ true
    by true h = refl
    by false h = absurd (cc)

-- parts of a query that all name columns
parts_known : {X : Type 0} (cs : List Column) (part : ℕ) (name : X → List ℕ) (xs : List X) → IsTrue (is_heading cs) → unknown_in cs part name xs ≡ None → AllByRecursion (λ x. FitsText (name x)) xs
parts_known cs part name xs heading e =
    all_unless (λ x. is_none (column_of cs (name x))) (λ x. FitsText (name x)) (λ x h. known_short cs (name x) heading h) xs (none_found (λ x. is_none (column_of cs (name x))) xs (unmapped _ (position (λ x. is_none (column_of cs (name x))) xs) e))

both : {X : Type 0} (P Q : X → Type 0) (xs : List X) → AllByRecursion P xs → AllByRecursion Q xs → AllByRecursion (λ x. P x × Q x) xs
both P Q [] p q = tt
both P Q (x ∷ xs) p q = ((p.0, q.0), both P Q xs p.1 q.1)

weaker : {X : Type 0} (P Q : X → Type 0) → ((x : X) → P x → Q x) → (xs : List X) → AllByRecursion P xs → AllByRecursion Q xs
weaker P Q one [] p = tt
weaker P Q one (x ∷ xs) p = (one x p.0, weaker P Q one xs p.1)

each_at_most : {X : Type 0} (f : X → ℕ) (xs : List X) (n : ℕ) → sum_by f xs ≤ n → AllByRecursion (λ x. f x ≤ n) xs
each_at_most f [] n h = tt
each_at_most f (x ∷ xs) n h = let split = sum_by-cons f x xs in (omega (arith, split, h), each_at_most f xs n (omega (arith, split, h)))

-- none of five faults applies
five_off : (a b c d e : Option QueryFault) → first_of (a ∷ b ∷ c ∷ d ∷ e ∷ []) ≡ None → (a ≡ None) × (b ≡ None) × (c ≡ None) × (d ≡ None) × (e ≡ None)
five_off None None None None None h = (refl, refl, refl, refl, refl)
five_off (Some f) b c d e h = absurd (cc)
five_off None (Some f) c d e h = absurd (cc)
five_off None None (Some f) d e h = absurd (cc)
five_off None None None (Some f) e h = absurd (cc)
five_off None None None None (Some f) h = absurd (cc)

parted : (o p : Option QueryFault) → option_or o p ≡ None → (o ≡ None) × (p ≡ None)
parted None p h = (refl, h)
parted (Some f) p h = absurd (cc)

off : (b : Bool) (fault : QueryFault) → where_so b fault ≡ None → b ≡ false
off true fault h = absurd (cc)
off false fault h = refl

neither : (a b : Bool) → (a || b) ≡ false → (a ≡ false) × (b ≡ false)
neither true b e = absurd (cc)
neither false b e = (refl, e)

passed_not : (b : Bool) → not b ≡ false → b ≡ true
passed_not true h = refl
passed_not false h = absurd (cc)

-- a query that may be asked of columns has a spelling
pub checked_fits : (columns : List Column) (q : Query) → IsTrue (is_heading columns) → query_fault columns q ≡ None → FitsQuery held q
checked_fits columns q heading fault =
    let halves = parted (first_of (size_faults q)) (first_of (column_faults columns q)) fault in
    let sizes = five_off (where_so (length q.items == 0) NoItems) (where_so (has_too_many_parts q) TooManyParts) (where_so (nat_lt 1024 (sum_by (λ (o : OnColumn). nodes_of o.cond) q.conds)) TooManyNodes)
    (where_so (list_any (λ (o : OnColumn). nat_lt 32 (depth_of o.cond)) q.conds) TooDeep) (where_so (has_long_text q) TextTooLong) halves.0 in
    let names = five_off (where_so (names_twice q.conds) ConditionTwice) (unknown_in columns 1 (λ (o : OnColumn). o.column) q.conds) (unknown_in columns 2 (λ (a : Asked). a.column) q.items)
    (unknown_in columns 3 (λ (a : Along). a.column) q.order) (option_map (λ i. WrongKind i) (position (λ (o : OnColumn). is_wrong_kind columns o) q.conds)) halves.1 in
    let few = neither (nat_lt 128 (length q.items)) (nat_lt 128 (length q.order) || nat_lt 64 (length q.conds)) (off (has_too_many_parts q) TooManyParts sizes.1) in
    let few2 = neither (nat_lt 128 (length q.order)) (nat_lt 64 (length q.conds)) few.1 in
    let items_few = not_above (length q.items) 128 few.0 in let order_few = not_above (length q.order) 128 few2.0 in let conds_few = not_above (length q.conds) 64 few2.1 in
    let nodes = each_at_most (λ (o : OnColumn). nodes_of o.cond) q.conds 1024 (not_above (sum_by (λ (o : OnColumn). nodes_of o.cond) q.conds) 1024 (off (nat_lt 1024 (sum_by (λ (o : OnColumn). nodes_of o.cond) q.conds)) TooManyNodes sizes.2)) in
    let deep = all_unless (λ (o : OnColumn). nat_lt 32 (depth_of o.cond)) (λ o. depth_of o.cond ≤ 32) (λ o h. not_above (depth_of o.cond) 32 h) q.conds (off (list_any (λ (o : OnColumn). nat_lt 32 (depth_of o.cond)) q.conds) TooDeep sizes.3) in
    let long = neither (list_any (λ (o : OnColumn). not (all_pass is_short o.cond)) q.conds) (list_any (λ (a : Asked). nat_lt 65535 (length a.label)) q.items) (off (has_long_text q) TextTooLong sizes.4) in
    let short = all_unless (λ (o : OnColumn). not (all_pass is_short o.cond)) (λ o. all_pass is_short o.cond ≡ true) (λ o h. passed_not _ h) q.conds long.0 in
    let labels = all_unless (λ (a : Asked). nat_lt 65535 (length a.label)) (λ a. FitsText a.label) (λ a h. label_short a h) q.items long.1 in
    let conds_named = parts_known columns 1 (λ (o : OnColumn). o.column) q.conds heading names.1 in
    let items_named = parts_known columns 2 (λ (a : Asked). a.column) q.items heading names.2 in
    let order_named = parts_known columns 3 (λ (a : Along). a.column) q.order heading names.3 in
    let each = both _ _ q.conds conds_named (both _ _ q.conds deep (both _ _ q.conds nodes short)) in (
      (omega (arith, conds_few), weaker (λ (o : OnColumn). FitsText o.column × ((depth_of o.cond ≤ 32) × ((nodes_of o.cond ≤ 1024) × (all_pass is_short o.cond ≡ true)))) (FitsOn held) (λ o h. (h.0, cond_fits 32 o.cond h.1.0 h.1.1.0 h.1.1.1)) q.conds each),
      (omega (arith, items_few), both (λ (a : Asked). FitsText a.column) (λ a. FitsText a.label) q.items items_named labels),
      (omega (arith, order_few), order_named),
    )
  where
    label_short : (a : Asked) → nat_lt 65535 (length a.label) ≡ false → FitsText a.label
    label_short a h = let most = not_above (length a.label) 65535 h in omega arith

plain_short : (least most : ℕ) (t : List ℕ) → most < 2 ^ 16 → is_plain_within least most t ≡ true → FitsText t
plain_short least most t few h = let at : length t ≤ most = at_most (length t) most (and_second (nat_le least (length t)) (nat_le (length t) most) (and_second (is_plain t) _ h)) in omega (arith, at, few)

-- metadata that break no rule have a spelling
pub told_fits : (m : Meta) → meta_fault m ≡ None → FitsMeta m
told_fits m fault = by (are_creators m.creators) (is_plain_within 1 1024 m.title) (is_plain_within 0 4096 m.description) refl refl refl fault
  where
    by : (a b c : Bool) → are_creators m.creators ≡ a → is_plain_within 1 1024 m.title ≡ b → is_plain_within 0 4096 m.description ≡ c
        → (if a then (if b then (if◌then◌else◌ {A = Option ℕ} c None (Some 3)) else Some 2) else Some 1) ≡ None → FitsMeta m
    by true true true a b c h =
        let few : length m.creators ≤ 16 = at_most (length m.creators) 16 (and_first (nat_le (length m.creators) 16) (list_all (is_plain_within 1 1024) m.creators) (and_second (nat_le 1 (length m.creators)) _ a)) in (
          (omega (arith, few), all_by (is_plain_within 1 1024) FitsText (λ t k. plain_short 1 1024 t (omega arith) k) m.creators (and_second (nat_le (length m.creators) 16) (list_all (is_plain_within 1 1024) m.creators) (and_second (nat_le 1 (length m.creators)) _ a))),
          plain_short 1 1024 m.title (omega arith) b,
          plain_short 0 4096 m.description (omega arith) c,
        )
    by true true false a b c h = absurd (cc)
    by true false _ a b c h = absurd (cc)
    by false _ _ a b c h = absurd (cc)
