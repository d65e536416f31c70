-- Kept rows that calls turn into others one by one, and the first one for which a call gave nothing.
use Rattle.std.proofs.Common.{append_assoc, ◌≡◌, inl, inr, ℕ, suc, ◌+◌, ◌-◌, ◌^◌, ◌≤◌, ◌<◌, Bool, true, false, cond, ◌&&◌, nat_le, nat_lt, List, [], ◌∷◌, ◌++◌, Option, Some, None, Result, Ok, length, slice_get, refl, sym, ap, ◌∙◌, subst, arith}
use Rattle.std.specs.Prelude.{min}
use Rattle.std.specs.Cmp.{IsTotalOrder}
use Rattle.std.specs.List.{AllByRecursion, AllZip, Contains}
use Rattle.std.specs.List.Sorted.{IsStrictlySortedBy}
use Rattle.std.specs.Ordering.{ordering_then, nat_cmp}
use Rattle.std.specs.declared.cmp.Ordering.{Ordering}
use Rattle.std.specs.declared.cmp.Ordering.TheVariants.{Less, Equal, Greater}
use Rattle.std.proofs.lemmas.Bool.Decides.{nat_tests}
use Rattle.std.proofs.lemmas.List.{append-nil}
use Rattle.std.proofs.lemmas.List.Concat.{flat_map-append}
use Rattle.cite_schema.specs.Tables.{cell_cmp, key_cmp}
use Rattle.cite_schema.specs.declared.memory.NoMemory.{NoMemory}
use Rattle.cite_schema.specs.declared.value.Value.{Value}
use Rattle.cite_schema.proofs.Orders.{key_total}
use Rattle.shared_pages.proofs.Order.{turned, itself, map_all, all_both, all_right}
use Rattle.versioned_rows.specs.declared.rows.KeptRow.{KeptRow}
use Rattle.versioned_rows.specs.ChangeLaws.{IsThere}
use Rattle.versioned_rows.specs.Histories.{RowHistory, ends_after, rows_of, as_of}
use Rattle.versioned_rows.specs.Keeping.{kept_cmp, kept_total, IsEndOf, WasThere, IsSettled, IsHistory, IsRows}
use Rattle.versioned_rows.specs.declared.fault.MapFault.{MapFault}
use Rattle.versioned_rows.specs.declared.fault.MapFault.TheVariants as maps
use Rattle.versioned_rows.specs.Nexts.{Turns, IsTurned, IsNextByCalls, IsFirstLost, TellsFirstLost}
use Rattle.versioned_rows.specs.Parts.{earlier, TellsKey}
use Rattle.versioned_rows.specs.Turns.{TurnsKept, IsNoEarlier, IsLost, IsAllTurned, TellsLostOf}
use Rattle.versioned_rows.specs.Weights.{row_weight, rows_weight}
use Rattle.versioned_rows.proofs.Stepping.{Row, rows_in}
use Rattle.versioned_rows.proofs.Tables.{shown, table_of, as_of_is}
use Rattle.versioned_rows.proofs.Versions.{to_later, later_tables, min_small}

module _ {X : Type 0} (R : X → X → Ordering) (total : IsTotalOrder R) where
  -- an element may be replaced by its equal
  replace_all : (x y : X) (xs ys : List X) → R x y ≡ Equal → AllZip (λ a b. R a b ≡ Equal) xs ys → AllByRecursion (λ z. R x z ≡ Less) xs → AllByRecursion (λ z. R y z ≡ Less) ys
  replace_all x y [] [] e z h = tt
  replace_all x y [] (b ∷ ys) e z h = absurd z
  replace_all x y (a ∷ xs) [] e z h = absurd z
  replace_all x y (a ∷ xs) (b ∷ ys) e z h = (by, replace_all x y xs ys e z.1 h.1)
    where
      by : R y b ≡ Less
      by = turned R total b y Greater (sym (total.congr a b y z.0) ∙ turned R total y a Less (sym (total.congr x y a e) ∙ h.0))

  -- elements of the same order in the places of others
  pub zip_sorted : (xs ys : List X) → AllZip (λ a b. R a b ≡ Equal) xs ys → IsStrictlySortedBy R xs → IsStrictlySortedBy R ys
  unfolding IsStrictlySortedBy
  zip_sorted [] [] z s = tt
  zip_sorted [] (b ∷ ys) z s = absurd z
  zip_sorted (a ∷ xs) [] z s = absurd z
  zip_sorted (a ∷ xs) (b ∷ ys) z s = (replace_all a b xs ys z.0 z.1 s.0, zip_sorted xs ys z.1 s.1)

pub zip_map : {X Y : Type 0} (P Q : X → Y → Type 0) → ((x : X) (y : Y) → P x y → Q x y) → (xs : List X) (ys : List Y) → AllZip P xs ys → AllZip Q xs ys
zip_map P Q f [] [] z = tt
zip_map P Q f [] (y ∷ ys) z = z
zip_map P Q f (x ∷ xs) [] z = z
zip_map P Q f (x ∷ xs) (y ∷ ys) z = (f x y z.0, zip_map P Q f xs ys z.1)

zip_both : {X Y : Type 0} (P : X → Y → Type 0) (xs us : List X) (ys vs : List Y) → AllZip P xs ys → AllZip P us vs → AllZip P (xs ++ us) (ys ++ vs)
zip_both P [] us [] vs z w = w
zip_both P [] us (y ∷ ys) vs z w = absurd z
zip_both P (x ∷ xs) us [] vs z w = absurd z
zip_both P (x ∷ xs) us (y ∷ ys) vs z w = (z.0, zip_both P xs us ys vs z.1 w)

zip_length : {X Y : Type 0} (P : X → Y → Type 0) (xs : List X) (ys : List Y) → AllZip P xs ys → length ys ≡ length xs
zip_length P [] [] z = refl
zip_length P [] (y ∷ ys) z = absurd z
zip_length P (x ∷ xs) [] z = absurd z
zip_length P (x ∷ xs) (y ∷ ys) z = let more = zip_length P xs ys z.1 in omega arith

module _ (returns : List Value → Result (Option (List Value)) NoMemory → Type 0) where
  level : (k j : KeptRow) → TurnsKept returns k j → kept_cmp k j ≡ Equal
  level k j c = ap (λ o. ordering_then o (nat_cmp k.from j.from)) c.same ∙ same_from
    where
      same_from : nat_cmp k.from j.from ≡ Equal
      same_from = let e = c.from in grind (arith, nat_tests)

  same_shown : (version : ℕ) (k j : KeptRow) → TurnsKept returns k j → (nat_le j.from version && ends_after j.until version) ≡ (nat_le k.from version && ends_after k.until version)
  same_shown version k j c = ap (λ f. nat_le f version && ends_after j.until version) c.from ∙ ap (λ t. nat_le k.from version && ends_after t version) c.until

  -- what holds of each kept row and the one that it was turned into holds row by row in each table
  shown_zip : (P : Row → Row → Type 0) → ((k j : KeptRow) → TurnsKept returns k j → P k.row j.row) → (version : ℕ) (kept new : List KeptRow) → AllZip (TurnsKept returns) kept new → AllZip P (table_of version kept) (table_of version new)
  shown_zip P f version [] [] z = tt
  shown_zip P f version [] (j ∷ js) z = absurd z
  shown_zip P f version (k ∷ ks) [] z = absurd z
  shown_zip P f version (k ∷ ks) (j ∷ js) z =
      zip_both P (shown version k) (table_of version ks) (shown version j) (table_of version js)
      (subst (λ b. AllZip P (cond b (k.row ∷ []) []) (shown version j)) (same_shown version k j z.0) (by (nat_le j.from version && ends_after j.until version))) (shown_zip P f version ks js z.1)
    where
      by : (b : Bool) → AllZip P (cond b (k.row ∷ []) []) (cond b (j.row ∷ []) [])
      by true = (f k j z.0, tt)
      by false = tt

  rows_zip : (kept new : List KeptRow) → AllZip (TurnsKept returns) kept new → AllZip (Turns returns) (rows_in kept) (rows_in new)
  rows_zip [] [] z = tt
  rows_zip [] (j ∷ js) z = absurd z
  rows_zip (k ∷ ks) [] z = absurd z
  rows_zip (k ∷ ks) (j ∷ js) z = (z.0.row, rows_zip ks js z.1)

  there_turned : (last : ℕ) (kept new : List KeptRow) → AllZip (TurnsKept returns) kept new → AllByRecursion (WasThere last) kept → AllByRecursion (WasThere last) new
  there_turned last [] [] z h = tt
  there_turned last [] (j ∷ js) z h = absurd z
  there_turned last (k ∷ ks) [] z h = absurd z
  there_turned last (k ∷ ks) (j ∷ js) z h = (
    record {
      key = z.0.key;
      first = subst (λ n. 1 ≤ n) (sym z.0.from) h.0.first;
      from = subst (λ n. n ≤ last) (sym z.0.from) h.0.from;
      until = subst (λ n. IsEndOf j.until n last) (sym z.0.from) (subst (λ o. IsEndOf o k.from last) (sym z.0.until) h.0.until);
    },
    there_turned last ks js z.1 h.1,
  )

  behind_turned : (r s : Row) (kept new : List KeptRow) → key_cmp r s ≡ Equal → AllZip (TurnsKept returns) kept new → AllByRecursion (λ j. key_cmp r j.row ≡ Less) kept → AllByRecursion (λ j. key_cmp s j.row ≡ Less) new
  behind_turned r s [] [] e z h = tt
  behind_turned r s [] (j ∷ js) e z h = absurd z
  behind_turned r s (k ∷ ks) [] e z h = absurd z
  behind_turned r s (k ∷ ks) (j ∷ js) e z h = (by, behind_turned r s ks js e z.1 h.1)
    where
      by : key_cmp s j.row ≡ Less
      by = turned key_cmp key_total j.row s Greater (sym (key_total.congr k.row j.row s z.0.same) ∙ turned key_cmp key_total s k.row Less (sym (key_total.congr r s k.row e) ∙ h.0))

  settled_turned : (kept new : List KeptRow) → AllZip (TurnsKept returns) kept new → IsSettled key_cmp kept → IsSettled key_cmp new
  settled_turned [] [] z h = tt
  settled_turned [] (j ∷ js) z h = absurd z
  settled_turned (k ∷ ks) [] z h = absurd z
  settled_turned (k ∷ ks) (j ∷ js) z h = (λ e. behind_turned k.row j.row ks js z.0.same z.1 (h.0 (sym z.0.until ∙ e)), settled_turned ks js z.1 h.1)

  pub sorted_turned : (kept new : List KeptRow) → AllZip (TurnsKept returns) kept new → IsStrictlySortedBy kept_cmp kept → IsStrictlySortedBy kept_cmp new
  sorted_turned kept new z s = zip_sorted kept_cmp kept_total kept new (zip_map _ _ level kept new z) s

  -- at the next version the last table still stands
  stands_on : (last : ℕ) (kept : List KeptRow) → AllByRecursion (WasThere last) kept → table_of (last + 1) kept ≡ table_of last kept
  stands_on last kept b = later_tables last (last + 1) kept b (omega arith) ∙ sym (later_tables last last kept b (omega arith))

  -- what was turned is a history, one version longer
  pub record IsTurnedWhole (kept new : List KeptRow) (last : ℕ) : Type 0 where
    pub history : IsHistory (record { last = last + 1; kept = new })
    pub next : IsNextByCalls returns (record { last = last; kept = kept }) (record { last = last + 1; kept = new })
    pub count : length (table_of (last + 1) new) ≡ length (table_of last kept)

  pub turned_whole : (kept new : List KeptRow) (last : ℕ) → AllZip (TurnsKept returns) kept new → IsHistory (record { last = last; kept = kept }) → IsTurnedWhole kept new last
  turned_whole kept new last z h =
      let there = there_turned last kept new z h.there in
      let on = stands_on last new there in
      let table = shown_zip (Turns returns) (λ k j c. c.row) last kept new z in
      record {
        history = record {
          sorted = sorted_turned kept new z h.sorted;
          there = map_all _ _ (to_later last) new there;
          settled = settled_turned kept new z h.settled;
          tables = λ v. subst (IsStrictlySortedBy key_cmp) (sym (as_of_is v new))
              (zip_sorted key_cmp key_total (table_of v kept) (table_of v new) (shown_zip (λ r s. key_cmp r s ≡ Equal) (λ k j c. c.same) v kept new z) (subst (IsStrictlySortedBy key_cmp) (as_of_is v kept) (h.tables v)));
        };
        next = record {
          last = refl;
          table = seen last (last + 1) (subst (AllZip (Turns returns) (table_of last kept)) (sym on) table);
          past = λ v l. seen v v (shown_zip (Turns returns) (λ k j c. c.row) v kept new z);
          kept = rows_zip kept new z;
        };
        count = ap length on ∙ zip_length _ (table_of last kept) (table_of last new) table;
      }
    where
      seen : (v w : ℕ) → AllZip (Turns returns) (table_of v kept) (table_of w new) → AllZip (Turns returns) (as_of (record { last = last; kept = kept }) v) (as_of (record { last = last + 1; kept = new }) w)
      seen v w z = subst (λ l. AllZip (Turns returns) l (as_of (record { last = last + 1; kept = new }) w)) (sym (as_of_is v kept)) (subst (AllZip (Turns returns) (table_of v kept)) (sym (as_of_is w new)) z)

  -- what is known of the rows gone through: each was turned, or this one is the first that was lost
  abbrev pub IsSoFar : List KeptRow → Option KeptRow → List KeptRow → ℕ → Type 0
  IsSoFar taken None new weight = AllZip (TurnsKept returns) taken new × (weight ≡ min (rows_weight (rows_in new)) (2 ^ 64 - 1))
  IsSoFar taken (Some k) new weight = IsLost returns taken k

  zip_turned : (taken new : List KeptRow) → AllZip (TurnsKept returns) taken new → (n : ℕ) → AllByRecursion (IsNoEarlier returns n) taken
  zip_turned [] new z n = tt
  zip_turned (k ∷ ks) [] z n = absurd z
  zip_turned (k ∷ ks) (j ∷ js) z n = (inl (j.row, z.0.row), zip_turned ks js z.1 n)

  earlier_all : (m n : ℕ) (ks : List KeptRow) → n ≤ m → AllByRecursion (IsNoEarlier returns m) ks → AllByRecursion (IsNoEarlier returns n) ks
  earlier_all m n ks l h = map_all _ _ by ks h
    where
      by : (j : KeptRow) → IsNoEarlier returns m j → IsNoEarlier returns n j
      by j (inl t) = inl t
      by j (inr f) = inr (omega arith)

  -- one row more behind those that were gone through
  lost_behind : (taken : List KeptRow) (k x : KeptRow) → IsLost returns taken k → IsNoEarlier returns k.from x → IsLost returns (taken ++ x ∷ []) k
  lost_behind taken k x h n = record {
    pre = h.pre;
    post = h.post ++ x ∷ [];
    is = ap (λ l. l ++ x ∷ []) h.is ∙ append_assoc h.pre (k ∷ h.post) (x ∷ []);
    lost = h.lost;
    later = h.later;
    no_earlier = all_both _ h.post (x ∷ []) h.no_earlier (n, tt);
  }

  pub so_far_turned : (taken new new' : List KeptRow) (lost : Option KeptRow) (weight weight' : ℕ) (x j : KeptRow) → IsSoFar taken lost new weight → TurnsKept returns x j → weight' ≡ min (weight + row_weight j.row) (2 ^ 64 - 1) → new' ≡ new ++ j ∷ []
      → IsSoFar (taken ++ x ∷ []) lost new' weight'
  so_far_turned taken new new' None weight weight' x j h c w n =
      (subst (AllZip (TurnsKept returns) (taken ++ x ∷ [])) (sym n) (zip_both (TurnsKept returns) taken (x ∷ []) new (j ∷ []) h.0 (c, tt)), heavier)
    where
      sum : rows_weight (rows_in new') ≡ rows_weight (rows_in new) + row_weight j.row
      sum = ap (λ l. rows_weight (rows_in l)) n ∙ push new
        where
          push : (ks : List KeptRow) → rows_weight (rows_in (ks ++ j ∷ [])) ≡ rows_weight (rows_in ks) + row_weight j.row
          push [] = omega arith
          push (k ∷ ks) = let more = push ks in omega arith

      heavier : weight' ≡ min (rows_weight (rows_in new')) (2 ^ 64 - 1)
      heavier = w ∙ ap (λ m. min (m + row_weight j.row) (2 ^ 64 - 1)) h.1 ∙ capped (rows_weight (rows_in new)) (row_weight j.row) ∙ sym (ap (λ m. min m (2 ^ 64 - 1)) sum)
        where
          capped : (a b : ℕ) → min (min a (2 ^ 64 - 1) + b) (2 ^ 64 - 1) ≡ min (a + b) (2 ^ 64 - 1)
          capped a b = omega arith
  so_far_turned taken new new' (Some k) weight weight' x j h c w n = lost_behind taken k x h (inl (j.row, c.row))

  pub so_far_lost : (taken new : List KeptRow) (lost : Option KeptRow) (weight : ℕ) (x : KeptRow) → IsSoFar taken lost new weight → returns x.row (Ok None) → IsSoFar (taken ++ x ∷ []) (earlier lost x) new weight
  so_far_lost taken new None weight x h r = record { pre = taken; post = []; is = refl; lost = r; later = zip_turned taken new h.0 (x.from + 1); no_earlier = tt }
  so_far_lost taken new (Some k) weight x h r = by (nat_lt x.from k.from) refl
    where
      by : (b : Bool) → nat_lt x.from k.from ≡ b → IsSoFar (taken ++ x ∷ []) (cond b (Some x) (Some k)) new weight
      by true e =
          let l : x.from < k.from = grind (arith, nat_tests) in
          record {
            pre = taken;
            post = [];
            is = refl;
            lost = r;
            later = subst (AllByRecursion (IsNoEarlier returns (x.from + 1))) (sym h.is)
                (all_both _ h.pre (k ∷ h.post) (earlier_all (k.from + 1) (x.from + 1) h.pre (omega arith) h.later) (inr (omega arith), earlier_all k.from (x.from + 1) h.post (omega arith) h.no_earlier));
            no_earlier = tt;
          }
      by false e =
          let l : k.from ≤ x.from = grind (arith, nat_tests) in
          lost_behind taken k x h (inr l)

  -- rows that came no earlier than a version, in the table of an earlier one
  turned_table : (n v : ℕ) (ks : List KeptRow) → v < n → AllByRecursion (IsNoEarlier returns n) ks → AllByRecursion (IsTurned returns) (table_of v ks)
  turned_table n v [] l h = tt
  turned_table n v (k ∷ ks) l h = all_both _ (shown v k) (table_of v ks) (by (nat_le k.from v && ends_after k.until v) refl h.0) (turned_table n v ks l h.1)
    where
      by : (b : Bool) → (nat_le k.from v && ends_after k.until v) ≡ b → IsNoEarlier returns n k → AllByRecursion (IsTurned returns) (cond b (k.row ∷ []) [])
      by false e h = tt
      by true e (inl t) = (t, tt)
      by true e (inr f) =
          let no : nat_le k.from v ≡ false = grind (arith, nat_tests) in
          let clash : false ≡ true = sym (ap (λ b. b && ends_after k.until v) no) ∙ e in absurd (cc)

  all_of : (last : ℕ) (pre : List KeptRow) (k : KeptRow) (post : List KeptRow) → AllByRecursion (WasThere last) (pre ++ k ∷ post) → WasThere last k
  all_of last pre k post h = (all_right _ pre (k ∷ post) h).0

  shown_itself : (last : ℕ) (k : KeptRow) → WasThere last k → shown k.from k ≡ k.row ∷ []
  shown_itself last k h = ap (λ b. cond (b && ends_after k.until k.from) (k.row ∷ []) []) here ∙ ap (λ b. cond b (k.row ∷ []) []) (by k.until h.until)
    where
      here : nat_le k.from k.from ≡ true
      here = grind (arith, nat_tests)

      by : (o : Option ℕ) → IsEndOf o k.from last → ends_after o k.from ≡ true
      by None u = refl
      by (Some until) u = let l = u.0 in grind (arith, nat_tests)

  -- the first row that was lost, as it is told
  pub first_lost : (kept : List KeptRow) (last : ℕ) (k : KeptRow) (key : Value) → IsHistory (record { last = last; kept = kept }) → IsLost returns kept k → slice_get k.row 0 ≡ Some key → IsFirstLost returns (record { last = last; kept = kept }) k.from key
  first_lost kept last k key h l has =
      let w = all_of last l.pre k l.post (subst (AllByRecursion (WasThere last)) l.is h.there) in
      record {
        from = w.first;
        to = w.from;
        older = λ v b. subst (AllByRecursion (IsTurned returns)) (sym (as_of_is v kept))
            (turned_table k.from v kept b (subst (AllByRecursion (IsNoEarlier returns k.from)) (sym l.is) (all_both _ l.pre (k ∷ l.post) (earlier_all (k.from + 1) k.from l.pre (omega arith) l.later) (inr (omega arith), l.no_earlier))));
        before = table_of k.from l.pre;
        row = k.row;
        rest = table_of k.from l.post;
        table = as_of_is k.from kept ∙ ap (table_of k.from) l.is ∙ flat_map-append (shown k.from) l.pre (k ∷ l.post) ∙ ap (λ w. table_of k.from l.pre ++ (w ++ table_of k.from l.post)) (shown_itself last k w);
        turned = turned_table (k.from + 1) k.from l.pre (omega arith) l.later;
        lost = l.lost;
        has = has;
      }

  -- the invariant of the next version
  pub turned_rows : (kept new : List KeptRow) (last alive old weight : ℕ) → IsRows (record { last = last; kept = kept }) alive old → AllZip (TurnsKept returns) kept new → weight ≡ min (rows_weight (rows_in new)) (2 ^ 64 - 1) → rows_weight (rows_in new) < 2 ^ 64
      → IsRows (record { last = last + 1; kept = new }) alive weight
  turned_rows kept new last alive old weight h z w l =
      let whole = turned_whole kept new last z h.history in
      record {
        history = whole.history;
        counted = h.counted ∙ ap length (as_of_is last kept) ∙ sym whole.count ∙ ap length (sym (as_of_is (last + 1) new));
        weighed = w ∙ min_small (rows_weight (rows_in new)) l;
      }

  -- a call on a kept row's row that gave a row with its key
  pub kept_pair : (last : ℕ) (k j : KeptRow) (t : List Value) → returns k.row (Ok (Some t)) → slice_get t 0 ≡ slice_get k.row 0 → WasThere last k → j.row ≡ t → j.from ≡ k.from → j.until ≡ k.until → TurnsKept returns k j
  kept_pair last k j t called same was is from until = record {
    row = subst (λ w. returns k.row (Ok (Some w))) (sym is) called;
    from = from;
    until = until;
    same = ap (cell_cmp (slice_get k.row 0)) (ap (λ w. slice_get w 0) is ∙ same) ∙ itself key_cmp key_total k.row;
    key = subst IsThere (sym (ap (λ w. slice_get w 0) is ∙ same)) was.key;
  }

  -- some of the rows were gone through, and some are left
  pub record IsTurning (kept left : List KeptRow) (lost : Option KeptRow) (new : List KeptRow) (weight : ℕ) : Type 0 where
    pub taken : List KeptRow
    pub whole : taken ++ left ≡ kept
    pub so_far : IsSoFar taken lost new weight

  pub turning_from : (kept left : List KeptRow) → left ≡ kept → IsTurning kept left None [] 0
  turning_from kept left e = record { taken = []; whole = e; so_far = (tt, refl) }

  -- the row that comes next is one of them
  pub next_there : (P : KeptRow → Type 0) (kept left rest : List KeptRow) (lost : Option KeptRow) (new : List KeptRow) (weight : ℕ) (x : KeptRow) → IsTurning kept left lost new weight → left ≡ x ∷ rest → AllByRecursion P kept → P x
  next_there P kept left rest lost new weight x h e all = (all_right P h.taken (x ∷ rest) (subst (AllByRecursion P) (sym h.whole ∙ ap (λ l. h.taken ++ l) e) all)).0

  -- so its row is one of theirs
  pub next_in : (kept left rest : List KeptRow) (lost : Option KeptRow) (new : List KeptRow) (weight : ℕ) (x : KeptRow) → IsTurning kept left lost new weight → left ≡ x ∷ rest → Contains (rows_in kept) x.row
  next_in kept left rest lost new weight x h e = subst (λ l. Contains (rows_in l) x.row) (ap (λ l. h.taken ++ l) (sym e) ∙ h.whole) (among h.taken)
    where
      among : (ks : List KeptRow) → Contains (rows_in (ks ++ x ∷ rest)) x.row
      among [] = (0, omega arith, refl)
      among (k ∷ ks) = let more = among ks in (suc more.0, (let l = more.1 in omega arith), more.2)

  -- a row was made of it
  pub turning_made : (kept left rest : List KeptRow) (lost : Option KeptRow) (new new' : List KeptRow) (weight weight' : ℕ) (x j : KeptRow) → IsTurning kept left lost new weight → left ≡ x ∷ rest → TurnsKept returns x j
      → weight' ≡ min (weight + row_weight j.row) (2 ^ 64 - 1) → new' ≡ new ++ j ∷ [] → IsTurning kept rest lost new' weight'
  turning_made kept left rest lost new new' weight weight' x j h e c w n = record {
    taken = h.taken ++ x ∷ [];
    whole = append_assoc h.taken (x ∷ []) rest ∙ ap (λ l. h.taken ++ l) (sym e) ∙ h.whole;
    so_far = so_far_turned h.taken new new' lost weight weight' x j h.so_far c w n;
  }

  -- nothing was made of it
  pub turning_lost : (kept left rest : List KeptRow) (lost lost' : Option KeptRow) (new : List KeptRow) (weight : ℕ) (x : KeptRow) → IsTurning kept left lost new weight → left ≡ x ∷ rest → returns x.row (Ok None) → lost' ≡ earlier lost x
      → IsTurning kept rest lost' new weight
  turning_lost kept left rest lost lost' new weight x h e r n = record {
    taken = h.taken ++ x ∷ [];
    whole = append_assoc h.taken (x ∷ []) rest ∙ ap (λ l. h.taken ++ l) (sym e) ∙ h.whole;
    so_far = subst (λ o. IsSoFar (h.taken ++ x ∷ []) o new weight) (sym n) (so_far_lost h.taken new lost weight x h.so_far r);
  }

  all_taken : (kept left : List KeptRow) (lost : Option KeptRow) (new : List KeptRow) (weight : ℕ) → left ≡ [] → (h : IsTurning kept left lost new weight) → h.taken ≡ kept
  all_taken kept left lost new weight e h = sym (append-nil h.taken) ∙ ap (λ l. h.taken ++ l) (sym e) ∙ h.whole

  -- at the end, where none was lost
  pub turning_all : (kept left : List KeptRow) (lost : Option KeptRow) (new : List KeptRow) (weight : ℕ) → left ≡ [] → lost ≡ None → IsTurning kept left lost new weight → IsAllTurned returns kept new weight
  turning_all kept left lost new weight e n h =
      subst (λ l. IsAllTurned returns l new weight) (all_taken kept left lost new weight e h) (subst (λ o. IsSoFar h.taken o new weight) n h.so_far)

  -- at the end, where one was
  pub turning_told : (kept left : List KeptRow) (lost : Option KeptRow) (new : List KeptRow) (weight : ℕ) (k : KeptRow) (e : MapFault) → left ≡ [] → lost ≡ Some k → IsTurning kept left lost new weight → TellsKey k e → TellsLostOf returns kept e
  turning_told kept left lost new weight k maps.NoMemory e n h t = tt
  turning_told kept left lost new weight k (maps.Overflow version key) e n h t =
      (k, subst (λ l. IsLost returns l k) (all_taken kept left lost new weight e h) (subst (λ o. IsSoFar h.taken o new weight) n h.so_far), t.0, t.1)

  -- and it has a key
  pub lost_keyed : (kept left : List KeptRow) (lost : Option KeptRow) (new : List KeptRow) (weight : ℕ) (k : KeptRow) (last : ℕ) → left ≡ [] → lost ≡ Some k → IsTurning kept left lost new weight → AllByRecursion (WasThere last) kept → IsThere (slice_get k.row 0)
  lost_keyed kept left lost new weight k last e n h all =
      let l : IsLost returns h.taken k = subst (λ o. IsSoFar h.taken o new weight) n h.so_far in
      (all_of last l.pre k l.post (subst (AllByRecursion (WasThere last)) (sym (all_taken kept left lost new weight e h) ∙ l.is) all)).key

  -- the fault of the rows of all versions
  pub lost_told : (kept : List KeptRow) (last : ℕ) (e : MapFault) → IsHistory (record { last = last; kept = kept }) → TellsLostOf returns kept e → TellsFirstLost returns (record { last = last; kept = kept }) e
  lost_told kept last maps.NoMemory h t = tt
  lost_told kept last (maps.Overflow version key) h t =
      subst (λ v. IsFirstLost returns (record { last = last; kept = kept }) v key) (sym t.2) (first_lost kept last t.0 key h t.1 t.3)

  -- what is so of all rows that the calls may give is so of these
  pub weight_within : (kept new : List KeptRow) (last : ℕ) (old : RowHistory) → record { last = last; kept = kept } ≡ old → IsHistory (record { last = last; kept = kept }) → AllZip (TurnsKept returns) kept new
      → ((rows : List (List Value)) → AllZip (Turns returns) (rows_of old) rows → rows_weight rows < 2 ^ 64) → rows_weight (rows_in new) < 2 ^ 64
  weight_within kept new last old e h z fits = fits (rows_in new) (subst (λ (s : RowHistory). AllZip (Turns returns) (rows_of s) (rows_in new)) e (rows_zip kept new z))

-- a later version may stand for the last one
pub there_within : (last top : ℕ) (kept : List KeptRow) → last ≤ top → AllByRecursion (WasThere last) kept → AllByRecursion (WasThere top) kept
there_within last top kept l h = map_all _ _ by kept h
  where
    ends : (o : Option ℕ) (from : ℕ) → IsEndOf o from last → IsEndOf o from top
    ends None from u = tt
    ends (Some until) from u = (u.0, (let b = u.1 in omega arith))

    by : (k : KeptRow) → WasThere last k → WasThere top k
    by k w = record { key = w.key; first = w.first; from = (let f = w.from in omega arith); until = ends k.until k.from w.until }
