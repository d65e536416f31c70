-- What one line does to kept rows: it ends the row of its key that stands, brings a row, or both.
use Rattle.std.proofs.Common.{◌≡◌, ◌≢◌, ℕ, ◌<◌, true, false, cond, ◌&&◌, nat_le, nat_lt, ◌+◌, length, List, [], ◌∷◌, ◌++◌, Option, Some, None, IsPermutation, map, refl, sym, ap, ◌∙◌, subst, arith}
use Rattle.std.specs.Cmp.{IsTotalOrder}
use Rattle.std.specs.List.{AllByRecursion, flat_map}
use Rattle.std.specs.List.Sorted.{IsStrictlySortedBy}
use Rattle.std.specs.Ordering.{ordering_then, match_ordering, nat_cmp}
use Rattle.std.specs.declared.cmp.Ordering.{Ordering}
use Rattle.std.specs.declared.cmp.Ordering.TheVariants.{Less, Equal, Greater}
use Rattle.std.proofs.lemmas.Bool.Decides.{nat_tests}
use Rattle.std.proofs.lemmas.List.Concat.{flat_map-append}
use Rattle.std.proofs.lemmas.List.Sorted.{IsPermutation-refl, IsPermutation-cons, IsPermutation-to_front}
use Rattle.cite_schema.specs.declared.value.Value.{Value}
use Rattle.shared_pages.specs.declared.edit.Edit.{Edit}
use Rattle.shared_pages.specs.declared.edit.Edit.TheVariants.{Put}
use Rattle.shared_pages.specs.Edits.{place, given, changed}
use Rattle.shared_pages.proofs.Editing.{edited-behind}
use Rattle.shared_pages.proofs.Order.{map_all, all_both, all_left, all_right, turned, itself, sorted_before, sorted_right}
use Rattle.versioned_rows.specs.declared.rows.KeptRow.{KeptRow}
use Rattle.versioned_rows.specs.Histories.{ends_after}
use Rattle.versioned_rows.specs.Keeping.{kept_by, kept_by_total, IsEndOf, WasThere, IsSettled}
use Rattle.versioned_rows.specs.Parts.{closed, born}
use Rattle.versioned_rows.proofs.Tables.{shown, table_of}

abbrev pub Row : Type 0
Row = List Value

-- the rows of kept rows
abbrev pub rows_in : List KeptRow → List Row
rows_in kept = map (λ (k : KeptRow). k.row) kept

-- the row of a kept row that was not ended
abbrev pub opened_by : Option ℕ → Row → List Row
opened_by None r = r ∷ []
opened_by (Some to) r = []

abbrev pub opened : KeptRow → List Row
opened k = opened_by k.until k.row

-- the rows that were not ended
abbrev pub opens : List KeptRow → List Row
opens kept = flat_map opened kept

-- where all came by a version, its table has what was not ended
pub table_of-opens : (version : ℕ) (kept : List KeptRow) → AllByRecursion (WasThere version) kept → table_of version kept ≡ opens kept
table_of-opens version [] h = refl
table_of-opens version (k ∷ ks) h = ap (λ l. l ++ table_of version ks) (by k.until refl h.0.until) ∙ ap (λ l. opened k ++ l) (table_of-opens version ks h.1)
  where
    came : nat_le k.from version ≡ true
    came = let l = h.0.from in grind (arith, nat_tests)

    by : (o : Option ℕ) → k.until ≡ o → IsEndOf o k.from version → shown version k ≡ opened k
    by None e b = ap (λ t. cond (t && ends_after k.until version) (k.row ∷ []) []) came ∙ ap (λ o. cond (ends_after o version) (k.row ∷ []) []) e ∙ sym (ap (λ o. opened_by o k.row) e)
    by (Some to) e b =
        let le = b.1 in
        let not_yet : nat_lt version to ≡ false = grind (arith, nat_tests) in
        ap (λ t. cond (t && ends_after k.until version) (k.row ∷ []) []) came ∙ ap (λ o. cond (ends_after o version) (k.row ∷ []) []) e ∙ ap (λ t. cond t (k.row ∷ []) []) not_yet ∙ sym (ap (λ o. opened_by o k.row) e)

pub opens_all : (P : Row → Type 0) (kept : List KeptRow) → AllByRecursion (λ k. P k.row) kept → AllByRecursion P (opens kept)
opens_all P [] h = tt
opens_all P (k ∷ ks) h = by k.until (opens_all P ks h.1)
  where
    by : (o : Option ℕ) → AllByRecursion P (opens ks) → AllByRecursion P (opened_by o k.row ++ opens ks)
    by None more = (h.0, more)
    by (Some to) more = more

-- all that holds of the items and of what an edit puts
pub changed_every : {T : Type 0} (cmp : T → T → Ordering) (P : T → Type 0) (xs : List T) (e : Edit T) → AllByRecursion P xs → AllByRecursion P (given e) → AllByRecursion P (changed cmp xs e)
changed_every cmp P [] e h g = g
changed_every {T} cmp P (x ∷ xs) e h g = by (changed_every cmp P xs e h.1 g) (cmp x (place e))
  where
    by : AllByRecursion P (changed cmp xs e) → (o : Ordering) → AllByRecursion P (match_ordering o (x ∷ changed cmp xs e) (given e ++ xs) (given e ++ x ∷ xs))
    by more Less = (h.0, more)
    by more Equal = all_both P (given e) xs g h.1
    by more Greater = all_both P (given e) (x ∷ xs) g h

module _ (key : Row → Row → Ordering) (total : IsTotalOrder key) where
  -- a row is put before rows with greater keys
  changed-first : (xs : List Row) (r : Row) → AllByRecursion (λ x. key r x ≡ Less) xs → changed key xs (Put r) ≡ r ∷ xs
  changed-first [] r h = refl
  changed-first (x ∷ xs) r h = ap (λ o. match_ordering o (x ∷ changed key xs (Put r)) (r ∷ xs) (r ∷ x ∷ xs)) (turned key total r x Less h.0)

  changed-past : (xs ys : List Row) (e : Edit Row) → AllByRecursion (λ x. key x (place e) ≡ Less) xs → changed key (xs ++ ys) e ≡ xs ++ changed key ys e
  changed-past xs ys e h = edited-behind key total xs ys (e ∷ []) (h, tt)

  -- what comes behind a kept row with a greater key has a greater key
  after_key : (r : Row) (k j : KeptRow) → key r k.row ≡ Less → kept_by key k j ≡ Less → key r j.row ≡ Less
  after_key r k j l h = by (key k.row j.row) refl h
    where
      by : (o : Ordering) → key k.row j.row ≡ o → ordering_then o (nat_cmp k.from j.from) ≡ Less → key r j.row ≡ Less
      by Less e g = total.trans r k.row j.row l e
      by Equal e g = turned key total j.row r Greater (total.congr j.row k.row r (turned key total k.row j.row Equal e) ∙ turned key total r k.row Less l)
      by Greater e g = cc

  -- all kept rows with the key came before the version
  abbrev pub IsFresh : ℕ → Row → List KeptRow → Type 0
  IsFresh version r kept = AllByRecursion (λ k. key k.row r ≡ Equal → k.from < version) kept

  -- no row with the key stands
  abbrev pub IsFree : Row → List Row → Type 0
  IsFree r rows = AllByRecursion (λ x. key x r ≢ Equal) rows

  pub earlier : (version : ℕ) (r : Row) (k : KeptRow) → key k.row r ≡ Equal → k.from < version → kept_by key k (born version r) ≡ Less
  earlier version r k e l = ap (λ o. ordering_then o (nat_cmp k.from version)) e ∙ below
    where
      below : nat_cmp k.from version ≡ Less
      below = grind (arith, nat_tests)

  -- where a row is born, in the kept rows and in the table
  pub born_opens : (version : ℕ) (r : Row) (kept : List KeptRow) → IsStrictlySortedBy (kept_by key) kept → IsFresh version r kept → IsFree r (opens kept)
      → opens (changed (kept_by key) kept (Put (born version r))) ≡ changed key (opens kept) (Put r)
  unfolding IsStrictlySortedBy
  born_opens version r [] s f n = refl
  born_opens version r (k ∷ ks) s f n = by (key k.row r) refl (born_opens version r ks s.1 f.1 (all_right _ (opened k) (opens ks) n))
    where
      b : KeptRow
      b = born version r

      later : kept_by key k (born version r) ≡ Less → AllByRecursion (λ x. key x r ≡ Less) (opened k) → opens (changed (kept_by key) ks (Put (born version r))) ≡ changed key (opens ks) (Put r)
          → opens (match_ordering (kept_by key k (born version r)) (k ∷ changed (kept_by key) ks (Put (born version r))) (born version r ∷ ks) (born version r ∷ k ∷ ks)) ≡ changed key (opened k ++ opens ks) (Put r)
      later l h more =
          ap (λ o. opens (match_ordering o (k ∷ changed (kept_by key) ks (Put (born version r))) (born version r ∷ ks) (born version r ∷ k ∷ ks))) l
          ∙ ap (λ w. opened k ++ w) more ∙ sym (changed-past (opened k) (opens ks) (Put r) h)

      low : key k.row r ≡ Less → (o : Option ℕ) → AllByRecursion (λ x. key x r ≡ Less) (opened_by o k.row)
      low e None = (e, tt)
      low e (Some to) = tt

      gone : key k.row r ≡ Equal → (o : Option ℕ) → AllByRecursion (λ x. key x r ≢ Equal) (opened_by o k.row) → AllByRecursion (λ x. key x r ≡ Less) (opened_by o k.row)
      gone e None h = absurd (h.0 e)
      gone e (Some to) h = tt

      by : (o : Ordering) → key k.row r ≡ o → opens (changed (kept_by key) ks (Put (born version r))) ≡ changed key (opens ks) (Put r)
          → opens (match_ordering (kept_by key k (born version r)) (k ∷ changed (kept_by key) ks (Put (born version r))) (born version r ∷ ks) (born version r ∷ k ∷ ks)) ≡ changed key (opened k ++ opens ks) (Put r)
      by Less e more = later (ap (λ o. ordering_then o (nat_cmp k.from version)) e) (low e k.until) more
      by Equal e more = later (earlier version r k e (f.0 e)) (gone e k.until (all_left _ (opened k) (opens ks) n)) more
      by Greater e more =
          let above : key r k.row ≡ Less = turned key total k.row r Greater e in
          ap (λ o. opens (match_ordering (ordering_then o (nat_cmp k.from version)) (k ∷ changed (kept_by key) ks (Put (born version r))) (born version r ∷ ks) (born version r ∷ k ∷ ks))) e
          ∙ sym (changed-first (opens (k ∷ ks)) r (opens_all (λ x. key r x ≡ Less) (k ∷ ks) (above, map_all _ _ (λ j l. after_key r k j above l) ks s.0)))

  pub born_settled : (version : ℕ) (r : Row) (kept : List KeptRow) → IsStrictlySortedBy (kept_by key) kept → IsFresh version r kept → IsFree r (opens kept) → IsSettled key kept
      → IsSettled key (changed (kept_by key) kept (Put (born version r)))
  unfolding IsStrictlySortedBy
  born_settled version r [] s f n h = (λ e. tt, tt)
  born_settled version r (k ∷ ks) s f n h = by (key k.row r) refl (born_settled version r ks s.1 f.1 (all_right _ (opened k) (opens ks) n) h.1)
    where
      gone : key k.row r ≡ Equal → (o : Option ℕ) → k.until ≡ o → AllByRecursion (λ x. key x r ≢ Equal) (opened_by o k.row) → k.until ≡ None → ⊥
      gone e None i m j = m.0 e
      gone e (Some to) i m j = cc

      by : (o : Ordering) → key k.row r ≡ o → IsSettled key (changed (kept_by key) ks (Put (born version r)))
          → IsSettled key (match_ordering (kept_by key k (born version r)) (k ∷ changed (kept_by key) ks (Put (born version r))) (born version r ∷ ks) (born version r ∷ k ∷ ks))
      by Less e more =
          subst (λ o. IsSettled key (match_ordering o (k ∷ changed (kept_by key) ks (Put (born version r))) (born version r ∷ ks) (born version r ∷ k ∷ ks))) (sym (ap (λ o. ordering_then o (nat_cmp k.from version)) e))
          (λ i. changed_every (kept_by key) (λ j. key k.row j.row ≡ Less) ks (Put (born version r)) (h.0 i) (e, tt), more)
      by Equal e more =
          subst (λ o. IsSettled key (match_ordering o (k ∷ changed (kept_by key) ks (Put (born version r))) (born version r ∷ ks) (born version r ∷ k ∷ ks))) (sym (earlier version r k e (f.0 e)))
          (λ i. absurd (gone e k.until refl (all_left _ (opened k) (opens ks) n) i), more)
      by Greater e more =
          let above : key r k.row ≡ Less = turned key total k.row r Greater e in
          subst (λ o. IsSettled key (match_ordering (ordering_then o (nat_cmp k.from version)) (k ∷ changed (kept_by key) ks (Put (born version r))) (born version r ∷ ks) (born version r ∷ k ∷ ks))) (sym e)
          (λ i. (above, map_all _ _ (λ j l. after_key r k j above l) ks s.0), h)

  -- in older tables a row that is born doesn't stand
  pub born_before : (version old : ℕ) (r : Row) (kept : List KeptRow) → old < version → IsFresh version r kept → table_of old (changed (kept_by key) kept (Put (born version r))) ≡ table_of old kept
  born_before version old r kept l f = by kept f
    where
      unborn : shown old (born version r) ≡ []
      unborn = let no : nat_le version old ≡ false = grind (arith, nat_tests) in ap (λ t. cond (t && true) (r ∷ []) []) no

      clash : (k : KeptRow) → (key k.row r ≡ Equal → k.from < version) → (o : Ordering) → key k.row r ≡ o → ordering_then o (nat_cmp k.from version) ≡ Equal → ⊥
      clash k f Less e h = cc
      clash k f Equal e h = let less : nat_cmp k.from version ≡ Less = (let l = f e in grind (arith, nat_tests)) in cc
      clash k f Greater e h = cc

      at : (k : KeptRow) (ks : List KeptRow) → (key k.row r ≡ Equal → k.from < version) → table_of old (changed (kept_by key) ks (Put (born version r))) ≡ table_of old ks → (o : Ordering) → kept_by key k (born version r) ≡ o
          → table_of old (match_ordering o (k ∷ changed (kept_by key) ks (Put (born version r))) (born version r ∷ ks) (born version r ∷ k ∷ ks)) ≡ table_of old (k ∷ ks)
      at k ks f more Less e = ap (λ w. shown old k ++ w) more
      at k ks f more Equal e = absurd (clash k f (key k.row r) refl e)
      at k ks f more Greater e = ap (λ w. w ++ table_of old (k ∷ ks)) unborn

      by : (kept : List KeptRow) → IsFresh version r kept → table_of old (changed (kept_by key) kept (Put (born version r))) ≡ table_of old kept
      by [] f = ap (λ w. w ++ []) unborn
      by (k ∷ ks) f = at k ks f.0 (by ks f.1) (kept_by key k (born version r)) refl

  -- where a kept row is ended
  pub closed_at : (version : ℕ) (kept pre : List KeptRow) (k : KeptRow) (post : List KeptRow) → kept ≡ pre ++ k ∷ post → IsStrictlySortedBy (kept_by key) kept
      → changed (kept_by key) kept (Put (closed version k)) ≡ pre ++ closed version k ∷ post
  closed_at version kept pre k post is s =
      ap (λ l. changed (kept_by key) l (Put (closed version k))) is
      ∙ edited-behind (kept_by key) (kept_by_total key total) pre (k ∷ post) (Put (closed version k) ∷ []) (sorted_before (kept_by key) pre k post (subst (IsStrictlySortedBy (kept_by key)) is s), tt)
      ∙ ap (λ o. pre ++ match_ordering o (k ∷ changed (kept_by key) post (Put (closed version k))) (closed version k ∷ post) (closed version k ∷ k ∷ post)) (itself (kept_by key) (kept_by_total key total) k)

  pub opens-closed : (version : ℕ) (pre : List KeptRow) (k : KeptRow) (post : List KeptRow) → opens (pre ++ closed version k ∷ post) ≡ opens pre ++ opens post
  opens-closed version pre k post = flat_map-append opened pre (closed version k ∷ post)

  pub opens-split : (pre : List KeptRow) (k : KeptRow) (post : List KeptRow) → k.until ≡ None → opens (pre ++ k ∷ post) ≡ opens pre ++ k.row ∷ opens post
  opens-split pre k post o = flat_map-append opened pre (k ∷ post) ∙ ap (λ t. opens pre ++ (opened_by t k.row ++ opens post)) o

  pub closed_before : (version old : ℕ) (pre : List KeptRow) (k : KeptRow) (post : List KeptRow) → old < version → k.until ≡ None → table_of old (pre ++ closed version k ∷ post) ≡ table_of old (pre ++ k ∷ post)
  closed_before version old pre k post l o =
      flat_map-append (shown old) pre (closed version k ∷ post) ∙ ap (λ w. table_of old pre ++ (w ++ table_of old post)) same ∙ sym (flat_map-append (shown old) pre (k ∷ post))
    where
      soon : nat_lt old version ≡ true
      soon = grind (arith, nat_tests)

      same : shown old (closed version k) ≡ shown old k
      same = ap (λ t. cond (nat_le k.from old && t) (k.row ∷ []) []) soon ∙ sym (ap (λ t. cond (nat_le k.from old && ends_after t old) (k.row ∷ []) []) o)

  pub closed_settled : (version : ℕ) (pre : List KeptRow) (k : KeptRow) (post : List KeptRow) → IsSettled key (pre ++ k ∷ post) → IsSettled key (pre ++ closed version k ∷ post)
  closed_settled version [] k post h = (λ e. cc, h.1)
  closed_settled version (x ∷ pre) k post h = (λ e. swap (h.0 e), closed_settled version pre k post h.1)
    where
      swap : AllByRecursion (λ j. key x.row j.row ≡ Less) (pre ++ k ∷ post) → AllByRecursion (λ j. key x.row j.row ≡ Less) (pre ++ closed version k ∷ post)
      swap a = let b = all_right _ pre (k ∷ post) a in all_both _ pre (closed version k ∷ post) (all_left _ pre (k ∷ post) a) (b.0, b.1)

  below_same : (a x r : Row) → key a x ≡ Less → key x r ≡ Equal → key a r ≡ Less
  below_same a x r l e = turned key total r a Greater (sym (total.congr x r a e) ∙ turned key total a x Less l)

  lower : (xs : List Row) (x r : Row) (ys : List Row) → IsStrictlySortedBy key (xs ++ x ∷ ys) → key x r ≡ Equal → AllByRecursion (λ a. key a r ≡ Less) xs
  lower xs x r ys s e = map_all _ _ (λ a l. below_same a x r l e) xs (sorted_before key xs x ys s)

  upper : (xs : List Row) (x r : Row) (ys : List Row) → IsStrictlySortedBy key (xs ++ x ∷ ys) → key x r ≡ Equal → AllByRecursion (λ b. key r b ≡ Less) ys
  unfolding IsStrictlySortedBy
  upper xs x r ys s e = map_all _ _ (λ b l. sym (total.congr x r b e) ∙ l) ys (sorted_right key xs (x ∷ ys) s).0

  -- the row of a key, edited
  pub changed-at : (xs : List Row) (x : Row) (ys : List Row) (e : Edit Row) → IsStrictlySortedBy key (xs ++ x ∷ ys) → key x (place e) ≡ Equal → changed key (xs ++ x ∷ ys) e ≡ xs ++ (given e ++ ys)
  changed-at xs x ys e s q =
      changed-past xs (x ∷ ys) e (lower xs x (place e) ys s q) ∙ ap (λ o. xs ++ match_ordering o (x ∷ changed key ys e) (given e ++ ys) (given e ++ x ∷ ys)) q

  pub changed-gap : (xs : List Row) (x r : Row) (ys : List Row) → IsStrictlySortedBy key (xs ++ x ∷ ys) → key x r ≡ Equal → changed key (xs ++ ys) (Put r) ≡ xs ++ r ∷ ys
  changed-gap xs x r ys s q = changed-past xs ys (Put r) (lower xs x r ys s q) ∙ ap (λ w. xs ++ w) (changed-first ys r (upper xs x r ys s q))

  pub free_gap : (xs : List Row) (x r : Row) (ys : List Row) → IsStrictlySortedBy key (xs ++ x ∷ ys) → key x r ≡ Equal → IsFree r (xs ++ ys)
  free_gap xs x r ys s q =
      all_both _ xs ys (map_all _ _ (λ a l e. cc) xs (lower xs x r ys s q)) (map_all _ _ (λ b l e. let no = turned key total r b Less l in cc) ys (upper xs x r ys s q))

  -- a row that is born is kept beside those that were
  pub born_rows : (version : ℕ) (r : Row) (kept : List KeptRow) → IsFresh version r kept → IsPermutation (rows_in kept ++ r ∷ []) (rows_in (changed (kept_by key) kept (Put (born version r))))
  born_rows version r [] f = IsPermutation-refl (r ∷ [])
  born_rows version r (k ∷ ks) f = at (born_rows version r ks f.1) (kept_by key k (born version r)) refl
    where
      clash : (o : Ordering) → key k.row r ≡ o → ordering_then o (nat_cmp k.from version) ≡ Equal → ⊥
      clash Less e g = cc
      clash Equal e g = let less : nat_cmp k.from version ≡ Less = (let l = f.0 e in grind (arith, nat_tests)) in cc
      clash Greater e g = cc

      at : IsPermutation (rows_in ks ++ r ∷ []) (rows_in (changed (kept_by key) ks (Put (born version r)))) → (o : Ordering) → kept_by key k (born version r) ≡ o
          → IsPermutation (k.row ∷ (rows_in ks ++ r ∷ [])) (rows_in (match_ordering o (k ∷ changed (kept_by key) ks (Put (born version r))) (born version r ∷ ks) (born version r ∷ k ∷ ks)))
      at more Less e = IsPermutation-cons k.row _ _ more
      at more Equal e = absurd (clash (key k.row r) refl e)
      at more Greater e = IsPermutation-to_front (k.row ∷ rows_in ks) r

  pub closed_rows : (version : ℕ) (pre : List KeptRow) (k : KeptRow) (post : List KeptRow) → rows_in (pre ++ closed version k ∷ post) ≡ rows_in (pre ++ k ∷ post)
  closed_rows version [] k post = refl
  closed_rows version (x ∷ pre) k post = ap (λ l. x.row ∷ l) (closed_rows version pre k post)

  -- a row with a new key makes a table longer by one
  pub free_length : (xs : List Row) (r : Row) → IsFree r xs → length (changed key xs (Put r)) ≡ length xs + 1
  free_length [] r h = refl
  free_length (x ∷ xs) r h = at (free_length xs r h.1) (key x r) refl
    where
      at : length (changed key xs (Put r)) ≡ length xs + 1 → (o : Ordering) → key x r ≡ o → length (match_ordering o (x ∷ changed key xs (Put r)) (r ∷ xs) (r ∷ x ∷ xs)) ≡ length (x ∷ xs) + 1
      at more Less e = omega arith
      at more Equal e = absurd (h.0 e)
      at more Greater e = omega arith
