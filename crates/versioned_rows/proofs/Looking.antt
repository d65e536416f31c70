-- The kept row of a key that was not ended is the last one up to the key, if any is.
use Rattle.std.proofs.Common.{◌≡◌, ◌≢◌, ℕ, ◌≤◌, Bool, true, false, cond, ◌&&◌, List, [], ◌∷◌, ◌++◌, inl, inr, Option, Some, None, refl, sym, ap, ◌∙◌, subst, arith}
use Rattle.std.specs.Cmp.{IsTotalOrder}
use Rattle.std.specs.List.{AllByRecursion, filter}
use Rattle.std.specs.Option.{is_none}
use Rattle.std.specs.Ordering.{ordering_then, nat_cmp, is_eq, is_le}
use Rattle.std.specs.declared.cmp.Ordering.{Ordering}
use Rattle.std.specs.declared.cmp.Ordering.TheVariants.{Less, Equal, Greater}
use Rattle.std.proofs.lemmas.Bool.Decides.{nat_tests}
use Rattle.cite_schema.proofs.Rising.{In}
use Rattle.shared_pages.specs.Probes.{last_of, last_up_to}
use Rattle.shared_pages.proofs.Order.{map_all, all_both, turned}
use Rattle.shared_pages.proofs.Probing.{filter-append, filter_none, last_of-append}
use Rattle.versioned_rows.specs.declared.rows.KeptRow.{KeptRow}
use Rattle.versioned_rows.specs.Parts.{open_at, tested}
use Rattle.versioned_rows.specs.Keeping.{kept_by, WasThere, IsSettled}
use Rattle.versioned_rows.proofs.Applying.{in_split, IsEnding}
use Rattle.versioned_rows.proofs.Stepping.{Row, opened_by, opened, opens, IsFree}

was_none : {X : Type 0} (o : Option X) → is_none o ≡ true → o ≡ None
was_none None e = refl
was_none (Some x) e = cc

was_equal : (o : Ordering) → is_eq o ≡ true → o ≡ Equal
was_equal Less e = cc
was_equal Equal e = refl
was_equal Greater e = cc

and_parts : (a b : Bool) → (a && b) ≡ true → (a ≡ true) × (b ≡ true)
and_parts true b e = (refl, e)
and_parts false b e = cc

all_filtered : {X : Type 0} (P : X → Type 0) (p : X → Bool) (xs : List X) → AllByRecursion P xs → AllByRecursion P (filter p xs)
all_filtered P p [] h = tt
all_filtered {X} P p (x ∷ xs) h = by (all_filtered P p xs h.1) (p x)
  where
    by : AllByRecursion P (filter p xs) → (b : Bool) → AllByRecursion P (cond b (x ∷ filter p xs) (filter p xs))
    by more true = (h.0, more)
    by more false = more

last_has : {X : Type 0} (P : X → Type 0) (xs : List X) (x : X) → AllByRecursion P xs → last_of xs ≡ Some x → P x
last_has P [] x h e = cc
last_has P (y ∷ []) x h e = let same : y ≡ x = cc in subst P same h.0
last_has P (y ∷ z ∷ zs) x h e = last_has P (z ∷ zs) x h.1 e

module _ (key : Row → Row → Ordering) (total : IsTotalOrder key) where
  -- no row of the key is found
  pub none_open : (r : Row) (kept : List KeptRow) → open_at key r kept ≡ None → AllByRecursion (λ k. (is_none k.until && is_eq (key k.row r)) ≡ false) kept
  none_open r [] e = tt
  none_open r (k ∷ ks) e = by (is_none k.until && is_eq (key k.row r)) refl (λ f. none_open r ks f) e
    where
      by : (b : Bool) → (is_none k.until && is_eq (key k.row r)) ≡ b → (open_at key r ks ≡ None → AllByRecursion (λ k. (is_none k.until && is_eq (key k.row r)) ≡ false) ks) → cond b (Some k) (open_at key r ks) ≡ None
          → ((is_none k.until && is_eq (key k.row r)) ≡ false) × AllByRecursion (λ k. (is_none k.until && is_eq (key k.row r)) ≡ false) ks
      by true t more e = cc
      by false t more e = (t, more e)

  -- then none stands
  pub none_free : (r : Row) (kept : List KeptRow) → open_at key r kept ≡ None → IsFree key total r (opens kept)
  none_free r kept e = by kept (none_open r kept e)
    where
      at : (k : KeptRow) (o : Option ℕ) → (is_none o && is_eq (key k.row r)) ≡ false → AllByRecursion (λ x. key x r ≢ Equal) (opened_by o k.row)
      at k None f = (λ q. let yes : is_eq (key k.row r) ≡ true = ap is_eq q in let no : true ≡ false = sym yes ∙ f in cc, tt)
      at k (Some to) f = tt

      by : (kept : List KeptRow) → AllByRecursion (λ k. (is_none k.until && is_eq (key k.row r)) ≡ false) kept → IsFree key total r (opens kept)
      by [] h = tt
      by (k ∷ ks) h = all_both _ (opened k) (opens ks) (at k k.until h.0) (by ks h.1)

  -- the row that is found stands and has the key
  pub found_ending : (r : Row) (kept : List KeptRow) (k : KeptRow) → open_at key r kept ≡ Some k → IsEnding key total kept r (Some k)
  found_ending r [] k e = cc
  found_ending r (j ∷ js) k e = by (is_none j.until && is_eq (key j.row r)) refl (λ f. found_ending r js k f) e
    where
      by : (b : Bool) → (is_none j.until && is_eq (key j.row r)) ≡ b → (open_at key r js ≡ Some k → IsEnding key total js r (Some k)) → cond b (Some j) (open_at key r js) ≡ Some k → IsEnding key total (j ∷ js) r (Some k)
      by true t more e =
          let same : k ≡ j = cc in
          let parts = and_parts (is_none j.until) (is_eq (key j.row r)) t in
          record { k = k; is = refl; among = inl same; stands = ap (λ (x : KeptRow). x.until) same ∙ was_none j.until parts.0; same = ap (λ (x : KeptRow). key x.row r) same ∙ was_equal (key j.row r) parts.1 }
      by false t more e = let m = more e in record { k = m.k; is = m.is; among = inr m.among; stands = m.stands; same = m.same }

  -- a row that stands is the last up to its key
  pub open_last : (r : Row) (kept : List KeptRow) (probe k : KeptRow) → probe.row ≡ r → k.from ≤ probe.from → IsSettled key kept → In k kept → k.until ≡ None → key k.row r ≡ Equal → last_up_to (kept_by key) probe kept ≡ Some k
  open_last r kept probe k is l d i o q =
      let parts = in_split k kept i in
      let pre = parts.0 in
      let post = parts.1 in
      let behind : AllByRecursion (λ j. key k.row j.row ≡ Less) post = behind_it pre post (subst (IsSettled key) parts.2 d) in
      ap last_of (ap (filter p) parts.2 ∙ filter-append p pre (k ∷ post)
      ∙ ap (λ w. filter p pre ++ w) (ap (λ b. cond b (k ∷ filter p post) (filter p post)) reached ∙ ap (λ w. k ∷ w) (filter_none p post (map_all _ _ (λ j m. above j m) post behind))))
      ∙ last_of-append (filter p pre) k []
    where
      p : KeptRow → Bool
      p x = is_le (kept_by key x probe)

      behind_it : (pre post : List KeptRow) → IsSettled key (pre ++ k ∷ post) → AllByRecursion (λ j. key k.row j.row ≡ Less) post
      behind_it [] post h = h.0 o
      behind_it (x ∷ pre) post h = behind_it pre post h.1

      here : key k.row probe.row ≡ Equal
      here = ap (key k.row) is ∙ q

      at_most : is_le (nat_cmp k.from probe.from) ≡ true
      at_most = grind (arith, nat_tests)

      reached : is_le (kept_by key k probe) ≡ true
      reached = ap (λ o. is_le (ordering_then o (nat_cmp k.from probe.from))) here ∙ at_most

      above : (j : KeptRow) → key k.row j.row ≡ Less → is_le (kept_by key j probe) ≡ false
      above j m =
          let far : key j.row probe.row ≡ Greater = turned key total probe.row j.row Less (sym (total.congr k.row probe.row j.row here) ∙ m) in
          ap (λ o. is_le (ordering_then o (nat_cmp j.from probe.from))) far

  -- the last row up to a key, tested, is the one that stands, if any does
  pub tested_last : (r : Row) (kept : List KeptRow) (probe : KeptRow) → probe.row ≡ r → AllByRecursion (WasThere probe.from) kept → IsSettled key kept → tested key r (last_up_to (kept_by key) probe kept) ≡ open_at key r kept
  tested_last r kept probe is b d = by (open_at key r kept) refl
    where
      none : (o : Option KeptRow) → last_up_to (kept_by key) probe kept ≡ o → open_at key r kept ≡ None → tested key r o ≡ None
      none None e f = refl
      none (Some k) e f =
          ap (λ t. cond t (Some k) None)
          (last_has (λ k. (is_none k.until && is_eq (key k.row r)) ≡ false) (filter (λ x. is_le (kept_by key x probe)) kept) k (all_filtered _ (λ x. is_le (kept_by key x probe)) kept (none_open r kept f)) e)

      by : (o : Option KeptRow) → open_at key r kept ≡ o → tested key r (last_up_to (kept_by key) probe kept) ≡ open_at key r kept
      by None e = none (last_up_to (kept_by key) probe kept) refl e ∙ sym e
      by (Some j) e =
          let h = found_ending r kept j e in
          let k = h.k in
          let c = all_in_at kept k b h.among in
          ap (tested key r) (open_last r kept probe k is c.from d h.among h.stands h.same)
          ∙ ap (λ o. cond (is_none o && is_eq (key k.row r)) (Some k) None) h.stands ∙ ap (λ o. cond (is_eq o) (Some k) None) h.same ∙ sym (e ∙ h.is)
        where
          all_in_at : (xs : List KeptRow) (x : KeptRow) → AllByRecursion (WasThere probe.from) xs → In x xs → WasThere probe.from x
          all_in_at [] x h i = absurd i
          all_in_at (y ∷ ys) x h (inl e) = subst (WasThere probe.from) (sym e) h.0
          all_in_at (y ∷ ys) x h (inr i) = all_in_at ys x h.1 i
