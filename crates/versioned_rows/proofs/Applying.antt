-- What lines do to kept rows, one after the other.
use Rattle.std.proofs.Common.{◌≡◌, ◌≢◌, ℕ, ◌<◌, ◌≤◌, ◌+◌, List, [], ◌∷◌, ◌++◌, inl, inr, Option, Some, None, map, refl, sym, ap, ◌∙◌, subst, arith, length, length-append, IsPermutation, append_assoc, slice_get}
use Rattle.std.specs.Cmp.{IsTotalOrder}
use Rattle.std.specs.List.{AllByRecursion, flat_map}
use Rattle.std.specs.List.Sorted.{IsStrictlySortedBy}
use Rattle.std.specs.Ordering.{ordering_then, nat_cmp}
use Rattle.std.specs.declared.cmp.Ordering.{Ordering}
use Rattle.std.specs.declared.cmp.Ordering.TheVariants.{Less, Equal, Greater}
use Rattle.std.proofs.lemmas.List.{append-nil}
use Rattle.std.proofs.lemmas.List.Sorted.{IsPermutation-refl, IsPermutation-trans, IsPermutation-append_left}
use Rattle.cite_schema.specs.Lines.{key_in, brought}
use Rattle.cite_schema.specs.declared.value.Value.{Value}
use Rattle.cite_schema.proofs.Rising.{In, all_at}
use Rattle.stable_order.specs.Rows.{ToldApart}
use Rattle.shared_pages.specs.declared.edit.Edit.{Edit}
use Rattle.shared_pages.specs.declared.edit.Edit.TheVariants.{Put as put, Remove as remove}
use Rattle.shared_pages.specs.Edits.{place, places, given, changed, edited}
use Rattle.shared_pages.proofs.AnyOrder.{in_edited}
use Rattle.shared_pages.proofs.Editing.{edited-append, edited_sorted, changed_sorted}
use Rattle.shared_pages.proofs.Order.{map_all, all_both, all_left, all_right, itself}
use Rattle.versioned_rows.specs.declared.rows.KeptRow.{KeptRow}
use Rattle.cite_schema.specs.declared.line.Line.{Line}
use Rattle.cite_schema.specs.declared.line.Line.TheVariants.{Put, Change, Remove}
use Rattle.versioned_rows.specs.Parts.{line_row, closed, born, close, edits_of, puts, all_puts, removes, all_removes}
use Rattle.versioned_rows.specs.Keeping.{kept_by, kept_by_total, WasThere, IsSettled}
use Rattle.versioned_rows.specs.ChangeLaws.{IsThere}
use Rattle.versioned_rows.proofs.Tables.{table_of}
use Rattle.versioned_rows.proofs.Lines.{edit_of}
use Rattle.versioned_rows.proofs.Sums.{brought_by, brought-cons}
use Rattle.versioned_rows.proofs.Stepping.{Row, opens, changed_every, IsFresh, IsFree, earlier, born_opens, born_settled, born_before, closed_at, opens-closed, opens-split, closed_before, closed_settled, changed-at, changed-gap, free_gap, born_rows, closed_rows, rows_in, free_length}

pub in_split : {X : Type 0} (x : X) (xs : List X) → In x xs → (pre : List X) × (post : List X) × (xs ≡ pre ++ x ∷ post)
in_split x [] i = absurd i
in_split x (y ∷ ys) (inl e) = ([], ys, ap (λ z. z ∷ ys) (sym e))
in_split x (y ∷ ys) (inr i) = let more = in_split x ys i in (y ∷ more.0, more.1, ap (λ l. y ∷ l) more.2)

pub all_two : {X : Type 0} (P Q R : X → Type 0) → ((x : X) → P x → Q x → R x) → (xs : List X) → AllByRecursion P xs → AllByRecursion Q xs → AllByRecursion R xs
all_two P Q R f [] h k = tt
all_two P Q R f (x ∷ xs) h k = (f x h.0 k.0, all_two P Q R f xs h.1 k.1)

pub flat_all : {X Y : Type 0} (P : Y → Type 0) (f : X → List Y) (xs : List X) → AllByRecursion (λ x. AllByRecursion P (f x)) xs → AllByRecursion P (flat_map f xs)
flat_all P f [] h = tt
flat_all P f (x ∷ xs) h = all_both P (f x) (flat_map f xs) h.0 (flat_all P f xs h.1)

pub edited_every : {T : Type 0} (cmp : T → T → Ordering) (P : T → Type 0) (xs : List T) (es : List (Edit T)) → AllByRecursion P xs → AllByRecursion (λ e. AllByRecursion P (given e)) es → AllByRecursion P (edited cmp xs es)
edited_every cmp P xs [] h g = h
edited_every cmp P xs (e ∷ es) h g = edited_every cmp P (changed cmp xs e) es (changed_every cmp P xs e h g.0) g.1

given_at : {T : Type 0} (P : T → Type 0) (e : Edit T) → P (place e) → AllByRecursion P (given e)
given_at P (put x) p = (p, tt)
given_at P (remove x) p = tt

told_both : {X : Type 0} (R : X → X → ℕ → Ordering) (xs ys : List X) → ToldApart R xs → ToldApart R ys → AllByRecursion (λ x. AllByRecursion (λ y. R x y 0 ≢ Equal) ys) xs → ToldApart R (xs ++ ys)
told_both R [] ys h k c = k
told_both R (x ∷ xs) ys h k c = (all_both _ xs ys h.0 c.0, told_both R xs ys h.1 k c.1)

first_equal : (o p : Ordering) → ordering_then o p ≡ Equal → o ≡ Equal
first_equal Less p e = cc
first_equal Equal p e = refl
first_equal Greater p e = cc

module _ (key : Row → Row → Ordering) (total : IsTotalOrder key) where
  ktotal : IsTotalOrder (kept_by key)
  ktotal = kept_by_total key total

  -- a kept row of the key that stands
  pub record IsEnding (kept : List KeptRow) (r : Row) (found : Option KeptRow) : Type 0 where
    pub k : KeptRow
    pub is : found ≡ Some k
    pub among : In k kept
    pub stands : k.until ≡ None
    pub same : key k.row r ≡ Equal

  -- what a line needs of kept rows
  abbrev pub IsReady : ℕ → List KeptRow → Line → Option KeptRow → Type 0
  IsReady version kept (Put r) found = IsFresh key total version r kept × IsFree key total r (opens kept)
  IsReady version kept (Change r) found = IsFresh key total version r kept × IsEnding kept r found
  IsReady version kept (Remove v) found = IsFresh key total version (v ∷ []) kept × IsEnding kept (v ∷ []) found

  -- what a line does
  pub record IsAfter (version : ℕ) (kept new : List KeptRow) (line : Line) : Type 0 where
    pub rows : opens new ≡ changed key (opens kept) (edit_of line)
    pub before : (old : ℕ) → old < version → table_of old new ≡ table_of old kept
    pub settled : IsSettled key new
    pub moved : IsPermutation (rows_in kept ++ brought_by line) (rows_in new)
    pub counts : length (opens new) + removes line ≡ length (opens kept) + puts line

  ended : (version : ℕ) (kept : List KeptRow) (v : Value) (found : Option KeptRow) → IsEnding kept (v ∷ []) found → IsStrictlySortedBy (kept_by key) kept → IsStrictlySortedBy key (opens kept) → IsSettled key kept
      → IsAfter version kept (edited (kept_by key) kept (close version found)) (Remove v)
  ended version kept v found h s t d =
      let k = h.k in
      let parts = in_split k kept h.among in
      let pre = parts.0 in
      let post = parts.1 in
      let rows : opens kept ≡ opens pre ++ k.row ∷ opens post = ap opens parts.2 ∙ opens-split key total pre k post h.stands in
      let where_ended : edited (kept_by key) kept (close version found) ≡ pre ++ closed version k ∷ post = ap (λ f. edited (kept_by key) kept (close version f)) h.is ∙ closed_at key total version kept pre k post parts.2 s in
      record {
        rows = ap opens where_ended ∙ opens-closed key total version pre k post
            ∙ sym (ap (λ l. changed key l (remove (v ∷ []))) rows ∙ changed-at key total (opens pre) k.row (opens post) (remove (v ∷ [])) (subst (IsStrictlySortedBy key) rows t) h.same);
        before = λ old l. ap (table_of old) where_ended ∙ closed_before key total version old pre k post l h.stands ∙ sym (ap (table_of old) parts.2);
        settled = subst (IsSettled key) (sym where_ended) (closed_settled key total version pre k post (subst (IsSettled key) parts.2 d));
        moved =
            let same : rows_in kept ++ [] ≡ rows_in (edited (kept_by key) kept (close version found)) =
            append-nil (rows_in kept) ∙ ap rows_in parts.2 ∙ sym (closed_rows key total version pre k post) ∙ sym (ap rows_in where_ended) in
            subst (IsPermutation (rows_in kept ++ [])) same (IsPermutation-refl (rows_in kept ++ []));
        counts =
            let now : length (opens (edited (kept_by key) kept (close version found))) ≡ length (opens pre ++ opens post) = ap length (ap opens where_ended ∙ opens-closed key total version pre k post) in
            let was : length (opens kept) ≡ length (opens pre ++ k.row ∷ opens post) = ap length rows in
            let a = length-append (opens pre) (opens post) in
            let b = length-append (opens pre) (k.row ∷ opens post) in
            omega arith;
      }

  replaced : (version : ℕ) (kept : List KeptRow) (r : Row) (found : Option KeptRow) → IsFresh key total version r kept → IsEnding kept r found → IsStrictlySortedBy (kept_by key) kept → IsStrictlySortedBy key (opens kept) → IsSettled key kept
      → IsAfter version kept (edited (kept_by key) kept (close version found ++ put (born version r) ∷ [])) (Change r)
  replaced version kept r found fresh h s t d =
      let k = h.k in
      let parts = in_split k kept h.among in
      let pre = parts.0 in
      let post = parts.1 in
      let mid = pre ++ closed version k ∷ post in
      let rows : opens kept ≡ opens pre ++ k.row ∷ opens post = ap opens parts.2 ∙ opens-split key total pre k post h.stands in
      let in_order : IsStrictlySortedBy key (opens pre ++ k.row ∷ opens post) = subst (IsStrictlySortedBy key) rows t in
      let where_ended : changed (kept_by key) kept (put (closed version k)) ≡ mid = closed_at key total version kept pre k post parts.2 s in
      let new : edited (kept_by key) kept (close version found ++ put (born version r) ∷ []) ≡ changed (kept_by key) mid (put (born version r)) =
      ap (λ f. edited (kept_by key) kept (close version f ++ put (born version r) ∷ [])) h.is ∙ ap (λ l. changed (kept_by key) l (put (born version r))) where_ended in
      let sorted : IsStrictlySortedBy (kept_by key) mid = subst (IsStrictlySortedBy (kept_by key)) where_ended (changed_sorted (kept_by key) ktotal kept (put (closed version k)) s) in
      let old_fresh : IsFresh key total version r (pre ++ k ∷ post) = subst (IsFresh key total version r) parts.2 fresh in
      let fresh_mid : IsFresh key total version r mid =
      all_both _ pre (closed version k ∷ post) (all_left _ pre (k ∷ post) old_fresh) ((all_right _ pre (k ∷ post) old_fresh).0, (all_right _ pre (k ∷ post) old_fresh).1) in
      let free : IsFree key total r (opens mid) = subst (IsFree key total r) (sym (opens-closed key total version pre k post)) (free_gap key total (opens pre) k.row r (opens post) in_order h.same) in
      record {
        rows = ap opens new ∙ born_opens key total version r mid sorted fresh_mid free ∙ ap (λ l. changed key l (put r)) (opens-closed key total version pre k post)
            ∙ changed-gap key total (opens pre) k.row r (opens post) in_order h.same
            ∙ sym (ap (λ l. changed key l (put r)) rows ∙ changed-at key total (opens pre) k.row (opens post) (put r) in_order h.same);
        before = λ old l. ap (table_of old) new ∙ born_before key total version old r mid l fresh_mid ∙ closed_before key total version old pre k post l h.stands ∙ sym (ap (table_of old) parts.2);
        settled = subst (IsSettled key) (sym new) (born_settled key total version r mid sorted fresh_mid free (closed_settled key total version pre k post (subst (IsSettled key) parts.2 d)));
        moved = subst (λ w. IsPermutation (w ++ r ∷ []) (rows_in (edited (kept_by key) kept (close version found ++ put (born version r) ∷ []))))
            (closed_rows key total version pre k post ∙ sym (ap rows_in parts.2))
            (subst (λ w. IsPermutation (rows_in mid ++ r ∷ []) (rows_in w)) (sym new) (born_rows key total version r mid fresh_mid));
        counts =
            let now : length (opens (edited (kept_by key) kept (close version found ++ put (born version r) ∷ []))) ≡ length (opens pre ++ r ∷ opens post) =
            ap length (ap opens new ∙ born_opens key total version r mid sorted fresh_mid free ∙ ap (λ l. changed key l (put r)) (opens-closed key total version pre k post) ∙ changed-gap key total (opens pre) k.row r (opens post) in_order h.same) in
            let was : length (opens kept) ≡ length (opens pre ++ k.row ∷ opens post) = ap length rows in
            let a = length-append (opens pre) (r ∷ opens post) in
            let b = length-append (opens pre) (k.row ∷ opens post) in
            omega arith;
      }

  line_after : (version : ℕ) (kept : List KeptRow) (line : Line) (found : Option KeptRow) → IsReady version kept line found → IsStrictlySortedBy (kept_by key) kept → IsStrictlySortedBy key (opens kept) → IsSettled key kept
      → IsAfter version kept (edited (kept_by key) kept (edits_of version line found)) line
  line_after version kept (Put r) found h s t d = record {
    rows = born_opens key total version r kept s h.0 h.1;
    before = λ old l. born_before key total version old r kept l h.0;
    settled = born_settled key total version r kept s h.0 h.1 d;
    moved = born_rows key total version r kept h.0;
    counts = let longer = ap length (born_opens key total version r kept s h.0 h.1) ∙ free_length key total (opens kept) r h.1 in omega arith;
  }
  line_after version kept (Change r) found h s t d = replaced version kept r found h.0 h.1 s t d
  line_after version kept (Remove v) found h s t d = ended version kept v found h.1 s t d

  -- the edits of a line are at its key
  abbrev pub AreAt : Row → List (Edit KeptRow) → Type 0
  AreAt r es = AllByRecursion (λ (e : Edit KeptRow). key (place e).row r ≡ Equal) es

  close_at : (version : ℕ) (kept : List KeptRow) (r : Row) (found : Option KeptRow) → IsEnding kept r found → AreAt r (close version found)
  close_at version kept r found h = subst (λ f. AreAt r (close version f)) (sym h.is) (h.same, tt)

  edits_at : (version : ℕ) (kept : List KeptRow) (line : Line) (found : Option KeptRow) → IsReady version kept line found → AreAt (line_row line) (edits_of version line found)
  edits_at version kept (Put r) found h = (itself key total r, tt)
  edits_at version kept (Change r) found h = all_both _ (close version found) (put (born version r) ∷ []) (close_at version kept r found h.1) (itself key total r, tt)
  edits_at version kept (Remove v) found h = close_at version kept (v ∷ []) found h.1

  elsewhere : (a l m : Row) → key a l ≡ Equal → key l m ≢ Equal → key a m ≢ Equal
  elsewhere a l m e n f = n (sym (total.congr a l m e) ∙ f)

  fresh_later : (version : ℕ) (kept : List KeptRow) (es : List (Edit KeptRow)) (l m : Row) → AreAt l es → key l m ≢ Equal → IsFresh key total version m kept → IsFresh key total version m (edited (kept_by key) kept es)
  fresh_later version kept es l m at n h =
      edited_every (kept_by key) (λ k. key k.row m ≡ Equal → k.from < version) kept es h
      (map_all _ _ (λ e q. given_at (λ k. key k.row m ≡ Equal → k.from < version) e (λ f. absurd (elsewhere (place e).row l m q n f))) es at)

  ending_later : (kept : List KeptRow) (es : List (Edit KeptRow)) (l m : Row) (found : Option KeptRow) → AreAt l es → key l m ≢ Equal → IsEnding kept m found → IsEnding (edited (kept_by key) kept es) m found
  ending_later kept es l m found at n h = record {
    k = h.k;
    is = h.is;
    among = in_edited (kept_by key) ktotal h.k kept es h.among (map_all _ _ (λ e q f. apart e q (first_equal (key h.k.row (place e).row) (nat_cmp h.k.from (place e).from) f)) es at);
    stands = h.stands;
    same = h.same;
  }
    where
      apart : (e : Edit KeptRow) → key (place e).row l ≡ Equal → key h.k.row (place e).row ≡ Equal → ⊥
      apart e q f = let here : key h.k.row l ≡ Equal = total.congr h.k.row (place e).row l f ∙ q in elsewhere h.k.row l m here n h.same

  free_later : (kept new : List KeptRow) (line : Line) (m : Row) → opens new ≡ changed key (opens kept) (edit_of line) → key (line_row line) m ≢ Equal → IsFree key total m (opens kept) → IsFree key total m (opens new)
  free_later kept new line m is n h = subst (IsFree key total m) (sym is) (changed_every key (λ x. key x m ≢ Equal) (opens kept) (edit_of line) h (by line n))
    where
      by : (line : Line) → key (line_row line) m ≢ Equal → AllByRecursion (λ x. key x m ≢ Equal) (given (edit_of line))
      by (Put r) n = (n, tt)
      by (Change r) n = (n, tt)
      by (Remove v) n = tt

  -- a line that is ready stays ready after lines of other keys
  ready_later : (version : ℕ) (kept : List KeptRow) (line more : Line) (found other : Option KeptRow) → IsReady version kept line found → IsAfter version kept (edited (kept_by key) kept (edits_of version line found)) line
      → key (line_row line) (line_row more) ≢ Equal → IsReady version kept more other → IsReady version (edited (kept_by key) kept (edits_of version line found)) more other
  ready_later version kept line (Put r) found other l a n h =
      (fresh_later version kept (edits_of version line found) (line_row line) r (edits_at version kept line found l) n h.0, free_later kept (edited (kept_by key) kept (edits_of version line found)) line r a.rows n h.1)
  ready_later version kept line (Change r) found other l a n h = (
    fresh_later version kept (edits_of version line found) (line_row line) r (edits_at version kept line found l) n h.0,
    ending_later kept (edits_of version line found) (line_row line) r other (edits_at version kept line found l) n h.1,
  )
  ready_later version kept line (Remove v) found other l a n h = (
    fresh_later version kept (edits_of version line found) (line_row line) (v ∷ []) (edits_at version kept line found l) n h.0,
    ending_later kept (edits_of version line found) (line_row line) (v ∷ []) other (edits_at version kept line found l) n h.1,
  )

  module _ (found : Line → Option KeptRow) where
    -- the edits of lines
    abbrev pub all_edits : ℕ → List Line → List (Edit KeptRow)
    all_edits version lines = flat_map (λ l. edits_of version l (found l)) lines

    -- what lines do
    pub record AreAfter (version : ℕ) (kept new : List KeptRow) (lines : List Line) : Type 0 where
      pub rows : opens new ≡ edited key (opens kept) (map edit_of lines)
      pub before : (old : ℕ) → old < version → table_of old new ≡ table_of old kept
      pub settled : IsSettled key new
      pub moved : IsPermutation (rows_in kept ++ brought lines) (rows_in new)
      pub counts : length (opens new) + all_removes lines ≡ length (opens kept) + all_puts lines

    pub lines_after : (version : ℕ) (kept : List KeptRow) (lines : List Line) → AllByRecursion (λ l. IsReady version kept l (found l)) lines → ToldApart (λ l m c. key (line_row l) (line_row m)) lines
        → IsStrictlySortedBy (kept_by key) kept → IsStrictlySortedBy key (opens kept) → IsSettled key kept → AreAfter version kept (edited (kept_by key) kept (all_edits version lines)) lines
    lines_after version kept [] h a s t d = record { rows = refl; before = λ old l. refl; settled = d; moved = subst (λ w. IsPermutation w (rows_in kept)) (sym (append-nil (rows_in kept))) (IsPermutation-refl (rows_in kept)); counts = omega arith }
    lines_after version kept (l ∷ ls) h a s t d =
        let es = edits_of version l (found l) in
        let mid = edited (kept_by key) kept es in
        let here = line_after version kept l (found l) h.0 s t d in
        let more = lines_after version mid ls
        (all_two (λ m. key (line_row l) (line_row m) ≢ Equal) (λ m. IsReady version kept m (found m)) (λ m. IsReady version mid m (found m)) (λ m n r. ready_later version kept l m (found l) (found m) h.0 here n r) ls a.0 h.1)
        a.1 (edited_sorted (kept_by key) ktotal kept es s) (subst (IsStrictlySortedBy key) (sym here.rows) (changed_sorted key total (opens kept) (edit_of l) t)) here.settled in
        let joined = edited-append (kept_by key) ktotal kept es (all_edits version ls) in
        record {
          rows = ap opens joined ∙ more.rows ∙ ap (λ w. edited key w (map edit_of ls)) here.rows;
          before = λ old b. ap (table_of old) joined ∙ more.before old b ∙ here.before old b;
          settled = subst (IsSettled key) (sym joined) more.settled;
          moved = subst (λ w. IsPermutation w (rows_in (edited (kept_by key) kept (all_edits version (l ∷ ls)))))
              (append_assoc (rows_in kept) (brought_by l) (brought ls) ∙ ap (λ w. rows_in kept ++ w) (sym (brought-cons l ls)))
              (subst (λ w. IsPermutation ((rows_in kept ++ brought_by l) ++ brought ls) (rows_in w)) (sym joined)
              (IsPermutation-trans _ (rows_in mid ++ brought ls) _ (IsPermutation-append_left (brought ls) (rows_in kept ++ brought_by l) (rows_in mid) here.moved) more.moved));
          counts = let n = ap (λ l. length (opens l)) joined in let a = more.counts in let b = here.counts in omega arith;
        }

    line_apart : (version : ℕ) (kept : List KeptRow) (line : Line) (o : Option KeptRow) → IsReady version kept line o → ToldApart (places (kept_by key)) (edits_of version line o)
    line_apart version kept (Put r) o h = (tt, tt)
    line_apart version kept (Change r) o h =
        subst (λ f. ToldApart (places (kept_by key)) (close version f ++ put (born version r) ∷ [])) (sym h.1.is)
        ((λ e. let less = earlier key total version r h.1.k h.1.same (all_at (λ k. key k.row r ≡ Equal → k.from < version) h.1.k kept h.0 h.1.among h.1.same) in cc, tt), (tt, tt))
    line_apart version kept (Remove v) o h = subst (λ f. ToldApart (places (kept_by key)) (close version f)) (sym h.1.is) (tt, tt)

    -- the edits of lines of different keys are at different places
    pub edits_apart : (version : ℕ) (kept : List KeptRow) (lines : List Line) → AllByRecursion (λ l. IsReady version kept l (found l)) lines → ToldApart (λ l m c. key (line_row l) (line_row m)) lines
        → ToldApart (places (kept_by key)) (all_edits version lines)
    edits_apart version kept [] h a = tt
    edits_apart version kept (l ∷ ls) h a =
        told_both (places (kept_by key)) (edits_of version l (found l)) (all_edits version ls) (line_apart version kept l (found l) h.0) (edits_apart version kept ls h.1 a.1)
        (map_all _ _ (λ e q. flat_all (λ f. kept_by key (place e) (place f) ≢ Equal) (λ m. edits_of version m (found m)) ls
        (all_two (λ m. key (line_row l) (line_row m) ≢ Equal) (λ m. IsReady version kept m (found m)) (λ m. AllByRecursion (λ f. kept_by key (place e) (place f) ≢ Equal) (edits_of version m (found m)))
        (λ m n r. map_all _ _ (λ f p g. apart e m f q p n (first_equal (key (place e).row (place f).row) (nat_cmp (place e).from (place f).from) g)) (edits_of version m (found m)) (edits_at version kept m (found m) r)) ls a.0 h.1))
        (edits_of version l (found l)) (edits_at version kept l (found l) h.0))
      where
        apart : (e : Edit KeptRow) (m : Line) (f : Edit KeptRow) → key (place e).row (line_row l) ≡ Equal → key (place f).row (line_row m) ≡ Equal → key (line_row l) (line_row m) ≢ Equal → key (place e).row (place f).row ≡ Equal → ⊥
        apart e m f q p n g = let there : key (place e).row (line_row m) ≡ Equal = total.congr (place e).row (place f).row (line_row m) g ∙ p in elsewhere (place e).row (line_row l) (line_row m) q n there

    born_there : (version : ℕ) (r : Row) → 1 ≤ version → IsThere (slice_get r 0) → WasThere version (born version r)
    born_there version r l k = record { key = k; first = l; from = omega arith; until = tt }

    closed_there : (version last : ℕ) (k : KeptRow) → last < version → WasThere last k → WasThere version (closed version k)
    closed_there version last k l h = record { key = h.key; first = h.first; from = (let f = h.from in omega arith); until = (let f = h.from in (omega arith, omega arith)) }

    line_bound : (version last : ℕ) (kept : List KeptRow) (line : Line) (o : Option KeptRow) → last < version → IsThere (key_in line) → AllByRecursion (WasThere last) kept → IsReady version kept line o → AllByRecursion (λ e. AllByRecursion (WasThere version) (given e)) (edits_of version line o)
    line_bound version last kept (Put r) o l i b h = ((born_there version r (omega arith) i, tt), tt)
    line_bound version last kept (Change r) o l i b h =
        subst (λ f. AllByRecursion (λ e. AllByRecursion (WasThere version) (given e)) (close version f ++ put (born version r) ∷ [])) (sym h.1.is)
        ((closed_there version last h.1.k l (all_at (WasThere last) h.1.k kept b h.1.among), tt), ((born_there version r (omega arith) i, tt), tt))
    line_bound version last kept (Remove v) o l i b h =
        subst (λ f. AllByRecursion (λ e. AllByRecursion (WasThere version) (given e)) (close version f)) (sym h.1.is)
        ((closed_there version last h.1.k l (all_at (WasThere last) h.1.k kept b h.1.among), tt), tt)

    edits_bound : (version last : ℕ) (kept : List KeptRow) (lines : List Line) → last < version → AllByRecursion (λ l. IsThere (key_in l)) lines → AllByRecursion (WasThere last) kept → AllByRecursion (λ l. IsReady version kept l (found l)) lines
        → AllByRecursion (λ e. AllByRecursion (WasThere version) (given e)) (all_edits version lines)
    edits_bound version last kept lines l i b h =
        flat_all _ (λ m. edits_of version m (found m)) lines
        (all_two (λ m. IsThere (key_in m)) (λ m. IsReady version kept m (found m)) (λ m. AllByRecursion (λ e. AllByRecursion (WasThere version) (given e)) (edits_of version m (found m))) (λ m j r. line_bound version last kept m (found m) l j b r) lines i h)

    -- what is kept afterwards was there by the version
    pub lines_bound : (version last : ℕ) (kept : List KeptRow) (lines : List Line) → last < version → ((k : KeptRow) → WasThere last k → WasThere version k) → AllByRecursion (λ l. IsThere (key_in l)) lines
        → AllByRecursion (WasThere last) kept → AllByRecursion (λ l. IsReady version kept l (found l)) lines → AllByRecursion (WasThere version) (edited (kept_by key) kept (all_edits version lines))
    lines_bound version last kept lines l up i b h = edited_every (kept_by key) (WasThere version) kept (all_edits version lines) (map_all _ _ up kept b) (edits_bound version last kept lines l i b h)
