-- The first line that breaks a rule, and lines that break none.
use Rattle.std.proofs.Common.{◌≡◌, ◌≢◌, ◌≤◌, ◌+◌, ℕ, suc, Bool, true, false, cond, List, [], ◌∷◌, ◌++◌, Option, Some, None, map, length, refl, sym, ap, ◌∙◌, subst, arith, append_assoc, append-nil, length-append}
use Rattle.std.specs.Prelude.{nat_eq, is_none, if◌then◌else◌}
use Rattle.std.specs.List.{position, position_or_len}
use Rattle.std.specs.Option.{option_map, option_or}
use Rattle.std.specs.Ordering.{is_eq, ordering_reverse}
use Rattle.std.specs.declared.cmp.Ordering.{Ordering}
use Rattle.std.specs.declared.cmp.Ordering.TheVariants.{Less, Equal, Greater}
use Rattle.std.proofs.Math.Seq.{get_or-append_seam}
use Rattle.std.proofs.lemmas.Bool.{ltb-false, le-ltb}
use Rattle.std.proofs.lemmas.Bool.Decides.{nat_tests}
use Rattle.cite_schema.specs.declared.value.Value.{Value}
use Rattle.cite_schema.specs.declared.schema.Column.{Column}
use Rattle.cite_schema.specs.Tables.{key_cmp, has_key}
use Rattle.cite_schema.specs.TableTexts.{all_some, cell_of, cells_in, bad_cell_in, row_of}
use Rattle.cite_schema.proofs.Arranging.{arranged}
use Rattle.cite_schema.proofs.Keys.{apart_more, none_apart}
use Rattle.cite_schema.proofs.Orders.{key_total}
use Rattle.cite_schema.proofs.Rising.{Differ, differ_from_rises}
use Rattle.cite_schema.proofs.TableTexts.{before_some, has_table}
use Rattle.cite_cli.specs.declared.refusal.Refusal.{Refusal}
use Rattle.cite_cli.specs.declared.refusal.Refusal.TheVariants.{BadWidth, BadCell, KeyTwice}
use Rattle.cite_cli.specs.Refusals.{own_fault, key_fault, line_fault, lines_fault, FirstBrokenIsTold, TablesBreakNone}
use Rattle.cite_cli.proofs.LineFaults.{none_first}

-- A line that breaks no rule by itself spells a row.

not_there : (b : Bool) (k : ℕ) → cond b (Some k) None ≡ None → b ≡ false
not_there true k e = absurd (cc)
not_there false k e = refl

no_position : {A : Type 0} (p : A → Bool) (x : A) (xs : List A) → position p (x ∷ xs) ≡ None → (p x ≡ false) × (position p xs ≡ None)
no_position p x xs e = by (p x) refl
  where
    far : length (x ∷ xs) ≤ position_or_len p (x ∷ xs)
    far = ltb-false _ _ (not_there _ _ e)

    by : (b : Bool) → p x ≡ b → (p x ≡ false) × (position p xs ≡ None)
    by true h = let here : position_or_len p (x ∷ xs) ≡ 0 = rw h refl in absurd (omega (arith, here, far))
    by false h =
        let next : position_or_len p (x ∷ xs) ≡ 1 + position_or_len p xs = rw h refl in
        (h, rw (le-ltb (position_or_len p xs) (length xs) (omega (arith, next, far))) refl)

pub spells_row : (columns : List Column) (fields : List (List ℕ)) → length fields ≡ length columns → bad_cell_in columns fields ≡ None → (row : List Value) × (row_of columns fields ≡ Some row)
spells_row [] [] wide good = ([], refl)
spells_row [] (f ∷ fs) wide good = absurd (omega (arith, wide))
spells_row (c ∷ cs) [] wide good = absurd (omega (arith, wide))
spells_row (c ∷ cs) (f ∷ fs) wide good =
    let (here, later) = no_position is_none (cell_of c.kind f) (cells_in cs fs) good in
    let (row, so) = spells_row cs fs (omega (arith, wide)) later in
    by (cell_of c.kind f) refl here row so
  where
    by : (o : Option Value) → cell_of c.kind f ≡ o → is_none (cell_of c.kind f) ≡ false → (row : List Value) → row_of cs fs ≡ Some row → (row : List Value) × (row_of (c ∷ cs) (f ∷ fs) ≡ Some row)
    by None e h row so = absurd (cc)
    by (Some v) e h row so = (v ∷ row, rw (e, so) refl)

neither_told : (a b : Option Refusal) → option_or a b ≡ None → (a ≡ None) × (b ≡ None)
neither_told None b e = (refl, e)
neither_told (Some r) b e = absurd (cc)

told_first : (a b : Option Refusal) (r s : Refusal) → a ≡ Some r → option_or a b ≡ Some s → r ≡ s
told_first (Some t) b r s h e = cc
told_first None b r s h e = absurd (cc)

same_number : (n m : ℕ) → nat_eq n m ≡ true → n ≡ m
same_number n m e = grind (arith, nat_tests)

no_bad_cell : (f : ℕ → Refusal) (o : Option ℕ) → option_map f o ≡ None → o ≡ None
no_bad_cell f None e = refl
no_bad_cell f (Some i) e = absurd (cc)

key_is_new : (earlier : List (List Value)) (line : ℕ) (row : List Value) → key_fault earlier line (Some row) ≡ None → has_key earlier row ≡ false
key_is_new earlier line row e = by (has_key earlier row) refl e
  where
    by : (b : Bool) → has_key earlier row ≡ b → (if b then Some (KeyTwice line) else None) ≡ None → has_key earlier row ≡ false
    by true h k = absurd (cc)
    by false h k = h

-- a row with a key that no row before it has
record IsNewRow (columns : List Column) (earlier : List (List Value)) (fields : List (List ℕ)) : Type 0 where
  row : List Value
  spelled : row_of columns fields ≡ Some row
  new : has_key earlier row ≡ false

-- a line that breaks no rule spells one
new_row : (columns : List Column) (earlier : List (List Value)) (fields : List (List ℕ)) → line_fault columns earlier fields ≡ None → IsNewRow columns earlier fields
new_row columns earlier fields e =
    let (own, key) = neither_told (own_fault columns (length earlier + 1) fields) (key_fault earlier (length earlier + 1) (row_of columns fields)) e in
    let (row, so) = by (nat_eq (length fields) (length columns)) refl own in
    record { row = row; spelled = so; new = key_is_new earlier (length earlier + 1) row (ap (key_fault earlier (length earlier + 1)) (sym so) ∙ key) }
  where
    by : (b : Bool) → nat_eq (length fields) (length columns) ≡ b → (if b then option_map (λ column. BadCell (length earlier + 1) column) (bad_cell_in columns fields) else Some (BadWidth (length earlier + 1))) ≡ None
        → (row : List Value) × (row_of columns fields ≡ Some row)
    by true h k = spells_row columns fields (same_number _ _ h) (no_bad_cell (λ column. BadCell (length earlier + 1) column) (bad_cell_in columns fields) k)
    by false h k = absurd (cc)

-- Rows with keys of their own.

untied : (r z : List Value) → key_cmp r z ≢ Equal → is_eq (key_cmp z r) ≡ false
untied r z apart = by (key_cmp z r) refl
  where
    by : (o : Ordering) → key_cmp z r ≡ o → is_eq o ≡ false
    by Less e = refl
    by Greater e = refl
    by Equal e = absurd (apart (key_total.antisymm r z ∙ ap ordering_reverse e))

-- among rows with keys of their own none has the key of a later one
key_of_own : (earlier : List (List Value)) (row : List Value) (rest : List (List Value)) → Differ key_cmp key_total (earlier ++ row ∷ rest) → has_key earlier row ≡ false
key_of_own [] row rest apart = refl
key_of_own (r ∷ rs) row rest apart =
    let n = length-append rs (row ∷ rest) in
    let here : key_cmp r row ≢ Equal = subst (λ (t : List Value). key_cmp r t ≢ Equal) (get_or-append_seam rs row rest r) (apart 0 (suc (length rs)) r (omega arith) (omega (arith, n))) in
    rw (untied r row here) (key_of_own rs row rest (λ i j d lt le. apart (suc i) (suc j) d (omega arith) (omega arith)))

module _ (columns : List Column) where
  -- the first line that breaks a rule behind the lines of some rows
  record IsFound (earlier : List (List Value)) (lines : List (List (List ℕ))) (refusal : Refusal) : Type 0 where
    before : List (List (List ℕ))
    fields : List (List ℕ)
    after : List (List (List ℕ))
    parts : lines ≡ before ++ fields ∷ after
    rows : List (List Value)
    read : all_some (map (row_of columns) before) ≡ Some rows
    apart : Differ key_cmp key_total (earlier ++ rows)
    breaks : line_fault columns (earlier ++ rows) fields ≡ Some refusal

  reads : (fields : List (List ℕ)) (lines : List (List (List ℕ))) (row : List Value) (rows : List (List Value)) → row_of columns fields ≡ Some row → all_some (map (row_of columns) lines) ≡ Some rows → all_some (map (row_of columns) (fields ∷ lines)) ≡ Some (row ∷ rows)
  reads fields lines row rows so more = rw (so, more) refl

  found : (lines : List (List (List ℕ))) (earlier : List (List Value)) (refusal : Refusal) → Differ key_cmp key_total earlier → lines_fault columns earlier lines ≡ Some refusal → IsFound earlier lines refusal
  found [] earlier refusal apart e = absurd (cc)
  found (f ∷ fs) earlier refusal apart e = by (line_fault columns earlier f) refl (λ more rest. found fs more refusal rest)
    where
      by : (o : Option Refusal) → line_fault columns earlier f ≡ o → ((more : List (List Value)) → Differ key_cmp key_total more → lines_fault columns more fs ≡ Some refusal → IsFound more fs refusal) → IsFound earlier (f ∷ fs) refusal
      by (Some r) h later =
          let same = told_first (line_fault columns earlier f) _ r refusal h e in
          record {
            before = [];
            fields = f;
            after = fs;
            parts = refl;
            rows = [];
            read = refl;
            apart = subst (λ l. Differ key_cmp key_total l) (sym (append-nil earlier)) apart;
            breaks = ap (λ l. line_fault columns l f) (append-nil earlier) ∙ h ∙ ap Some same;
          }
      by None h later =
          let new = new_row columns earlier f h in
          let g = later (earlier ++ new.row ∷ []) (apart_more earlier new.row new.new apart) (sym (none_first columns earlier f fs new.row new.spelled new.new) ∙ e) in
          let whole = append_assoc earlier (new.row ∷ []) g.rows in
          record {
            before = f ∷ g.before;
            fields = g.fields;
            after = g.after;
            parts = ap (λ l. f ∷ l) g.parts;
            rows = new.row ∷ g.rows;
            read = reads f g.before new.row g.rows new.spelled g.read;
            apart = subst (λ l. Differ key_cmp key_total l) whole g.apart;
            breaks = ap (λ l. line_fault columns l g.fields) (sym whole) ∙ g.breaks;
          }

  -- the rule that a line breaks behind lines that break none is the first that all lines break
  pub told : (before : List (List (List ℕ))) (earlier : List (List Value)) (fields : List (List ℕ)) (after : List (List (List ℕ))) (rows : List (List Value)) (refusal : Refusal) → all_some (map (row_of columns) before) ≡ Some rows
      → Differ key_cmp key_total (earlier ++ rows) → line_fault columns (earlier ++ rows) fields ≡ Some refusal → lines_fault columns earlier (before ++ fields ∷ after) ≡ Some refusal
  told [] earlier fields after rows refusal read apart breaks =
      let none : [] ≡ rows = cc in
      let here = ap (λ l. line_fault columns l fields) (sym (append-nil earlier) ∙ ap (λ l. earlier ++ l) none) ∙ breaks in
      rw here refl
  told (b ∷ bs) earlier fields after rows refusal read apart breaks =
      let (z, zs, first, rest, e) = before_some (row_of columns b) (all_some (map (row_of columns) bs)) rows read in
      let whole = append_assoc earlier (z ∷ []) zs ∙ ap (λ l. earlier ++ l) (sym e) in
      let own = key_of_own earlier z zs (subst (λ l. Differ key_cmp key_total (earlier ++ l)) e apart) in
      none_first columns earlier b (bs ++ fields ∷ after) z first own
      ∙ told bs (earlier ++ z ∷ []) fields after zs refusal rest (subst (λ l. Differ key_cmp key_total l) (sym whole) apart) (ap (λ l. line_fault columns l fields) whole ∙ breaks)

  -- lines that break no rule spell rows with keys of their own
  record AreRead (earlier : List (List Value)) (lines : List (List (List ℕ))) : Type 0 where
    rows : List (List Value)
    read : all_some (map (row_of columns) lines) ≡ Some rows
    apart : Differ key_cmp key_total (earlier ++ rows)

  all_good : (lines : List (List (List ℕ))) (earlier : List (List Value)) → Differ key_cmp key_total earlier → lines_fault columns earlier lines ≡ None → AreRead earlier lines
  all_good [] earlier apart e = record { rows = []; read = refl; apart = subst (λ l. Differ key_cmp key_total l) (sym (append-nil earlier)) apart }
  all_good (f ∷ fs) earlier apart e =
      let (here, later) = neither_told (line_fault columns earlier f) _ e in
      let new = new_row columns earlier f here in
      let g = all_good fs (earlier ++ new.row ∷ []) (apart_more earlier new.row new.new apart) (sym (none_first columns earlier f fs new.row new.spelled new.new) ∙ e) in
      record { rows = new.row ∷ g.rows; read = reads f fs new.row g.rows new.spelled g.read; apart = subst (λ l. Differ key_cmp key_total l) (append_assoc earlier (new.row ∷ []) g.rows) g.apart }

  -- lines of rows with keys of their own break no rule
  pub none_told : (lines : List (List (List ℕ))) (earlier rows : List (List Value)) → all_some (map (row_of columns) lines) ≡ Some rows → Differ key_cmp key_total (earlier ++ rows) → lines_fault columns earlier lines ≡ None
  none_told [] earlier rows read apart = refl
  none_told (f ∷ fs) earlier rows read apart =
      let (z, zs, first, rest, e) = before_some (row_of columns f) (all_some (map (row_of columns) fs)) rows read in
      let whole = append_assoc earlier (z ∷ []) zs ∙ ap (λ l. earlier ++ l) (sym e) in
      let own = key_of_own earlier z zs (subst (λ l. Differ key_cmp key_total (earlier ++ l)) e apart) in
      none_first columns earlier f fs z first own ∙ none_told fs (earlier ++ z ∷ []) zs rest (subst (λ l. Differ key_cmp key_total l) (sym whole) apart)

pub first_broken_is_told : FirstBrokenIsTold
first_broken_is_told columns lines refusal = (
  λ e. let g = found columns lines [] refusal none_apart e in record { before = g.before; fields = g.fields; after = g.after; parts = g.parts; rows = g.rows; read = g.read; apart = g.apart; breaks = g.breaks },
  λ b. ap (lines_fault columns []) b.parts ∙ told columns b.before [] b.fields b.after b.rows refusal b.read b.apart b.breaks,
)

pub tables_break_none : TablesBreakNone
tables_break_none columns lines = (
  λ e. let g = all_good columns lines [] none_apart e in (arranged key_cmp key_total g.rows, has_table columns lines g.rows g.read g.apart),
  λ t. none_told columns lines [] t.1.rows t.1.read (differ_from_rises key_cmp key_total t.1.rows t.0 t.1.same t.1.keyed),
)
