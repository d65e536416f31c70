-- The rows of lines, as they are read one after the other.
use Rattle.std.proofs.Common.{◌≡◌, ◌≤◌, ◌+◌, ℕ, Bool, true, false, cond, List, [], ◌∷◌, ◌++◌, Option, Some, None, map, length, slice_get, filter, Vec, Global, refl, sym, ap, ◌∙◌, subst, arith, append_assoc, append-nil, length-append}
use Rattle.std.specs.Prelude.{MatchOption, unwrap_or}
use Rattle.std.specs.List.{list_any}
use Rattle.std.specs.Ordering.{is_eq}
use Rattle.std.proofs.lemmas.List.{length-map}
use Rattle.std.proofs.lemmas.List.Elements.{filter-append}
use Rattle.cite_schema.specs.declared.value.Value.{Value}
use Rattle.cite_schema.specs.declared.schema.Column.{Column}
use Rattle.cite_schema.specs.Tables.{cell_cmp, key_cmp, has_key}
use Rattle.cite_schema.specs.TableTexts.{all_some, row_of}
use Rattle.cite_schema.proofs.Orders.{key_total}
use Rattle.cite_schema.proofs.Rising.{Differ}
use Rattle.cite_schema.proofs.TableTexts.{before_some, length-all_some, some_push}
use Rattle.csv_records.specs.declared.keys.Keys.{Keys}
use Rattle.csv_records.specs.Keys.{AreKeys, AreApart, IsFirstAgain}
use Rattle.csv_records.proofs.FirstAgain.{Name, name_more, name_count, name_apart, name_again, names_at}
use Rattle.cite_cli.specs.declared.refusal.Refusal.{Refusal}
use Rattle.cite_cli.specs.declared.refusal.Refusal.TheVariants.{KeyTwice}
use Rattle.cite_cli.specs.declared.refusal.Fault.{Fault}
use Rattle.cite_cli.specs.declared.refusal.Fault.TheVariants as faults
use Rattle.cite_cli.specs.Refusals.{own_fault, line_fault, lines_fault}
use Rattle.cite_cli.specs.Parts.{ArePicked, Tells, TellsAgain}
use Rattle.cite_cli.proofs.FirstLines.{told, none_told}
use Rattle.cite_cli.proofs.LineFaults.{no_own_fault}

-- the key of a row, where it has a cell
abbrev pub first_cell : List Value → Option Value
first_cell row = slice_get row 0

-- the texts of keys are copies
abbrev pub HoldsCopies : Keys (Vec ℕ Global) → List Value → Type 0
HoldsCopies keys named = AreKeys (λ t. t.items) keys named

-- of all lines these are left: those before them spell rows whose keys are held, and of the rows those that pass the test are picked
pub record ReadSoFar (columns : List Column) (keeps : List Value → Bool) (all left : List (List (List ℕ))) (keys : Keys (Vec ℕ Global)) (picked : List (List Value)) (line : ℕ) : Type 0 where
  pub done : List (List (List ℕ))
  pub rows : List (List Value)
  pub parts : all ≡ done ++ left
  pub read : all_some (map (row_of columns) done) ≡ Some rows
  pub named : List Value
  pub held : HoldsCopies keys named
  pub names : Name first_cell rows named
  pub picked_are : picked ≡ filter keeps rows
  pub line_is : line ≡ length rows

pub nothing_read : (columns : List Column) (keeps : List Value → Bool) (all : List (List (List ℕ))) (keys : Keys (Vec ℕ Global)) → HoldsCopies keys [] → ReadSoFar columns keeps all all keys [] 0
nothing_read columns keeps all keys empty = record {
  done = [];
  rows = [];
  parts = refl;
  read = refl;
  named = [];
  held = empty;
  names = refl;
  picked_are = refl;
  line_is = refl;
}

-- the line of a row among the rows that lines spell
record SpelledAt (columns : List Column) (lines : List (List (List ℕ))) (before : List (List Value)) (row : List Value) : Type 0 where
  done : List (List (List ℕ))
  fields : List (List ℕ)
  rest : List (List (List ℕ))
  parts : lines ≡ done ++ fields ∷ rest
  read : all_some (map (row_of columns) done) ≡ Some before
  spelled : row_of columns fields ≡ Some row

reads_first : (columns : List Column) (fields : List (List ℕ)) (lines : List (List (List ℕ))) (row : List Value) (rows : List (List Value)) → row_of columns fields ≡ Some row → all_some (map (row_of columns) lines) ≡ Some rows
    → all_some (map (row_of columns) (fields ∷ lines)) ≡ Some (row ∷ rows)
reads_first columns fields lines row rows so more = rw (so, more) refl

spelled_at : (columns : List Column) (lines : List (List (List ℕ))) (before : List (List Value)) (row : List Value) (after : List (List Value)) → all_some (map (row_of columns) lines) ≡ Some (before ++ row ∷ after) → SpelledAt columns lines before row
spelled_at columns [] [] row after read = absurd (cc)
spelled_at columns [] (b ∷ bs) row after read = absurd (cc)
spelled_at columns (l ∷ ls) [] row after read =
    let (z, zs, first, rest, e) = before_some (row_of columns l) (all_some (map (row_of columns) ls)) (row ∷ after) read in
    let same : z ≡ row = cc in
    record { done = []; fields = l; rest = ls; parts = refl; read = refl; spelled = first ∙ ap Some same }
spelled_at columns (l ∷ ls) (b ∷ bs) row after read =
    let (z, zs, first, rest, e) = before_some (row_of columns l) (all_some (map (row_of columns) ls)) (b ∷ (bs ++ row ∷ after)) read in
    let same : z ≡ b = cc in
    let others : zs ≡ bs ++ row ∷ after = cc in
    let s = spelled_at columns ls bs row after (rest ∙ ap Some others) in
    record {
      done = l ∷ s.done;
      fields = s.fields;
      rest = s.rest;
      parts = ap (λ t. l ∷ t) s.parts;
      read = reads_first columns l s.done b bs (first ∙ ap Some same) s.read;
      spelled = s.spelled;
    }

-- a key that an earlier line has is the rule of a line that breaks none by itself
key_breaks : (columns : List Column) (earlier : List (List Value)) (fields : List (List ℕ)) (row : List Value) → row_of columns fields ≡ Some row → has_key earlier row ≡ true → line_fault columns earlier fields ≡ Some (KeyTwice (length earlier + 1))
key_breaks columns earlier fields row so twice = rw (no_own_fault columns (length earlier + 1) fields row so, so, twice) refl

-- so is what the line breaks by itself
own_breaks : (columns : List Column) (earlier : List (List Value)) (fields : List (List ℕ)) (refusal : Refusal) → own_fault columns (length earlier + 1) fields ≡ Some refusal → line_fault columns earlier fields ≡ Some refusal
own_breaks columns earlier fields refusal e = rw e refl

module _ (columns : List Column) (keeps : List Value → Bool) (all left : List (List (List ℕ))) (keys : Keys (Vec ℕ Global)) (picked : List (List Value)) (line : ℕ) (so : ReadSoFar columns keeps all left keys picked line) where
  rows_differ : AreApart so.named → Differ key_cmp key_total so.rows
  rows_differ apart = name_apart first_cell so.rows so.named so.names apart

  -- the first line whose key an earlier line has is the first that breaks a rule
  again_told : (n : ℕ) → IsFirstAgain so.named n → lines_fault columns [] all ≡ Some (KeyTwice n)
  again_told n again =
      let at = names_at first_cell so.rows again.front again.rest again.key (so.names ∙ ap (λ l. map Some l) again.parts) in
      let l = spelled_at columns so.done at.before at.here at.after (so.read ∙ ap Some at.parts) in
      let whole : all ≡ l.done ++ l.fields ∷ (l.rest ++ left) = so.parts ∙ ap (λ t. t ++ left) l.parts ∙ append_assoc l.done (l.fields ∷ l.rest) left in
      let differ : Differ key_cmp key_total at.before = name_apart first_cell at.before again.front at.named again.apart in
      let has : has_key at.before at.here ≡ true =
      ap (λ (o : Option Value). list_any (λ r. is_eq (cell_cmp o (slice_get r 0))) at.before) at.is
      ∙ name_again first_cell at.before again.front again.key at.named again.again in
      let count = name_count first_cell at.before again.front at.named in
      let behind = again.line in
      let number : length at.before + 1 ≡ n = omega (arith, count, behind) in
      ap (lines_fault columns []) whole
      ∙ told columns l.done [] l.fields (l.rest ++ left) at.before (KeyTwice (length at.before + 1)) l.read differ (key_breaks columns at.before l.fields at.here l.spelled has)
      ∙ ap (λ m. Some (KeyTwice m)) number

  -- the fault of such a line tells the first rule that is broken
  pub again_tells : (fault : Fault) → TellsAgain so.named fault → Tells (lines_fault columns [] all) fault
  again_tells fault t = subst (λ (f : Fault). Tells (lines_fault columns [] all) f) (sym t.1) (again_told t.0 t.2)

module _ (columns : List Column) (keeps : List Value → Bool) (all rest : List (List (List ℕ))) (keys : Keys (Vec ℕ Global)) (picked : List (List Value)) (line : ℕ) (fields : List (List ℕ)) (so : ReadSoFar columns keeps all (fields ∷ rest) keys picked line) where
  -- the number of the next line is at most that of all lines
  pub next_line : line + 1 ≤ length all
  next_line =
      let n = length-all_some (map (row_of columns) so.done) so.rows so.read in
      let m = length-map so.done (row_of columns) in
      let p = ap length so.parts ∙ length-append so.done (fields ∷ rest) in
      let l = so.line_is in
      omega (arith, n, m, p, l)

  -- where no key came twice, what the next line breaks by itself is the first rule that is broken
  own_told : (refusal : Refusal) → AreApart so.named → own_fault columns (line + 1) fields ≡ Some refusal → lines_fault columns [] all ≡ Some refusal
  own_told refusal apart e =
      ap (lines_fault columns []) so.parts
      ∙ told columns so.done [] fields rest so.rows refusal so.read (rows_differ columns keeps all (fields ∷ rest) keys picked line so apart)
      (own_breaks columns so.rows fields refusal (ap (λ n. own_fault columns (n + 1) fields) (sym so.line_is) ∙ e))

  -- the fault of the next line, or of a key that came twice before it
  pub fault_told : (twice : Option Fault) (fault : Fault) → MatchOption twice (AreApart so.named) (λ f. TellsAgain so.named f) → Tells (own_fault columns (line + 1) fields) fault → Tells (lines_fault columns [] all) (unwrap_or twice fault)
  fault_told (Some f) fault again own = again_tells columns keeps all (fields ∷ rest) keys picked line so f again
  fault_told None (faults.Refused refusal) apart own = own_told refusal apart own
  fault_told None faults.NoMemory apart own = tt

  -- a line that spells a row is read too
  pub read_more : (new : Keys (Vec ℕ Global)) (more : List (List Value)) (row : List Value) (key : Value) → row_of columns fields ≡ Some row → slice_get row 0 ≡ Some key
      → ((named : List Value) → line + 1 ≡ length named + 1 → HoldsCopies keys named → HoldsCopies new (named ++ key ∷ [])) → more ≡ picked ++ filter keeps (row ∷ []) → ReadSoFar columns keeps all rest new more (line + 1)
  read_more new more row key spelled at put is =
      let n = length-append so.rows (row ∷ []) in
      let l = so.line_is in
      let count = name_count first_cell so.rows so.named so.names in
      record {
        done = so.done ++ fields ∷ [];
        rows = so.rows ++ row ∷ [];
        parts = so.parts ∙ sym (append_assoc so.done (fields ∷ []) rest);
        read = some_push (row_of columns) so.done fields row so.rows so.read spelled;
        named = so.named ++ key ∷ [];
        held = put so.named (omega (arith, l, count)) so.held;
        names = name_more first_cell so.rows so.named row key so.names at;
        picked_are = is ∙ ap (λ l. l ++ filter keeps (row ∷ [])) so.picked_are ∙ sym (filter-append keeps so.rows (row ∷ []));
        line_is = omega (arith, n, l);
      }

-- a row that passes the test
pub row_kept : (keeps : List Value → Bool) (row : List Value) → keeps row ≡ true → row ∷ [] ≡ filter keeps (row ∷ [])
row_kept keeps row e = sym (ap (λ b. cond b (row ∷ []) []) e)

-- a row that does not
pub row_left : (keeps : List Value → Bool) (row : List Value) → keeps row ≡ false → [] ≡ filter keeps (row ∷ [])
row_left keeps row e = sym (ap (λ b. cond b (row ∷ []) []) e)

-- where no line is left, and no key came twice, all are read
pub all_read : (columns : List Column) (keeps : List Value → Bool) (all left : List (List (List ℕ))) (keys : Keys (Vec ℕ Global)) (picked : List (List Value)) (line : ℕ) → (so : ReadSoFar columns keeps all left keys picked line) → left ≡ [] → AreApart so.named → ArePicked columns keeps all picked
all_read columns keeps all left keys picked line so none apart =
    let whole : so.done ≡ all = sym (append-nil so.done) ∙ ap (λ l. so.done ++ l) (sym none) ∙ sym so.parts in
    let differ = rows_differ columns keeps all left keys picked line so apart in
    record {
      rows = so.rows;
      read = ap (λ l. all_some (map (row_of columns) l)) (sym whole) ∙ so.read;
      apart = differ;
      unbroken = ap (lines_fault columns []) (sym whole) ∙ none_told columns so.done [] so.rows so.read differ;
      picked_are = so.picked_are;
    }
