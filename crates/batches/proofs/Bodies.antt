-- What the records of a body spell, by what was read of them.
use Rattle.std.proofs.Common.{◌≡◌, ◌≢◌, ◌<◌, ◌≤◌, ◌+◌, ◌⊎◌, inl, inr, ℕ, suc, Bool, true, false, not, ◌==◌, List, [], ◌∷◌, ◌++◌, Option, Some, None, Result, codes, length, slice_get, refl, sym, ap, ◌∙◌, arith, length-append}
use Rattle.std.specs.Prelude.{Ok, Err, option_map, nat_lt, if◌then◌else◌}
use Rattle.std.proofs.lemmas.Bool.{lt-ltb, le-ltb}
use Rattle.cite_schema.specs.declared.value.Value.{Value}
use Rattle.cite_schema.specs.declared.schema.Column.{Column}
use Rattle.cite_schema.specs.declared.line.Line.{Line}
use Rattle.cite_schema.specs.declared.line.Line.TheVariants.{Put, Change, Remove}
use Rattle.cite_schema.specs.TableTexts.{cell_of, row_of, bad_cell_in}
use Rattle.cite_schema.specs.Lines.{key_in}
use Rattle.cite_schema.specs.Tests.{demand, unless, wanted, given}
use Rattle.cite_schema.proofs.TableTexts.{before_some}
use Rattle.cite_schema.proofs.Results.{demanded, unfaulted, had}
use Rattle.csv_records.specs.Records.{records_of}
use Rattle.batches.specs.declared.fault.BatchFault.{BatchFault}
use Rattle.batches.specs.declared.fault.BatchFault.TheVariants.{BadHeader, EmptyBatch, TooManyLines, BadWidth, BadOp, BadCell, KeyTwice, NoMemory}
use Rattle.batches.specs.declared.reading.Collected.{Collected}
use Rattle.batches.specs.Bodies.{is_word, is_header, row_line, first_cell, filled_behind, key_line, line_by, line_in, names_key_of, lines_from, lines_of_records, lines_of}
use Rattle.batches.specs.Laws.{AreLines}
use Rattle.batches.specs.Parts.{key_twice_in, AreCollected, IsCollected, IsRefused, HaveKeys, HeadIs, outcome, due_by, due_of}
use Rattle.batches.proofs.Collecting.{lines_count, ReadSoFar}

-- Each line names a key.

row_begins : (columns : List Column) (fields : List (List ℕ)) (row : List Value) → 0 < length columns → row_of columns fields ≡ Some row → slice_get row 0 ≢ None
row_begins [] fields row some so e = omega (arith, some)
row_begins (c ∷ cs) [] row some so e = absurd (cc)
row_begins (c ∷ cs) (f ∷ fs) row some so e = let (z, zs, first, rest, is) = before_some (cell_of c.kind f) (row_of cs fs) row so in let there : slice_get row 0 ≡ Some z = ap (λ l. slice_get l 0) is in absurd (cc)

module _ (columns : List Column) (some : 0 < length columns) (n : ℕ) where
  row_names : (line : List Value → Line) (fields : List (List ℕ)) (l : Line) → ((row : List Value) → key_in (line row) ≡ slice_get row 0) → row_line columns n line fields ≡ Ok l → key_in l ≢ None
  row_names line fields l keys h e =
      let (none, e1) = unfaulted (option_map (λ i. BadCell n i) (bad_cell_in columns fields)) (wanted (row_of columns fields) (BadWidth n) (λ row. Ok (line row))) l h in
      let (row, is, e2) = had (row_of columns fields) (BadWidth n) (λ row. Ok (line row)) l e1 in
      let same : line row ≡ l = cc in
      row_begins columns fields row some is (sym (keys row) ∙ ap key_in same ∙ e)

  key_names : (fields : List (List ℕ)) (l : Line) → key_line columns n fields ≡ Ok l → key_in l ≢ None
  key_names fields l h e =
      let (key, is, e1) = had (first_cell columns fields) (BadCell n 0) (λ k. unless (option_map (λ i. BadCell n i) (filled_behind fields)) (Ok (Remove k))) l h in
      let (none, e2) = unfaulted (option_map (λ i. BadCell n i) (filled_behind fields)) (Ok (Remove key)) l e1 in
      let same : Remove key ≡ l = cc in
      let named : Some key ≡ None = ap key_in same ∙ e in
      absurd (cc)

  line_names : (r : List (List ℕ)) (l : Line) → line_in columns n r ≡ Ok l → key_in l ≢ None
  line_names [] l h = absurd (cc)
  line_names (op ∷ fields) l h = let (wide, e1) = demanded (length fields == length columns) (BadWidth n) (line_by columns n op fields) l h in by (is_word op (codes "+")) (is_word op (codes "~")) (is_word op (codes "-")) e1
    where
      by : (p c r : Bool) → (if p then row_line columns n Put fields else (if c then row_line columns n Change fields else (if r then key_line columns n fields else Err (BadOp n)))) ≡ Ok l → key_in l ≢ None
      by true c r e = row_names Put fields l (λ row. refl) e
      by false true r e = row_names Change fields l (λ row. refl) e
      by false false true e = key_names fields l e
      by false false false e = absurd (cc)

have_keys : (columns : List Column) (n : ℕ) (records : List (List (List ℕ))) (lines : List Line) → 0 < length columns → AreLines columns n records lines → HaveKeys lines
have_keys columns n [] [] some h = tt
have_keys columns n [] (l ∷ ls) some h = absurd h
have_keys columns n (r ∷ rs) [] some h = absurd h
have_keys columns n (r ∷ rs) (l ∷ ls) some h = (line_names columns some n r l h.0, have_keys columns (n + 1) rs ls some h.1)

collected_keys : (columns : List Column) (records : List (List (List ℕ))) (lines : List Line) (fault : Option BatchFault) → 0 < length columns → AreCollected columns records lines fault → HaveKeys lines
collected_keys columns records lines None some h = have_keys columns 1 records lines some h
collected_keys columns records lines (Some fault) some h = have_keys columns 1 h.before lines some h.spelled

-- so do those that were read so far
pub so_far_keys : (columns : List Column) (all left : List (List (List ℕ))) (read : Collected) (line : ℕ) → 0 < length columns → ReadSoFar columns all left read line → HaveKeys read.lines
so_far_keys columns all left read line some so = collected_keys columns so.done read.lines read.fault some so.collected

collected_few : (columns : List Column) (records : List (List (List ℕ))) (lines : List Line) (fault : Option BatchFault) → AreCollected columns records lines fault → length lines ≤ length records
collected_few columns records lines None h = let n = lines_count columns 1 records lines h in omega (arith, n)
collected_few columns records lines (Some fault) h =
    let n = lines_count columns 1 h.before lines h.spelled in
    let p = ap length h.parts ∙ length-append h.before (h.fields ∷ h.after) in
    omega (arith, n, p)

pub so_far_few : (columns : List Column) (all left : List (List (List ℕ))) (read : Collected) (line : ℕ) → line ≤ 20000 → ReadSoFar columns all left read line → length read.lines ≤ 20000
so_far_few columns all left read line few so = let n = collected_few columns so.done read.lines read.fault so.collected in let l = so.line_is in omega (arith, n, l, few)

-- What lines say behind others, where all records spell lines, and where one has a fault.

module _ (columns : List Column) where
  pub all_spelled : (before : List Line) (n : ℕ) (records : List (List (List ℕ))) (lines : List Line) → AreLines columns n records lines → lines_from columns before n records ≡ outcome (key_twice_in before n lines) (Ok lines)
  all_spelled before n [] [] h = refl
  all_spelled before n [] (l ∷ ls) h = absurd h
  all_spelled before n (r ∷ rs) [] h = absurd h
  all_spelled before n (r ∷ rs) (l ∷ ls) h = rw h.0 (by (names_key_of before l) (key_twice_in (before ++ l ∷ []) (n + 1) ls) (lines_from columns (before ++ l ∷ []) (n + 1) rs) (all_spelled (before ++ l ∷ []) (n + 1) rs ls h.1))
    where
      by : (b : Bool) (o : Option ℕ) (r : Result (List Line) BatchFault) → r ≡ outcome o (Ok ls) → demand (not b) (KeyTwice n) (given r (λ fault. fault) (λ lines. Ok (l ∷ lines))) ≡ outcome (if b then Some n else o) (Ok (l ∷ ls))
      by true o r e = refl
      by false None r e = rw e refl
      by false (Some k) r e = rw e refl

  pub one_broken : (before : List Line) (n : ℕ) (done : List (List (List ℕ))) (lines : List Line) (fields : List (List ℕ)) (after : List (List (List ℕ))) (fault : BatchFault) → AreLines columns n done lines
      → line_in columns (n + length lines) fields ≡ Err fault → lines_from columns before n (done ++ fields ∷ after) ≡ outcome (key_twice_in before n lines) (Err fault)
  one_broken before n [] [] fields after fault h e = let same : n ≡ n + 0 = omega arith in let here = ap (λ k. line_in columns k fields) same ∙ e in rw here refl
  one_broken before n [] (l ∷ ls) fields after fault h e = absurd h
  one_broken before n (d ∷ ds) [] fields after fault h e = absurd h
  one_broken before n (d ∷ ds) (l ∷ ls) fields after fault h e =
      let same : n + 1 + length ls ≡ n + suc (length ls) = omega arith in
      rw h.0 (by (names_key_of before l) (key_twice_in (before ++ l ∷ []) (n + 1) ls) (lines_from columns (before ++ l ∷ []) (n + 1) (ds ++ fields ∷ after))
      (one_broken (before ++ l ∷ []) (n + 1) ds ls fields after fault h.1 (ap (λ k. line_in columns k fields) same ∙ e)))
    where
      by : (b : Bool) (o : Option ℕ) (r : Result (List Line) BatchFault) → r ≡ outcome o (Err fault) → demand (not b) (KeyTwice n) (given r (λ told. told) (λ lines. Ok (l ∷ lines))) ≡ outcome (if b then Some n else o) (Err fault)
      by true o r e = refl
      by false None r e = rw e refl
      by false (Some k) r e = rw e refl

  lines_due : (records : List (List (List ℕ))) (lines : List Line) (fault : Option BatchFault) → AreCollected columns records lines fault → lines_from columns [] 1 records ≡ outcome (key_twice_in [] 1 lines) (due_by fault lines)
  lines_due records lines None h = all_spelled [] 1 records lines h
  lines_due records lines (Some fault) h =
      let same : 1 + length lines ≡ length lines + 1 = omega arith in
      ap (lines_from columns [] 1) h.parts ∙ one_broken [] 1 h.before lines h.fields h.after fault h.spelled (ap (λ k. line_in columns k h.fields) same ∙ h.breaks)

  under_head : (records rest : List (List (List ℕ))) → HeadIs columns true records rest
      → lines_of_records columns records ≡ demand (nat_lt 0 (length rest)) EmptyBatch (demand (not (nat_lt 20000 (length rest))) TooManyLines (lines_from columns [] 1 rest))
  under_head records rest h = ap (lines_of_records columns) h.1 ∙ ap (λ b. demand b BadHeader (demand (nat_lt 0 (length rest)) EmptyBatch (demand (not (nat_lt 20000 (length rest))) TooManyLines (lines_from columns [] 1 rest)))) h.2

  -- what was read of the lines is what the records spell
  pub collected_due : (records rest : List (List (List ℕ))) (read : Collected) → HeadIs columns true records rest → IsCollected columns rest read → due_of read ≡ lines_of_records columns records
  collected_due records rest read head h =
      let least : nat_lt 0 (length rest) ≡ true = lt-ltb 0 (length rest) (let some = h.some in omega (arith, some)) in
      let most : nat_lt 20000 (length rest) ≡ false = le-ltb 20000 (length rest) (let few = h.few in omega (arith, few)) in
      sym (under_head records rest head ∙ rw (least, most) (lines_due rest read.lines read.fault h.collected))

  -- where the number of lines is refused, this is told
  pub refused_due : (records rest : List (List (List ℕ))) (fault : BatchFault) → HeadIs columns true records rest → IsRefused rest fault → fault ≢ NoMemory → Err fault ≡ lines_of_records columns records
  refused_due records rest fault head refused other = by (refused other)
    where
      by : ((fault ≡ EmptyBatch) × (length rest ≡ 0)) ⊎ ((fault ≡ TooManyLines) × (20000 < length rest)) → Err fault ≡ lines_of_records columns records
      by (inl none) = let least : nat_lt 0 (length rest) ≡ false = le-ltb 0 (length rest) (let n = none.1 in omega (arith, n)) in sym (under_head records rest head ∙ rw least (ap Err (sym none.0)))
      by (inr many) =
          let n = many.1 in
          let least : nat_lt 0 (length rest) ≡ true = lt-ltb 0 (length rest) (omega (arith, n)) in
          let most : nat_lt 20000 (length rest) ≡ true = lt-ltb 20000 (length rest) n in
          sym (under_head records rest head ∙ rw (least, most) (ap Err (sym many.0)))

  -- a first record, and whether it is the header
  pub head_is : (head : List (List ℕ)) (records rest : List (List (List ℕ))) (b : Bool) → records ≡ head ∷ rest → b ≡ is_header columns head → HeadIs columns b records rest
  head_is head records rest true e h = (head, e, sym h)
  head_is head records rest false e h = ap (lines_of_records columns) e ∙ ap (λ b. demand b BadHeader (demand (nat_lt 0 (length rest)) EmptyBatch (demand (not (nat_lt 20000 (length rest))) TooManyLines (lines_from columns [] 1 rest)))) (sym h)

-- what the lines are, by their keys and their fault
pub due_twice : (read : Collected) (n : ℕ) → Some n ≡ key_twice_in [] 1 read.lines → Err (KeyTwice n) ≡ due_of read
due_twice read n e = ap (λ o. outcome o (due_by read.fault read.lines)) e

pub due_once : (read : Collected) (fault : Option BatchFault) → None ≡ key_twice_in [] 1 read.lines → read.fault ≡ fault → due_by fault read.lines ≡ due_of read
due_once read fault e is = ap (λ f. due_by f read.lines) (sym is) ∙ ap (λ o. outcome o (due_by read.fault read.lines)) e

-- the records of a body are what it spells
pub of_body : (columns others : List Column) (body : List ℕ) (records : List (List (List ℕ))) → others ≡ columns → records ≡ records_of body → lines_of_records others records ≡ lines_of columns body
unfolding lines_of
of_body columns others body records e f = ap (λ l. lines_of_records l records) e ∙ ap (lines_of_records columns) f
