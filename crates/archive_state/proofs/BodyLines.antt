-- What is known of the lines that a body spells: they are few, each names a key, and their rows do not weigh too much.
use Rattle.std.proofs.Common.{◌≡◌, ℕ, suc, ◌+◌, ◌*◌, ◌<◌, ◌≤◌, Bool, true, false, List, [], ◌∷◌, Some, length, codes, slice_get, refl, sym, ap, ◌∙◌, subst, arith}
use Rattle.std.proofs.lemmas.Bool.Decides.{nat_tests}
use Rattle.std.specs.Prelude.{Ok, Err, IsTrue, IfSome, option_map, nat_le, ◌==◌, if◌then◌else◌}
use Rattle.std.specs.List.{AllByRecursion}
use Rattle.cite_schema.specs.declared.value.Kind.{Kind}
use Rattle.cite_schema.specs.declared.value.Value.{Value}
use Rattle.cite_schema.specs.declared.value.Value.TheVariants.{Int, Text}
use Rattle.cite_schema.specs.declared.schema.Column.{Column}
use Rattle.cite_schema.specs.declared.line.Line.{Line}
use Rattle.cite_schema.specs.declared.line.Line.TheVariants.{Put, Change, Remove}
use Rattle.cite_schema.specs.Tables.{fits, is_short}
use Rattle.cite_schema.specs.TableTexts.{cell_of, row_of, bad_cell_in}
use Rattle.cite_schema.specs.Lines.{row_in, key_in, brought}
use Rattle.cite_schema.specs.Tests.{unless, wanted}
use Rattle.cite_schema.proofs.TableTexts.{before_some, cell_fits}
use Rattle.cite_schema.proofs.Results.{demanded, unfaulted, had}
use Rattle.batches.specs.declared.fault.BatchFault.TheVariants.{BadWidth, BadOp, BadCell}
use Rattle.batches.specs.Bodies.{is_word, row_line, first_cell, filled_behind, key_line, line_by, line_in, lines_of}
use Rattle.batches.specs.Laws.{AreLines, IsBatch}
use Rattle.batches.proofs.Collecting.{lines_count}
use Rattle.batches.proofs.WholeBodies.{batches_break_none}
use Rattle.versioned_rows.specs.ChangeLaws.{FitsLine, FitLines, IsThere, HaveKeys}
use Rattle.versioned_rows.specs.Weights.{value_weight, row_weight, rows_weight}

-- a cell weighs at most so much
cell_limit : (limit : ℕ) (v : Value) → (16 ≤ 16 + limit) → ((t : List ℕ) → v ≡ Text t → length t ≤ limit) → value_weight v ≤ 16 + limit
cell_limit limit (Int z) h k = h
cell_limit limit (Text t) h k = let l = k t refl in omega (arith, l)

-- what the test of a limit tells
within : (n limit : ℕ) → nat_le n limit ≡ true → n ≤ limit
within n limit h = grind (arith, nat_tests)

-- so much does a cell of a line weigh at most
abbrev pub heaviest : ℕ
heaviest = 16 + 65535

-- the cell that a field says is light
light_cell : (k : Kind) (f : List ℕ) (v : Value) → cell_of k f ≡ Some v → value_weight v ≤ heaviest
light_cell k f v h = cell_limit 65535 v (omega arith) (λ t e. within (length t) 65535 (sym (ap is_short e) ∙ (cell_fits k f v h).1))

-- one weight more, within one limit more
heavier : (first rest n most : ℕ) → first ≤ most → rest ≤ n * most → first + rest ≤ suc n * most
heavier first rest n most f r = omega arith

-- a row weighs at most that for each column
light_row : (cs : List Column) (fs : List (List ℕ)) (row : List Value) → row_of cs fs ≡ Some row → row_weight row ≤ length cs * heaviest
light_row [] [] row h = let e : [] ≡ row = cc in let w = ap row_weight (sym e) in omega (arith, w)
light_row [] (f ∷ fs) row h = absurd (cc)
light_row (c ∷ cs) [] row h = absurd (cc)
light_row (c ∷ cs) (f ∷ fs) row h =
    let (z, zs, first, rest, e) = before_some (cell_of c.kind f) (row_of cs fs) row h in
    let here = light_cell c.kind f z first in
    let more = light_row cs fs zs rest in
    let w = ap row_weight e in
    subst (λ (w : ℕ). w ≤ suc (length cs) * heaviest) (sym w) (heavier (value_weight z) (row_weight zs) (length cs) heaviest here more)

-- the row of a line, if it brings one, weighs at most that
abbrev IsLight : ℕ → Line → Type 0
IsLight most line = IfSome (row_in line) (λ row. row_weight row ≤ most)

module _ (columns : List Column) where
  -- the line that brings a row
  light_row_line : (n : ℕ) (line : List Value → Line) → ((row : List Value) → row_weight row ≤ length columns * heaviest → IsLight (length columns * heaviest) (line row)) → (fields : List (List ℕ)) (l : Line)
      → row_line columns n line fields ≡ Ok l → IsLight (length columns * heaviest) l
  light_row_line n line light fields l e =
      let (none, rest) = unfaulted (option_map (λ i. BadCell n i) (bad_cell_in columns fields)) (wanted (row_of columns fields) (BadWidth n) (λ r. Ok (line r))) l e in
      let (row, is, last) = had (row_of columns fields) (BadWidth n) (λ r. Ok (line r)) l rest in
      let same : line row ≡ l = cc in
      subst (IsLight (length columns * heaviest)) same (light row (light_row columns fields row is))

  -- the line that takes one away
  light_key_line : (n : ℕ) (fields : List (List ℕ)) (l : Line) → key_line columns n fields ≡ Ok l → IsLight (length columns * heaviest) l
  light_key_line n fields l e =
      let (key, is, rest) = had (first_cell columns fields) (BadCell n 0) (λ k. unless (option_map (λ i. BadCell n i) (filled_behind fields)) (Ok (Remove k))) l e in
      let (none, last) = unfaulted (option_map (λ i. BadCell n i) (filled_behind fields)) (Ok (Remove key)) l rest in
      let same : Remove key ≡ l = cc in
      subst (IsLight (length columns * heaviest)) same tt

  -- the line of a record
  light_line : (n : ℕ) (r : List (List ℕ)) (l : Line) → line_in columns n r ≡ Ok l → IsLight (length columns * heaviest) l
  light_line n [] l e = absurd (cc)
  light_line n (op ∷ fields) l e =
      let (wide, rest) = demanded (length fields == length columns) (BadWidth n) (line_by columns n op fields) l e in
      by (is_word op (codes "+")) (is_word op (codes "~")) (is_word op (codes "-")) rest
    where
      by : (p c r : Bool) → (if p then row_line columns n Put fields else (if c then row_line columns n Change fields else (if r then key_line columns n fields else Err (BadOp n)))) ≡ Ok l → IsLight (length columns * heaviest) l
      by true c r e = light_row_line n Put (λ row h. h) fields l e
      by false true r e = light_row_line n Change (λ row h. h) fields l e
      by false false true e = light_key_line n fields l e
      by false false false e = absurd (cc)

  -- the lines of records
  light_lines : (n : ℕ) (rs : List (List (List ℕ))) (ls : List Line) → AreLines columns n rs ls → AllByRecursion (IsLight (length columns * heaviest)) ls
  light_lines n [] [] h = tt
  light_lines n [] (l ∷ ls) h = absurd h
  light_lines n (r ∷ rs) [] h = absurd h
  light_lines n (r ∷ rs) (l ∷ ls) h = (light_line n r l h.0, light_lines (n + 1) rs ls h.1)

-- and one limit more alone
lighter : (rest n most : ℕ) → rest ≤ n * most → rest ≤ suc n * most
lighter rest n most r = omega arith

-- together the rows weigh at most so much for each line
lines_weight : (most : ℕ) (ls : List Line) → AllByRecursion (IsLight most) ls → rows_weight (brought ls) ≤ length ls * most
lines_weight most [] h = omega arith
lines_weight most (Put r ∷ ls) h = heavier (row_weight r) (rows_weight (brought ls)) (length ls) most h.0 (lines_weight most ls h.1)
lines_weight most (Change r ∷ ls) h = heavier (row_weight r) (rows_weight (brought ls)) (length ls) most h.0 (lines_weight most ls h.1)
lines_weight most (Remove k ∷ ls) h = lighter (rows_weight (brought ls)) (length ls) most (lines_weight most ls h.1)

-- no more rows than lines
pub few_brought : (ls : List Line) → length (brought ls) ≤ length ls
few_brought [] = omega arith
few_brought (Put r ∷ ls) = let more = few_brought ls in omega (arith, more)
few_brought (Change r ∷ ls) = let more = few_brought ls in omega (arith, more)
few_brought (Remove k ∷ ls) = let more = few_brought ls in omega (arith, more)

-- a row that fits some columns begins with a value
begins : (columns : List Column) (row : List Value) → 0 < length columns → IsTrue (fits columns row) → IsThere (slice_get row 0)
begins [] row some h = absurd (omega (arith, some))
begins (c ∷ cs) [] some h = absurd (cc)
begins (c ∷ cs) (v ∷ vs) some h = tt

-- a line that fits some columns names a key
line_key : (columns : List Column) (l : Line) → 0 < length columns → FitsLine columns l → IsThere (key_in l)
line_key columns (Put r) some h = begins columns r some h
line_key columns (Change r) some h = begins columns r some h
line_key columns (Remove k) some h = tt

-- lines that fit some columns name keys
pub keys_there : (columns : List Column) (ls : List Line) → 0 < length columns → FitLines columns ls → HaveKeys ls
keys_there columns [] some h = tt
keys_there columns (l ∷ ls) some h = (line_key columns l some h.0, keys_there columns ls some h.1)

-- what is known of the number of lines, and of the weight of their rows
pub record AreBounded (columns : List Column) (lines : List Line) : Type 0 where
  pub few : length lines ≤ 20000
  pub light : rows_weight (brought lines) ≤ length lines * (length columns * heaviest)

-- so it is of a batch's records
batch_bounded : (columns : List Column) (records : List (List (List ℕ))) (lines : List Line) → IsBatch columns records lines → AreBounded columns lines
batch_bounded columns [] lines h = absurd h
batch_bounded columns (head ∷ rs) lines h =
    let n = lines_count columns 1 rs lines h.3 in
    record { few = omega (arith, n, h.2); light = lines_weight (length columns * heaviest) lines (light_lines columns 1 rs lines h.3) }

-- so it is of the lines of a body
pub body_bounded : (columns : List Column) (body : List ℕ) (lines : List Line) → lines_of columns body ≡ Ok lines → AreBounded columns lines
body_bounded columns body lines e = batch_bounded columns _ lines ((batches_break_none columns body lines).0 e)
