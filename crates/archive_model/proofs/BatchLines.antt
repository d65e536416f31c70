-- The rows of the lines that a body spells fit the columns.
use Rattle.std.proofs.Common.{◌≡◌, ◌≢◌, ℕ, ◌+◌, Bool, true, false, not, ◌||◌, ◌∙◌, List, [], ◌∷◌, ◌++◌, Option, Some, None, Result, refl, sym, ap, subst}
use Rattle.std.specs.Prelude.{Ok, Err, IfSome, IsTrue, codes, map, length, nat_lt, ◌==◌, option_map, if◌then◌else◌}
use Rattle.cite_schema.specs.declared.value.Value.{Value}
use Rattle.cite_schema.specs.declared.schema.Column.{Column}
use Rattle.cite_schema.specs.declared.line.Line.{Line}
use Rattle.cite_schema.specs.declared.line.Line.TheVariants.{Put, Change, Remove}
use Rattle.cite_schema.specs.Lines.{row_in}
use Rattle.cite_schema.specs.TableTexts.{row_of, bad_cell_in}
use Rattle.cite_schema.specs.Tables.{fits}
use Rattle.cite_schema.specs.Tests.{demand, unless, wanted, given}
use Rattle.cite_schema.proofs.Results.{demanded, unfaulted, had, gave}
use Rattle.cite_schema.proofs.TableTexts.{row_fits}
use Rattle.csv.specs.Reading.{records, default_config, strip_bom}
use Rattle.batches.specs.declared.fault.BatchFault.{BatchFault}
use Rattle.batches.specs.declared.fault.BatchFault.TheVariants.{BadHeader, EmptyBatch, TooManyLines, BadWidth, BadOp, BadCell, KeyTwice}
use Rattle.batches.specs.Bodies.{is_word, is_header, row_line, first_cell, filled_behind, key_line, line_by, line_in, names_key_of, lines_from, lines_of_records, lines_of}
use Rattle.std.specs.Ordering.{is_eq}
use Rattle.std.specs.declared.cmp.Ordering.TheVariants.{Equal}
use Rattle.cite_schema.specs.Tables.{cell_cmp}
use Rattle.cite_schema.specs.Lines.{key_in}
use Rattle.std.specs.List.{AllByRecursion, list_any}
use Rattle.versioned_rows.specs.ChangeLaws.{FitsLine, FitLines, NameOwnKeys}
use Rattle.archive_model.specs.AgreeingLaws.{BodiesSpellGoodLines}

-- the two lines name different keys
abbrev Apart : Line → Line → Type 0
Apart l m = cell_cmp (key_in l) (key_in m) ≢ Equal

neither : (a b : Bool) → not (a || b) ≡ true → (a ≡ false) × (not b ≡ true)
neither true b e = absurd (cc)
neither false b e = (refl, e)

named_new : (before : List Line) (line : Line) → not (names_key_of before line) ≡ true → AllByRecursion (λ l. Apart l line) before
named_new [] line e = tt
named_new (l ∷ ls) line e =
    let (other, more) = neither (is_eq (cell_cmp (key_in l) (key_in line))) (names_key_of ls line) e in
    (λ same. clash same other, named_new ls line more)
  where
    clash : cell_cmp (key_in l) (key_in line) ≡ Equal → is_eq (cell_cmp (key_in l) (key_in line)) ≡ false → ⊥
    clash same other = let c : true ≡ false = sym (ap is_eq same) ∙ other in absurd (cc)

all_nothing : (before : List Line) → AllByRecursion (λ l. AllByRecursion (Apart l) []) before
all_nothing [] = tt
all_nothing (l ∷ ls) = (tt, all_nothing ls)

joined : (before : List Line) (line : Line) (more : List Line) → AllByRecursion (λ l. Apart l line) before → AllByRecursion (λ l. AllByRecursion (Apart l) more) (before ++ line ∷ [])
    → AllByRecursion (λ l. AllByRecursion (Apart l) (line ∷ more)) before × AllByRecursion (Apart line) more
joined [] line more new rest = (tt, rest.0)
joined (l ∷ ls) line more new rest = let (all, own) = joined ls line more new.1 rest.1 in (((new.0, rest.0), all), own)

module _ (columns : List Column) where
  row_fits_line : (n : ℕ) (line : List Value → Line) → ((row : List Value) → IsTrue (fits columns row) → FitsLine columns (line row)) → (fields : List (List ℕ)) (l : Line)
      → row_line columns n line fields ≡ Ok l → FitsLine columns l
  row_fits_line n line fit fields l e =
      let (none, rest) = unfaulted (option_map (λ i. BadCell n i) (bad_cell_in columns fields)) _ l e in
      let (row, is, last) = had (row_of columns fields) (BadWidth n) (λ r. Ok (line r)) l rest in
      let same : line row ≡ l = cc in
      subst (FitsLine columns) same (fit row (row_fits columns fields row is).0)

  key_fits_line : (n : ℕ) (fields : List (List ℕ)) (l : Line) → key_line columns n fields ≡ Ok l → FitsLine columns l
  key_fits_line n fields l e =
      let (key, is, rest) = had (first_cell columns fields) (BadCell n 0) (λ k. unless (option_map (λ i. BadCell n i) (filled_behind fields)) (Ok (Remove k))) l e in
      let (none, last) = unfaulted (option_map (λ i. BadCell n i) (filled_behind fields)) (Ok (Remove key)) l rest in
      let same : Remove key ≡ l = cc in
      subst (FitsLine columns) same tt

  by_fits_line : (n : ℕ) (op : List ℕ) (fields : List (List ℕ)) (l : Line) → line_by columns n op fields ≡ Ok l → FitsLine columns l
  by_fits_line n op fields l e = by (is_word op (codes "+")) (is_word op (codes "~")) (is_word op (codes "-")) e
    where
      by : (p c r : Bool) → (if p then row_line columns n Put fields else (if c then row_line columns n Change fields else (if r then key_line columns n fields else Err (BadOp n)))) ≡ Ok l → FitsLine columns l
      by true c r e = row_fits_line n Put (λ row f. f) fields l e
      by false true r e = row_fits_line n Change (λ row f. f) fields l e
      by false false true e = key_fits_line n fields l e
      by false false false e = absurd (cc)

  in_fits_line : (n : ℕ) (r : List (List ℕ)) (l : Line) → line_in columns n r ≡ Ok l → FitsLine columns l
  in_fits_line n [] l e = absurd (cc)
  in_fits_line n (op ∷ fields) l e =
      let (wide, rest) = demanded (length fields == length columns) (BadWidth n) (line_by columns n op fields) l e in
      by_fits_line n op fields l rest

  from_fit_lines : (before : List Line) (n : ℕ) (rs : List (List (List ℕ))) (ls : List Line) → lines_from columns before n rs ≡ Ok ls → FitLines columns ls
  from_fit_lines before n [] ls e = let same : [] ≡ ls = cc in subst (FitLines columns) same tt
  from_fit_lines before n (r ∷ rs) ls e =
      let (line, is, e1) = gave (line_in columns n r) (λ fault. fault) _ ls e in
      let (new, e2) = demanded (not (names_key_of before line)) (KeyTwice n) _ ls e1 in
      let (more, are, e3) = gave (lines_from columns (before ++ line ∷ []) (n + 1) rs) (λ fault. fault) (λ lines. Ok (line ∷ lines)) ls e2 in
      let same : line ∷ more ≡ ls = cc in
      subst (FitLines columns) same (in_fits_line n r line is, from_fit_lines (before ++ line ∷ []) (n + 1) rs more are)

  records_fit_lines : (rs : List (List (List ℕ))) (ls : List Line) → lines_of_records columns rs ≡ Ok ls → FitLines columns ls
  records_fit_lines [] ls e = absurd (cc)
  records_fit_lines (head ∷ rs) ls e =
      let (a, e1) = demanded (is_header columns head) BadHeader _ ls e in
      let (b, e2) = demanded (nat_lt 0 (length rs)) EmptyBatch _ ls e1 in
      let (c, e3) = demanded (not (nat_lt 20000 (length rs))) TooManyLines (lines_from columns [] 1 rs) ls e2 in
      from_fit_lines [] 1 rs ls e3

  from_apart : (before : List Line) (n : ℕ) (rs : List (List (List ℕ))) (ls : List Line) → lines_from columns before n rs ≡ Ok ls → AllByRecursion (λ l. AllByRecursion (Apart l) ls) before × NameOwnKeys ls
  from_apart before n [] ls e = let same : [] ≡ ls = cc in subst (λ w. AllByRecursion (λ l. AllByRecursion (Apart l) w) before × NameOwnKeys w) same (all_nothing before, tt)
  from_apart before n (r ∷ rs) ls e =
      let (line, is, e1) = gave (line_in columns n r) (λ fault. fault) _ ls e in
      let (new, e2) = demanded (not (names_key_of before line)) (KeyTwice n) _ ls e1 in
      let (more, are, e3) = gave (lines_from columns (before ++ line ∷ []) (n + 1) rs) (λ fault. fault) (λ lines. Ok (line ∷ lines)) ls e2 in
      let same : line ∷ more ≡ ls = cc in
      let (rest, own) = from_apart (before ++ line ∷ []) (n + 1) rs more are in
      let (all, line_apart) = joined before line more (named_new before line new) rest in
      subst (λ w. AllByRecursion (λ l. AllByRecursion (Apart l) w) before × NameOwnKeys w) same (all, (line_apart, own))

  records_apart : (rs : List (List (List ℕ))) (ls : List Line) → lines_of_records columns rs ≡ Ok ls → NameOwnKeys ls
  records_apart [] ls e = absurd (cc)
  records_apart (head ∷ rs) ls e =
      let (a, e1) = demanded (is_header columns head) BadHeader _ ls e in
      let (b, e2) = demanded (nat_lt 0 (length rs)) EmptyBatch _ ls e1 in
      let (c, e3) = demanded (not (nat_lt 20000 (length rs))) TooManyLines (lines_from columns [] 1 rs) ls e2 in
      (from_apart [] 1 rs ls e3).1

  pub body_apart : (body : List ℕ) (ls : List Line) → lines_of columns body ≡ Ok ls → NameOwnKeys ls
  unfolding lines_of
  body_apart body ls e = records_apart (records default_config (strip_bom body)) ls e

  pub body_fits_lines : (body : List ℕ) (ls : List Line) → lines_of columns body ≡ Ok ls → FitLines columns ls
  unfolding lines_of
  body_fits_lines body ls e = records_fit_lines (records default_config (strip_bom body)) ls e

pub good_lines : BodiesSpellGoodLines
good_lines columns body lines e = (body_fits_lines columns body lines e, body_apart columns body lines e)
