-- The lines that are read, record by record.
use Rattle.std.proofs.Common.{◌≡◌, ◌≢◌, ◌⊎◌, inl, inr, ◌<◌, ◌≤◌, ◌+◌, ℕ, suc, List, [], ◌∷◌, ◌++◌, Option, Some, None, Result, length, refl, sym, ap, ◌∙◌, subst, arith, append_assoc, append-nil, length-append}
use Rattle.std.specs.Prelude.{Ok, Err}
use Rattle.std.proofs.lemmas.Bool.{cases_lt}
use Rattle.cite_schema.specs.declared.schema.Column.{Column}
use Rattle.cite_schema.specs.declared.line.Line.{Line}
use Rattle.batches.specs.declared.fault.BatchFault.{BatchFault}
use Rattle.batches.specs.declared.reading.Collected.{Collected}
use Rattle.batches.specs.Bodies.{line_in}
use Rattle.batches.specs.Laws.{AreLines}
use Rattle.batches.specs.Parts.{added, read_after, AreCollected, IsCollected}

pub lines_count : (columns : List Column) (n : ℕ) (records : List (List (List ℕ))) (lines : List Line) → AreLines columns n records lines → length lines ≡ length records
lines_count columns n [] [] h = refl
lines_count columns n [] (l ∷ ls) h = absurd h
lines_count columns n (r ∷ rs) [] h = absurd h
lines_count columns n (r ∷ rs) (l ∷ ls) h = ap suc (lines_count columns (n + 1) rs ls h.1)

-- one more record spells one more line
pub lines_more : (columns : List Column) (n : ℕ) (records : List (List (List ℕ))) (lines : List Line) (fields : List (List ℕ)) (line : Line) → AreLines columns n records lines → line_in columns (n + length records) fields ≡ Ok line
    → AreLines columns n (records ++ fields ∷ []) (lines ++ line ∷ [])
lines_more columns n [] [] fields line h e = let same : n + 0 ≡ n = omega arith in (ap (λ k. line_in columns k fields) (sym same) ∙ e, tt)
lines_more columns n [] (l ∷ ls) fields line h e = absurd h
lines_more columns n (r ∷ rs) [] fields line h e = absurd h
lines_more columns n (r ∷ rs) (l ∷ ls) fields line h e =
    let same : n + 1 + length rs ≡ n + suc (length rs) = omega arith in
    (h.0, lines_more columns (n + 1) rs ls fields line h.1 (ap (λ k. line_in columns k fields) same ∙ e))

-- of all records these are left, and those before them were read
pub record ReadSoFar (columns : List Column) (all left : List (List (List ℕ))) (read : Collected) (line : ℕ) : Type 0 where
  pub done : List (List (List ℕ))
  pub parts : all ≡ done ++ left
  pub collected : AreCollected columns done read.lines read.fault
  pub line_is : line ≡ length done

pub none_read : (columns : List Column) (all : List (List (List ℕ))) (read : Collected) → read.lines ≡ [] → read.fault ≡ None → ReadSoFar columns all all read 0
none_read columns all read empty good = record {
  done = [];
  parts = refl;
  collected = subst (λ (f : Option BatchFault). AreCollected columns [] read.lines f) (sym good) (subst (λ (l : List Line). AreLines columns 1 [] l) (sym empty) tt);
  line_is = refl;
}

collected_more : (columns : List Column) (done : List (List (List ℕ))) (fields : List (List ℕ)) (lines : List Line) (fault : Option BatchFault) → AreCollected columns done lines fault
    → AreCollected columns (done ++ fields ∷ []) (read_after columns (length done + 1) fields fault (record { lines = lines; fault = fault })).lines (read_after columns (length done + 1) fields fault (record { lines = lines; fault = fault })).fault
collected_more columns done fields lines None h = by (line_in columns (length done + 1) fields) refl
  where
    number : 1 + length done ≡ length done + 1
    number = omega arith

    by : (r : Result Line BatchFault) → line_in columns (length done + 1) fields ≡ r → AreCollected columns (done ++ fields ∷ []) (added (record { lines = lines; fault = None }) r).lines (added (record { lines = lines; fault = None }) r).fault
    by (Ok line) e = lines_more columns 1 done lines fields line h (ap (λ k. line_in columns k fields) number ∙ e)
    by (Err fault) e = record {
      before = done;
      fields = fields;
      after = [];
      parts = refl;
      spelled = h;
      breaks = ap (λ k. line_in columns (k + 1) fields) (lines_count columns 1 done lines h) ∙ e;
    }
collected_more columns done fields lines (Some fault) h = record {
  before = h.before;
  fields = h.fields;
  after = h.after ++ fields ∷ [];
  parts = ap (λ l. l ++ fields ∷ []) h.parts ∙ append_assoc h.before (h.fields ∷ h.after) (fields ∷ []);
  spelled = h.spelled;
  breaks = h.breaks;
}

module _ (columns : List Column) (all rest : List (List (List ℕ))) (read : Collected) (line : ℕ) (fields : List (List ℕ)) (so : ReadSoFar columns all (fields ∷ rest) read line) where
  -- there are more records than were read
  pub more_left : line < length all
  more_left = let p = ap length so.parts ∙ length-append so.done (fields ∷ rest) in let l = so.line_is in omega (arith, p, l)

  -- one more is read
  pub read_more : (new : Collected) → new ≡ read_after columns (line + 1) fields read.fault read → ReadSoFar columns all rest new (line + 1)
  read_more new is =
      let n = length-append so.done (fields ∷ []) in
      let l = so.line_is in
      let same : new ≡ read_after columns (length so.done + 1) fields read.fault read = is ∙ ap (λ k. read_after columns (k + 1) fields read.fault read) so.line_is in
      record {
        done = so.done ++ fields ∷ [];
        parts = so.parts ∙ sym (append_assoc so.done (fields ∷ []) rest);
        collected = subst (λ (c : Collected). AreCollected columns (so.done ++ fields ∷ []) c.lines c.fault) (sym same) (collected_more columns so.done fields read.lines read.fault so.collected);
        line_is = omega (arith, n, l);
      }

-- where none is left, all are read
pub all_read : (columns : List Column) (all left : List (List (List ℕ))) (read : Collected) (line : ℕ) → left ≡ [] → 1 ≤ line → line ≤ 20000 → ReadSoFar columns all left read line → IsCollected columns all read
all_read columns all left read line none some few so =
    let whole : so.done ≡ all = sym (append-nil so.done) ∙ ap (λ l. so.done ++ l) (sym none) ∙ sym so.parts in
    let count : line ≡ length all = so.line_is ∙ ap length whole in
    record { some = omega (arith, count, some); few = omega (arith, count, few); collected = subst (λ (l : List (List (List ℕ))). AreCollected columns l read.lines read.fault) whole so.collected }

-- where none is left and none was read, there was none
pub none_there : (columns : List Column) (all left : List (List (List ℕ))) (read : Collected) (line : ℕ) → left ≡ [] → line ≡ 0 → ReadSoFar columns all left read line → length all ≡ 0
none_there columns all left read line none zero_is so =
    let whole : so.done ≡ all = sym (append-nil so.done) ∙ ap (λ l. so.done ++ l) (sym none) ∙ sym so.parts in
    sym (ap length whole) ∙ sym so.line_is ∙ zero_is

-- a number of lines that is not the most of them
pub below_most : (n : ℕ) → n ≤ 20000 → n ≢ 20000 → n + 1 ≤ 20000
below_most n few other = by (cases_lt n 20000)
  where
    by : (n < 20000) ⊎ (20000 ≤ n) → n + 1 ≤ 20000
    by (inl below) = omega (arith, below)
    by (inr from) = absurd (other (omega (arith, few, from)))
