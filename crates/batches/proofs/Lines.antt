-- What a record of a line says, field by field.
use Rattle.std.proofs.Common.{◌≡◌, ◌≢◌, codes, eq-eqb, ◌<◌, ◌≤◌, ◌+◌, ◌-◌, ℕ, suc, Bool, true, false, not, ◌==◌, List, [], ◌∷◌, Option, Some, None, length, drop, get_or, slice_get, refl, sym, ap, ◌∙◌, arith, ◌⊎◌, inl, inr}
use Rattle.std.specs.Prelude.{Ok, Err, option_map}
use Rattle.std.specs.List.{position, position_or_len}
use Rattle.std.proofs.lemmas.Bool.{lt-ltb, le-ltb, cases_lt}
use Rattle.std.proofs.lemmas.Bool.Decides.{nat_tests}
use Rattle.std.proofs.lemmas.List.Sums.{position_or_len_is}
use Rattle.cite_schema.specs.declared.value.Value.{Value}
use Rattle.cite_schema.specs.declared.schema.Column.{Column}
use Rattle.cite_schema.specs.declared.line.Line.{Line}
use Rattle.cite_schema.specs.TableTexts.{row_of, bad_cell_in}
use Rattle.cite_schema.specs.declared.line.Line.TheVariants.{Put, Change, Remove}
use Rattle.cite_schema.specs.Tests.{demand, unless, wanted}
use Rattle.cite_schema.proofs.TableTexts.{row_cells}
use Rattle.batches.specs.declared.fault.BatchFault.{BatchFault}
use Rattle.batches.specs.declared.fault.BatchFault.TheVariants.{BadWidth, BadCell, BadOp}
use Rattle.batches.specs.Bodies.{is_word, row_line, key_line, line_by, line_in, first_cell, filled_behind}
use Rattle.batches.specs.Parts.{row_in, key_alone}

-- fields that spell a row
pub row_in_is : (columns : List Column) (n : ℕ) (fields : List (List ℕ)) (row : List Value) → row_of columns fields ≡ Some row → Ok row ≡ row_in columns n fields
row_in_is columns n fields row so = rw (row_cells columns fields row so, so) refl

-- the line of a row
pub line_of_row : (columns : List Column) (n : ℕ) (line : List Value → Line) (fields : List (List ℕ)) (row : List Value) → Ok row ≡ row_in columns n fields → Ok (line row) ≡ row_line columns n line fields
line_of_row columns n line fields row e = by (bad_cell_in columns fields) (row_of columns fields) e
  where
    by : (bad : Option ℕ) (read : Option (List Value)) → Ok row ≡ unless (option_map (λ i. BadCell n i) bad) (wanted read (BadWidth n) (λ r. Ok r)) → Ok (line row) ≡ unless (option_map (λ i. BadCell n i) bad) (wanted read (BadWidth n) (λ r. Ok (line r)))
    by None None h = absurd (cc)
    by None (Some r) h = let same : row ≡ r = cc in rw same refl
    by (Some i) read h = absurd (cc)

pub line_of_bad_row : (columns : List Column) (n : ℕ) (line : List Value → Line) (fields : List (List ℕ)) (fault : BatchFault) → Err fault ≡ row_in columns n fields → Err fault ≡ row_line columns n line fields
line_of_bad_row columns n line fields fault e = by (bad_cell_in columns fields) (row_of columns fields) e
  where
    by : (bad : Option ℕ) (read : Option (List Value)) → Err fault ≡ unless (option_map (λ i. BadCell n i) bad) (wanted read (BadWidth n) (λ r. Ok r)) → Err fault ≡ unless (option_map (λ i. BadCell n i) bad) (wanted read (BadWidth n) (λ r. Ok (line r)))
    by None None h = let same : fault ≡ BadWidth n = cc in rw same refl
    by None (Some r) h = absurd (cc)
    by (Some i) read h = let same : fault ≡ BadCell n i = cc in rw same refl

same_number : (n m : ℕ) → (n == m) ≡ true → n ≡ m
same_number n m e = grind (arith, nat_tests)

-- the empty fields behind the key
empty_is : (g : List ℕ) → (length g == 0) ≡ true → g ≡ []
empty_is [] e = refl
empty_is (b ∷ bs) e = let none = same_number (length (b ∷ bs)) 0 e in absurd (omega (arith, none))

pub empty_more : (fields : List (List ℕ)) (at : ℕ) → ((k : ℕ) → 2 ≤ k → k < at → get_or fields k [] ≡ []) → (length (get_or fields at []) == 0) ≡ true → (k : ℕ) → 2 ≤ k → k < at + 1 → get_or fields k [] ≡ []
empty_more fields at empty e k from below = by (cases_lt k at)
  where
    by : (k < at) ⊎ (at ≤ k) → get_or fields k [] ≡ []
    by (inl before) = empty k from before
    by (inr past) = let same : k ≡ at = omega (arith, past, below) in ap (λ n. get_or fields n []) same ∙ empty_is (get_or fields at []) e

at_shift : (o f : List ℕ) (fs : List (List ℕ)) (k : ℕ) → get_or (o ∷ f ∷ fs) (k + 2) [] ≡ get_or fs k []
at_shift o f fs k = let two : k + 2 ≡ suc (suc k) = omega arith in ap (λ n. get_or (o ∷ f ∷ fs) n []) two

pub none_filled : (fields : List (List ℕ)) → 2 ≤ length fields → ((k : ℕ) → 2 ≤ k → k < length fields → get_or fields k [] ≡ []) → None ≡ filled_behind (drop 1 fields)
none_filled [] wide empty = absurd (omega (arith, wide))
none_filled (o ∷ []) wide empty = absurd (omega (arith, wide))
none_filled (o ∷ f ∷ fs) wide empty =
    let all : position_or_len (λ (g : List ℕ). not (length g == 0)) fs ≡ length fs =
    position_or_len_is (λ (g : List ℕ). not (length g == 0)) fs (length fs) [] (omega arith)
    (λ k below. ap (λ (g : List ℕ). not (length g == 0)) (sym (at_shift o f fs k) ∙ empty (k + 2) (omega arith) (omega (arith, below))))
    (λ past. absurd (omega (arith, past))) in
    let none : position (λ (g : List ℕ). not (length g == 0)) fs ≡ None = rw all (rw (le-ltb (length fs) (length fs) (omega arith)) refl) in
    rw none refl

pub filled_at : (fields : List (List ℕ)) (at : ℕ) → 2 ≤ at → at < length fields → ((k : ℕ) → 2 ≤ k → k < at → get_or fields k [] ≡ []) → (length (get_or fields at []) == 0) ≡ false → Some (at - 1) ≡ filled_behind (drop 1 fields)
filled_at [] at from within empty filled = absurd (omega (arith, within))
filled_at (o ∷ []) at from within empty filled = absurd (omega (arith, within, from))
filled_at (o ∷ f ∷ fs) at from within empty filled =
    let there : at ≡ (at - 2) + 2 = omega (arith, from) in
    let here : position_or_len (λ (g : List ℕ). not (length g == 0)) fs ≡ at - 2 =
    position_or_len_is (λ (g : List ℕ). not (length g == 0)) fs (at - 2) [] (omega (arith, within))
    (λ k below. ap (λ (g : List ℕ). not (length g == 0)) (sym (at_shift o f fs k) ∙ empty (k + 2) (omega arith) (omega (arith, below, from))))
    (λ past. ap (λ (g : List ℕ). not (length g == 0)) (sym (at_shift o f fs (at - 2)) ∙ ap (λ n. get_or (o ∷ f ∷ fs) n []) (sym there)) ∙ ap not filled) in
    let found : position (λ (g : List ℕ). not (length g == 0)) fs ≡ Some (at - 2) = rw here (rw (lt-ltb (at - 2) (length fs) (omega (arith, within, from))) refl) in
    let shift : at - 1 ≡ (at - 2) + 1 = omega (arith, from) in
    rw found (ap Some shift)

-- The line of a record, by its first field.
module _ (columns : List Column) (n : ℕ) (fields : List (List ℕ)) (op : List ℕ) (at : slice_get fields 0 ≡ Some op) (wide : length fields ≡ length columns + 1) where
  by_op : line_in columns n fields ≡ line_by columns n op (drop 1 fields)
  by_op = cases fields at wide
    where
      cases : (fs : List (List ℕ)) → slice_get fs 0 ≡ Some op → length fs ≡ length columns + 1 → line_in columns n fs ≡ line_by columns n op (drop 1 fs)
      cases [] e w = absurd (cc)
      cases (f ∷ fs) e w =
          let same : f ≡ op = cc in
          let width : length fs ≡ length columns = omega (arith, w) in
          let passes : (length fs == length columns) ≡ true = eq-eqb (length fs) (length columns) width in
          rw (passes, same) refl

  pub puts : is_word op (codes "+") ≡ true → line_in columns n fields ≡ row_line columns n Put (drop 1 fields)
  puts e = by_op ∙ rw e refl

  pub changes : is_word op (codes "+") ≡ false → is_word op (codes "~") ≡ true → line_in columns n fields ≡ row_line columns n Change (drop 1 fields)
  changes e f = by_op ∙ rw (e, f) refl

  pub removes : is_word op (codes "+") ≡ false → is_word op (codes "~") ≡ false → is_word op (codes "-") ≡ true → line_in columns n fields ≡ key_line columns n (drop 1 fields)
  removes e f g = by_op ∙ rw (e, f, g) refl

  pub does_nothing : is_word op (codes "+") ≡ false → is_word op (codes "~") ≡ false → is_word op (codes "-") ≡ false → line_in columns n fields ≡ Err (BadOp n)
  does_nothing e f g = by_op ∙ rw (e, f, g) refl

-- a record of another width
pub other_width : (columns : List Column) (n : ℕ) (fields : List (List ℕ)) → length fields ≢ length columns + 1 → Err (BadWidth n) ≡ line_in columns n fields
other_width columns n [] other = refl
other_width columns n (f ∷ fs) other = by (length fs == length columns) refl
  where
    by : (b : Bool) → (length fs == length columns) ≡ b → Err (BadWidth n) ≡ demand b (BadWidth n) (line_by columns n f fs)
    by true e = let same : length fs ≡ length columns = same_number (length fs) (length columns) e in absurd (other (omega (arith, same)))
    by false e = refl

-- the line of a key
pub line_of_key : (columns : List Column) (n : ℕ) (fields : List (List ℕ)) (key : Value) → Ok key ≡ key_alone columns n fields → Ok (Remove key) ≡ key_line columns n fields
line_of_key columns n fields key e = by (first_cell columns fields) (filled_behind fields) e
  where
    by : (cell : Option Value) (filled : Option ℕ) → Ok key ≡ wanted cell (BadCell n 0) (λ k. unless (option_map (λ i. BadCell n i) filled) (Ok k)) → Ok (Remove key) ≡ wanted cell (BadCell n 0) (λ k. unless (option_map (λ i. BadCell n i) filled) (Ok (Remove k)))
    by None filled h = absurd (cc)
    by (Some k) None h = let same : key ≡ k = cc in rw same refl
    by (Some k) (Some i) h = absurd (cc)

pub line_of_bad_key : (columns : List Column) (n : ℕ) (fields : List (List ℕ)) (fault : BatchFault) → Err fault ≡ key_alone columns n fields → Err fault ≡ key_line columns n fields
line_of_bad_key columns n fields fault e = by (first_cell columns fields) (filled_behind fields) e
  where
    by : (cell : Option Value) (filled : Option ℕ) → Err fault ≡ wanted cell (BadCell n 0) (λ k. unless (option_map (λ i. BadCell n i) filled) (Ok k)) → Err fault ≡ wanted cell (BadCell n 0) (λ k. unless (option_map (λ i. BadCell n i) filled) (Ok (Remove k)))
    by None filled h = let same : fault ≡ BadCell n 0 = cc in rw same refl
    by (Some k) None h = absurd (cc)
    by (Some k) (Some i) h = let same : fault ≡ BadCell n i = cc in rw same refl
