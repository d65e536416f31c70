-- What a line breaks, and what the lines break one after the other.
use Rattle.std.proofs.Common.{◌≡◌, ℕ, suc, ◌+◌, true, false, List, [], ◌∷◌, ◌++◌, Some, None, length, refl, sym, ap, ◌∙◌, arith}
use Rattle.std.specs.Prelude.{nat_eq}
use Rattle.std.proofs.lemmas.Bool.Decides.{nat_tests}
use Rattle.cite_schema.specs.declared.value.Value.{Value}
use Rattle.cite_schema.specs.declared.schema.Column.{Column}
use Rattle.cite_schema.specs.Tables.{has_key}
use Rattle.cite_schema.specs.TableTexts.{row_of, cell_of, bad_cell_in}
use Rattle.cite_schema.proofs.TableTexts.{before_some, row_width, row_cells}
use Rattle.cite_cli.specs.declared.refusal.Refusal.{Refusal}
use Rattle.cite_cli.specs.declared.refusal.Refusal.TheVariants.{BadCell, KeyTwice}
use Rattle.cite_cli.specs.Refusals.{own_fault, lines_fault}

same_width : (fields : List (List ℕ)) (columns : List Column) → length fields ≡ length columns → nat_eq (length fields) (length columns) ≡ true
same_width fields columns e = grind (arith, nat_tests)

-- the first bad cell of a line of the right width is its fault
pub cell_fault : (columns : List Column) (line : ℕ) (fields : List (List ℕ)) (i : ℕ) → length fields ≡ length columns → bad_cell_in columns fields ≡ Some i → own_fault columns line fields ≡ Some (BadCell line i)
cell_fault columns line fields i wide bad = rw (same_width fields columns wide, bad) refl

-- a line that spells a row breaks no rule by itself
pub no_own_fault : (columns : List Column) (line : ℕ) (fields : List (List ℕ)) (row : List Value) → row_of columns fields ≡ Some row → own_fault columns line fields ≡ None
no_own_fault columns line fields row so =
    rw (same_width fields columns (row_width columns fields row so), row_cells columns fields row so) refl

-- what a line breaks by itself is the first rule that the lines from it on break
pub own_first : (columns : List Column) (earlier : List (List Value)) (fields : List (List ℕ)) (rest : List (List (List ℕ))) (refusal : Refusal) → own_fault columns (length earlier + 1) fields ≡ Some refusal
    → lines_fault columns earlier (fields ∷ rest) ≡ Some refusal
own_first columns earlier fields rest refusal e = rw e refl

-- so is a key that an earlier row has
pub key_first : (columns : List Column) (earlier : List (List Value)) (fields : List (List ℕ)) (rest : List (List (List ℕ))) (row : List Value) → row_of columns fields ≡ Some row → has_key earlier row ≡ true
    → lines_fault columns earlier (fields ∷ rest) ≡ Some (KeyTwice (length earlier + 1))
key_first columns earlier fields rest row so twice = rw (no_own_fault columns (length earlier + 1) fields row so, so, twice) refl

-- a line that breaks none leaves the rules to the others
pub none_first : (columns : List Column) (earlier : List (List Value)) (fields : List (List ℕ)) (rest : List (List (List ℕ))) (row : List Value) → row_of columns fields ≡ Some row → has_key earlier row ≡ false
    → lines_fault columns earlier (fields ∷ rest) ≡ lines_fault columns (earlier ++ row ∷ []) rest
none_first columns earlier fields rest row so new = rw (no_own_fault columns (length earlier + 1) fields row so, so, new) refl

-- a row that a line spells has a cell for each column
pub row_cells_count : (columns : List Column) (fields : List (List ℕ)) (row : List Value) → row_of columns fields ≡ Some row → length row ≡ length columns
row_cells_count [] [] row so = let none : [] ≡ row = cc in ap length (sym none)
row_cells_count [] (f ∷ fs) row so = absurd (cc)
row_cells_count (c ∷ cs) [] row so = absurd (cc)
row_cells_count (c ∷ cs) (f ∷ fs) row so = let (z, zs, first, rest, e) = before_some (cell_of c.kind f) (row_of cs fs) row so in ap length e ∙ ap suc (row_cells_count cs fs zs rest)
