-- What a header record and lines spell: read one after the other, at most one table, and none where a key comes twice.
use Rattle.std.proofs.Common.{◌≡◌, ℕ, ℤ, zero, suc, ◌<◌, ◌+◌, Bool, true, false, ◌&&◌, List, [], ◌∷◌, ◌++◌, Option, Some, None, map, length, take, slice_get, refl, sym, ap, ◌∙◌, subst, add-one, arith, IsPermutation}
use Rattle.std.specs.Prelude.{option_map, nat_le, is_none, if◌then◌else◌}
use Rattle.std.specs.List.{AllByRecursion, list_all, position, position_or_len}
use Rattle.std.proofs.lemmas.Bool.{lt-ltb, le-ltb}
use Rattle.std.proofs.lemmas.List.Elements.{recursion_from_All, All-from_recursion}
use Rattle.std.proofs.lemmas.List.Sorted.{All-permutation}
use Rattle.cite_schema.specs.declared.value.Kind.{Kind}
use Rattle.cite_schema.specs.declared.value.Kind.TheVariants as kinds
use Rattle.cite_schema.specs.declared.value.Value.{Value}
use Rattle.cite_schema.specs.declared.value.Value.TheVariants.{Int, Text}
use Rattle.cite_schema.specs.declared.schema.Column.{Column}
use Rattle.cite_schema.specs.Values.{is_text, is_value_of}
use Rattle.cite_schema.specs.Numbers.{number_of}
use Rattle.cite_schema.specs.Headings.{is_heading}
use Rattle.cite_schema.specs.Tables.{fits, is_short, is_short_row, key_cmp, is_table}
use Rattle.cite_schema.specs.TableTexts.{before, all_some, passing, column_in, header_of, cell_of, cells_in, bad_cell_in, row_of, IsTableOf, SpellsOnce, SpellsTable}
use Rattle.cite_schema.proofs.NumberTexts.{number_is}
use Rattle.cite_schema.proofs.Rising.{Differ, and_true, one_rearrangement}
use Rattle.cite_schema.proofs.Arranging.{arranged, arranged_moves, arranged_rises}
use Rattle.cite_schema.proofs.Orders.{key_total}

-- Reading one after the other.

pub before_none : {A : Type 0} (x : Option A) → before x None ≡ None
before_none None = refl
before_none (Some x) = refl

-- where there are all values, there is the first, and there are the others
pub before_some : {A : Type 0} (x : Option A) (r : Option (List A)) (ys : List A) → before x r ≡ Some ys → (z : A) × (zs : List A) × (x ≡ Some z) × (r ≡ Some zs) × (ys ≡ z ∷ zs)
before_some None r ys h = absurd (cc)
before_some (Some x) None ys h = absurd (cc)
before_some (Some x) (Some xs) ys h = (x, xs, refl, refl, cc)

-- as many values as there were to read
pub length-all_some : {A : Type 0} (os : List (Option A)) (ys : List A) → all_some os ≡ Some ys → length ys ≡ length os
length-all_some [] ys h = let e : ys ≡ [] = cc in rw e refl
length-all_some (o ∷ os) ys h = let (z, zs, is, rest, e) = before_some o (all_some os) ys h in rw e (ap suc (length-all_some os zs rest))

all_more : {A B : Type 0} (f : A → Option B) (xs : List A) (i : ℕ) (x : A) (y : B) (ys : List B) → slice_get xs i ≡ Some x → f x ≡ Some y → all_some (map f (take i xs)) ≡ Some ys
    → all_some (map f (take (suc i) xs)) ≡ Some (ys ++ y ∷ [])
all_more f [] i x y ys at is so = absurd (cc)
all_more f (a ∷ rest) zero x y ys at is so = let e : a ≡ x = cc in let n : [] ≡ ys = cc in rw (e, is, ← n) refl
all_more f (a ∷ more) (suc i) x y ys at is so =
    let (z, zs, first, rest, e) = before_some (f a) (all_some (map f (take i more))) ys so in
    rw (first, all_more f more i x y zs at is rest) (ap (λ l. Some (l ++ y ∷ [])) (sym e))

-- the values up to a place, and the one there
pub some_more : {A B : Type 0} (f : A → Option B) (xs : List A) (i : ℕ) (x : A) (y : B) (ys : List B) → slice_get xs i ≡ Some x → f x ≡ Some y → all_some (map f (take i xs)) ≡ Some ys
    → all_some (map f (take (i + 1) xs)) ≡ Some (ys ++ y ∷ [])
some_more f xs i x y ys at is so = rw add-one (all_more f xs i x y ys at is so)

-- where one is not there, there are not all
pub some_stop : {A B : Type 0} (f : A → Option B) (xs : List A) (i : ℕ) (x : A) → slice_get xs i ≡ Some x → f x ≡ None → all_some (map f xs) ≡ None
some_stop f [] i x at none = absurd (cc)
some_stop f (a ∷ rest) zero x at none = let e : a ≡ x = cc in rw (e, none) refl
some_stop f (a ∷ rest) (suc i) x at none = rw (some_stop f rest i x at none) (before_none (f a))

-- one more at the end
pub some_push : {A B : Type 0} (f : A → Option B) (xs : List A) (x : A) (y : B) (ys : List B) → all_some (map f xs) ≡ Some ys → f x ≡ Some y → all_some (map f (xs ++ x ∷ [])) ≡ Some (ys ++ y ∷ [])
some_push f [] x y ys so is = let n : [] ≡ ys = cc in rw (is, ← n) refl
some_push f (a ∷ more) x y ys so is =
    let (z, zs, first, rest, e) = before_some (f a) (all_some (map f more)) ys so in
    rw (first, some_push f more x y zs rest is) (ap (λ l. Some (l ++ y ∷ [])) (sym e))

-- what the first ones give stands in front
pub some_front : {A B : Type 0} (f : A → Option B) (xs more : List A) (ys zs : List B) → all_some (map f xs) ≡ Some ys → all_some (map f (xs ++ more)) ≡ Some zs → (rest : List B) × (zs ≡ ys ++ rest)
some_front f [] more ys zs p q = let n : [] ≡ ys = cc in (zs, ap (λ l. l ++ zs) n)
some_front f (a ∷ xs) more ys zs p q =
    let (u, us, first, rest, e) = before_some (f a) (all_some (map f xs)) ys p in
    let (v, vs, first', rest', e') = before_some (f a) (all_some (map f (xs ++ more))) zs q in
    let same : v ≡ u = cc in
    let (tail, t) = some_front f xs more us vs rest rest' in
    (tail, e' ∙ ap (λ w. w ∷ vs) same ∙ ap (λ l. u ∷ l) t ∙ ap (λ l. l ++ tail) (sym e))

next_cell : (cs : List Column) (fs : List (List ℕ)) (i : ℕ) (c : Column) (f : List ℕ) (v : Value) (vs : List Value) → slice_get cs i ≡ Some c → slice_get fs i ≡ Some f → cell_of c.kind f ≡ Some v
    → row_of (take i cs) (take i fs) ≡ Some vs → row_of (take (suc i) cs) (take (suc i) fs) ≡ Some (vs ++ v ∷ [])
next_cell [] fs i c f v vs at there is so = absurd (cc)
next_cell (d ∷ ds) [] i c f v vs at there is so = absurd (cc)
next_cell (d ∷ ds) (h ∷ hs) zero c f v vs at there is so = let e : d ≡ c = cc in let g : h ≡ f = cc in let n : [] ≡ vs = cc in rw (e, g, is, ← n) refl
next_cell (d ∷ ds) (h ∷ hs) (suc i) c f v vs at there is so =
    let (z, zs, first, rest, e) = before_some (cell_of d.kind h) (row_of (take i ds) (take i hs)) vs so in
    rw (first, next_cell ds hs i c f v zs at there is rest) (ap (λ l. Some (l ++ v ∷ [])) (sym e))

-- the cells up to a place, and the one there
pub cell_more : (cs : List Column) (fs : List (List ℕ)) (i : ℕ) (c : Column) (f : List ℕ) (v : Value) (vs : List Value) → slice_get cs i ≡ Some c → slice_get fs i ≡ Some f → cell_of c.kind f ≡ Some v
    → row_of (take i cs) (take i fs) ≡ Some vs → row_of (take (i + 1) cs) (take (i + 1) fs) ≡ Some (vs ++ v ∷ [])
cell_more cs fs i c f v vs at there is so = rw add-one (next_cell cs fs i c f v vs at there is so)

-- the first field that says no value is the bad cell
pub first_bad : (cs : List Column) (fs : List (List ℕ)) (i : ℕ) (c : Column) (f : List ℕ) (vs : List Value) → slice_get cs i ≡ Some c → slice_get fs i ≡ Some f → cell_of c.kind f ≡ None → row_of (take i cs) (take i fs) ≡ Some vs
    → (position_or_len is_none (cells_in cs fs) ≡ i) × (i < length (cells_in cs fs))
first_bad [] fs i c f vs at there none so = absurd (cc)
first_bad (d ∷ ds) [] i c f vs at there none so = absurd (cc)
first_bad (d ∷ ds) (h ∷ hs) zero c f vs at there none so = let e : d ≡ c = cc in let g : h ≡ f = cc in rw (e, g, none) (refl, omega arith)
first_bad (d ∷ ds) (h ∷ hs) (suc i) c f vs at there none so =
    let (z, zs, first, rest, e) = before_some (cell_of d.kind h) (row_of (take i ds) (take i hs)) vs so in
    let (here, within) = first_bad ds hs i c f zs at there none rest in
    rw first (omega (arith, here), omega (arith, within))

found_at : {A : Type 0} (p : A → Bool) (xs : List A) (i : ℕ) → position_or_len p xs ≡ i → i < length xs → position p xs ≡ Some i
found_at p xs i at within = rw at (rw (lt-ltb i (length xs) within) refl)

pub bad_cell_at : (cs : List Column) (fs : List (List ℕ)) (i : ℕ) (c : Column) (f : List ℕ) (vs : List Value) → slice_get cs i ≡ Some c → slice_get fs i ≡ Some f → cell_of c.kind f ≡ None → row_of (take i cs) (take i fs) ≡ Some vs
    → bad_cell_in cs fs ≡ Some i
bad_cell_at cs fs i c f vs at there none so =
    let (here, within) = first_bad cs fs i c f vs at there none so in
    found_at is_none (cells_in cs fs) i here within

-- where the line spells a row, it has the width of the columns
pub row_width : (cs : List Column) (fs : List (List ℕ)) (row : List Value) → row_of cs fs ≡ Some row → length fs ≡ length cs
row_width [] [] row so = refl
row_width [] (f ∷ fs) row so = absurd (cc)
row_width (c ∷ cs) [] row so = absurd (cc)
row_width (c ∷ cs) (f ∷ fs) row so = let (z, zs, first, rest, e) = before_some (cell_of c.kind f) (row_of cs fs) row so in ap suc (row_width cs fs zs rest)

none_bad : (cs : List Column) (fs : List (List ℕ)) (row : List Value) → row_of cs fs ≡ Some row → position_or_len is_none (cells_in cs fs) ≡ length (cells_in cs fs)
none_bad [] [] row so = refl
none_bad [] (f ∷ fs) row so = absurd (cc)
none_bad (c ∷ cs) [] row so = absurd (cc)
none_bad (c ∷ cs) (f ∷ fs) row so = let (z, zs, first, rest, e) = before_some (cell_of c.kind f) (row_of cs fs) row so in let more = none_bad cs fs zs rest in rw first (omega (arith, more))

found_none : {A : Type 0} (p : A → Bool) (xs : List A) → position_or_len p xs ≡ length xs → position p xs ≡ None
found_none p xs at = rw at (rw (le-ltb (length xs) (length xs) (omega arith)) refl)

-- and no bad cell
pub row_cells : (cs : List Column) (fs : List (List ℕ)) (row : List Value) → row_of cs fs ≡ Some row → bad_cell_in cs fs ≡ None
row_cells cs fs row so = found_none is_none (cells_in cs fs) (none_bad cs fs row so)

-- What was read fits.

passed : {A : Type 0} (b : Bool) (x y : A) → (if b then Some x else None) ≡ Some y → (b ≡ true) × (x ≡ y)
passed true x y h = (refl, cc)
passed false x y h = absurd (cc)

halves : (a b : Bool) → (a && b) ≡ true → (a ≡ true) × (b ≡ true)
halves true b e = (refl, e)
halves false b e = absurd (cc)

number_cell : (o : Option ℤ) (v : Value) → option_map Int o ≡ Some v → (z : ℤ) × (o ≡ Some z) × (v ≡ Int z)
number_cell None v h = absurd (cc)
number_cell (Some z) v h = (z, refl, cc)

-- a value that a field says is one of the column's kind, and may come in from outside
pub cell_fits : (k : Kind) (f : List ℕ) (v : Value) → cell_of k f ≡ Some v → (is_value_of k v ≡ true) × (is_short v ≡ true)
cell_fits kinds.Int f v h = let (z, is, e) = number_cell (number_of f) v h in (ap (is_value_of kinds.Int) e ∙ number_is f z is, ap is_short e)
cell_fits kinds.Text f v h =
    let (long, is) = passed (is_text f && nat_le (length f) 65535) (Text f) v h in
    let (text, short) = halves (is_text f) (nat_le (length f) 65535) long in
    (ap (is_value_of kinds.Text) (sym is) ∙ text, ap is_short (sym is) ∙ short)

-- a row that a line spells fits the columns, and may come in from outside
pub row_fits : (cs : List Column) (fs : List (List ℕ)) (row : List Value) → row_of cs fs ≡ Some row → (fits cs row ≡ true) × (is_short_row row ≡ true)
row_fits [] [] row h = let e : [] ≡ row = cc in (ap (fits []) (sym e), ap is_short_row (sym e))
row_fits [] (f ∷ fs) row h = absurd (cc)
row_fits (c ∷ cs) [] row h = absurd (cc)
row_fits (c ∷ cs) (f ∷ fs) row h =
    let (z, zs, first, rest, e) = before_some (cell_of c.kind f) (row_of cs fs) row h in
    let (kind, short) = cell_fits c.kind f z first in
    let (more, shorter) = row_fits cs fs zs rest in
    (ap (fits (c ∷ cs)) e ∙ and_true _ _ kind more, ap is_short_row e ∙ and_true _ _ short shorter)

rows_fit : (cs : List Column) (lines : List (List (List ℕ))) (rows : List (List Value)) → all_some (map (row_of cs) lines) ≡ Some rows → AllByRecursion (λ row. fits cs row ≡ true) rows
rows_fit cs [] rows h = let e : [] ≡ rows = cc in subst (λ (rs : List (List Value)). AllByRecursion (λ row. fits cs row ≡ true) rs) e tt
rows_fit cs (l ∷ lines) rows h =
    let (z, zs, first, rest, e) = before_some (row_of cs l) (all_some (map (row_of cs) lines)) rows h in
    let (here, short) = row_fits cs l z first in
    subst (λ (rs : List (List Value)). AllByRecursion (λ row. fits cs row ≡ true) rs) (sym e) (here, rows_fit cs lines zs rest)

list_all_true : {X : Type 0} (p : X → Bool) (xs : List X) → AllByRecursion (λ x. p x ≡ true) xs → list_all p xs ≡ true
list_all_true p [] h = refl
list_all_true p (x ∷ xs) h = and_true _ _ h.0 (list_all_true p xs h.1)

-- a table of lines is a table of the columns
pub is_table_of : (columns : List Column) (lines : List (List (List ℕ))) (table : List (List Value)) → IsTableOf columns lines table → is_table columns table ≡ true
is_table_of columns lines table t =
    let fit = recursion_from_All (λ row. fits columns row ≡ true) table (All-permutation (λ row. fits columns row ≡ true) t.rows table t.same (All-from_recursion (λ row. fits columns row ≡ true) t.rows (rows_fit columns lines t.rows t.read))) in
    and_true _ _ (list_all_true (λ r. fits columns r) table fit) t.keyed

-- One table, and when there is none.

some_one : {A : Type 0} (x y : A) (o : Option A) → o ≡ Some x → o ≡ Some y → x ≡ y
some_one x y o p q = cc

-- two tables of the same lines are one
pub one_table : (columns : List Column) (lines : List (List (List ℕ))) (table other : List (List Value)) → IsTableOf columns lines table → IsTableOf columns lines other → table ≡ other
one_table columns lines table other t u =
    let same : u.rows ≡ t.rows = some_one u.rows t.rows _ u.read t.read in
    one_rearrangement key_cmp key_total t.rows table other t.same (subst (λ (rs : List (List Value)). IsPermutation rs other) same u.same) t.keyed u.keyed

-- rows with different keys have a table
pub has_table : (columns : List Column) (lines : List (List (List ℕ))) (rows : List (List Value)) → all_some (map (row_of columns) lines) ≡ Some rows → Differ key_cmp key_total rows
    → IsTableOf columns lines (arranged key_cmp key_total rows)
has_table columns lines rows read differ = record { rows = rows; read = read; same = arranged_moves key_cmp key_total rows; keyed = arranged_rises key_cmp key_total rows differ }

heading_passed : (o : Option (List Column)) (columns : List Column) → passing is_heading o ≡ Some columns → is_heading columns ≡ true
heading_passed None columns h = absurd (cc)
heading_passed (Some cs) columns h = let (good, is) = passed (is_heading cs) cs columns h in ap is_heading (sym is) ∙ good

-- columns that a header record spells make a schema
pub header_is_heading : (fields : List (List ℕ)) (columns : List Column) → header_of fields ≡ Some columns → is_heading columns ≡ true
header_is_heading fields columns h = heading_passed (all_some (map column_in fields)) columns h

pub spells_table : SpellsTable
spells_table [] columns table s = absurd s
spells_table (head ∷ lines) columns table s = and_true _ _ (header_is_heading head columns s.0) (is_table_of columns lines table s.1)

pub spells_once : SpellsOnce
spells_once [] columns others table other s u = absurd s
spells_once (head ∷ lines) columns others table other s u =
    let same : others ≡ columns = some_one others columns (header_of head) u.0 s.0 in
    (sym same, one_table columns lines table other s.1 (subst (λ (cs : List Column). IsTableOf cs lines other) same u.1))
