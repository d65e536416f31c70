-- What the carrying of rows asks for, of rows that readers see.
use Rattle.std.proofs.Common.{◌≡◌, ℕ, zero, suc, ◌+◌, ◌*◌, ◌-◌, ◌^◌, ◌<◌, ◌≤◌, Bool, true, List, [], ◌∷◌, Option, Some, IsTrue, length, slice_get, slice_index_or, refl, sym, ap, ◌∙◌, subst, arith}
use Rattle.std.specs.Prelude.{Result, Ok, Err, IsOk, nat_le, ◌&&◌}
use Rattle.std.specs.List.{AllByRecursion, AllZip, Contains, list_all}
use Rattle.std.proofs.lemmas.Bool.Decides.{nat_tests}
use Rattle.std.proofs.lemmas.List.{length-map}
use Rattle.cite_schema.specs.Headings.{Heading, is_heading}
use Rattle.cite_schema.specs.Tables.{fits, is_table}
use Rattle.cite_schema.specs.declared.value.Value.{Value}
use Rattle.cite_schema.specs.declared.schema.Column.{Column}
use Rattle.cite_schema.specs.declared.step.Step.{Step}
use Rattle.cite_schema.proofs.Rising.{and_first, and_second}
use Rattle.cite_schema.proofs.Results.{demanded}
use Rattle.migration.specs.Columns.{columns_after_all, carry_schema, step_places}
use Rattle.migration.specs.Rows.{carry_row, row_at_all}
use Rattle.migration.proofs.AtPlaces.{rows_at_places}
use Rattle.migration.proofs.Keys.{carried_keeps_key}
use Rattle.versioned_rows.specs.declared.rows.KeptRow.{KeptRow}
use Rattle.versioned_rows.specs.Histories.{RowHistory, rows_of, as_of}
use Rattle.versioned_rows.specs.Presence.{WasInTable}
use Rattle.versioned_rows.specs.Weights.{row_weight, rows_weight}
use Rattle.archive_model.specs.Archives.{columns_of}
use Rattle.archive_model.proofs.Sound.{citations_resolve, columns_carried}
use Rattle.archive_state.specs.declared.snapshot.Snapshot.{Snapshot}
use Rattle.archive_state.specs.Standing.{IsSeen}
use Rattle.archive_state.proofs.BodyLines.{heaviest}
use Rattle.archive_state.proofs.BatchRoom.{has_room, product_within}
use Rattle.archive_state.proofs.MoveWeights.{carried_heavier, all_heavier}

-- what a test says of each it says of one that is there
contained : {X : Type 0} (p : X → Bool) (xs : List X) (x : X) (k : ℕ) → list_all p xs ≡ true → k < length xs → slice_index_or xs k x ≡ x → p x ≡ true
contained p [] x k h lt at = absurd (omega (arith, lt))
contained p (y ∷ ys) x zero h lt at = ap p (sym at) ∙ and_first _ _ h
contained p (y ∷ ys) x (suc k) h lt at = contained p ys x k (and_second _ _ h) (omega (arith, lt)) at

-- and what holds of each holds of it
pub holds_of : {X : Type 0} (P : X → Type 0) (xs : List X) (x : X) (k : ℕ) → AllByRecursion P xs → k < length xs → slice_index_or xs k x ≡ x → P x
holds_of P [] x k h lt at = absurd (omega (arith, lt))
holds_of P (y ∷ ys) x zero h lt at = subst P at h.0
holds_of P (y ∷ ys) x (suc k) h lt at = holds_of P ys x k h.1 (omega (arith, lt)) at

all_so : {X : Type 0} (P Q : X → Type 0) → ((x : X) → P x → Q x) → (xs : List X) → AllByRecursion P xs → AllByRecursion Q xs
all_so P Q one [] h = tt
all_so P Q one (x ∷ xs) h = (one x h.0, all_so P Q one xs h.1)

module _ (s : Snapshot) (seen : IsSeen s) where
  columns_are : s.schema.columns ≡ columns_of seen.archive
  columns_are = ap (λ (h : Heading). h.columns) seen.shows.schema_is

  -- the columns make a schema
  pub heading_seen : IsTrue (is_heading s.schema.columns)
  heading_seen = subst (λ cs. IsTrue (is_heading cs)) (sym columns_are) (citations_resolve seen.history seen.archive seen.leads).heading

  -- the table of a version fits them
  pub table_fits : (v : ℕ) → 1 ≤ v → v ≤ s.rows.last → IsTrue (is_table s.schema.columns (as_of s.rows v))
  table_fits v from to =
      let within : v ≤ length seen.archive.older + 1 = omega (arith, to, seen.shows.parts.tables.last) in
      let h = (citations_resolve seen.history seen.archive seen.leads).tables v from within in
      let same : Some h.table ≡ Some (as_of s.rows v) = sym h.is ∙ seen.shows.parts.tables.tables v from within in
      let one : h.table ≡ as_of s.rows v = cc in
      subst (λ t. IsTrue (is_table s.schema.columns t)) one (subst (λ cs. IsTrue (is_table cs h.table)) (sym columns_are) h.fits)

  -- so each kept row fits them
  pub rows_fit : AllByRecursion (WasInTable s.rows) (rows_of s.rows) → AllByRecursion (λ r. fits s.schema.columns r ≡ true) (rows_of s.rows)
  rows_fit were = all_so (WasInTable s.rows) (λ r. fits s.schema.columns r ≡ true) (λ r w.
      contained (fits s.schema.columns) (as_of s.rows w.version) r w.has.0 (and_first _ _ (table_fits w.version w.from w.to)) w.has.1 w.has.2) (rows_of s.rows) were

row_there : (columns : List Column) (row : List Value) → 0 < length columns → fits columns row ≡ true → 0 < length row
row_there [] row some h = absurd (omega (arith, some))
row_there (c ∷ cs) [] some h = absurd (cc)
row_there (c ∷ cs) (v ∷ vs) some h = omega arith

-- there are few steps
pub few_steps : (old new : Heading) (steps : List Step) → carry_schema old steps ≡ Ok new → length steps ≤ 16
few_steps old new steps e = at_most (length steps) (and_second _ _ (demanded (nat_le 1 (length steps) && nat_le (length steps) 16) _ _ new e).0)
  where
    at_most : (n : ℕ) → nat_le n 16 ≡ true → n ≤ 16
    at_most n h = grind (arith, nat_tests)

module _ (s : Snapshot) (seen : IsSeen s) (were : AllByRecursion (WasInTable s.rows) (rows_of s.rows)) (steps : List Step) (after : Heading) (carried : carry_schema s.schema steps ≡ Ok after) where
  columns_after : columns_after_all 1 s.schema.columns steps ≡ Ok after.columns
  columns_after = columns_carried s.schema after steps carried

  -- a kept row that is carried keeps its key
  pub keeps_key : (row out : List Value) → Contains (rows_of s.rows) row → carry_row s.schema.columns steps row ≡ Some out → slice_get out 0 ≡ slice_get row 0
  keeps_key row out there e =
      let room = has_room s seen in
      let fit = holds_of (λ r. fits s.schema.columns r ≡ true) (rows_of s.rows) row there.0 (rows_fit s seen were) there.1 there.2 in
      carried_keeps_key 1 s.schema.columns after.columns steps row out (row_there s.schema.columns row room.some fit) columns_after e

  each_heavier : (rows outs : List (List Value)) → AllByRecursion (λ r. fits s.schema.columns r ≡ true) rows → AllZip (λ r t. carry_row s.schema.columns steps r ≡ Some t) rows outs
      → AllZip (λ r t. row_weight t ≤ row_weight r + length steps * heaviest) rows outs
  each_heavier [] [] f h = tt
  each_heavier [] (t ∷ ts) f h = absurd h
  each_heavier (r ∷ rs) [] f h = absurd h
  each_heavier (r ∷ rs) (t ∷ ts) f h = (carried_heavier 1 s.schema.columns after.columns steps r t columns_after f.0 h.0, each_heavier rs ts f.1 h.1)

  -- all kept rows, carried, can be weighed
  pub carried_light : (outs : List (List Value)) → AllZip (λ r t. carry_row s.schema.columns steps r ≡ Some t) (rows_of s.rows) outs → rows_weight outs < 2 ^ 64
  carried_light outs h =
      let room = has_room s seen in
      let all = all_heavier (length steps * heaviest) (rows_of s.rows) outs (each_heavier (rows_of s.rows) outs (rows_fit s seen were) h) in
      let rows = length-map s.rows.kept (λ (k : KeptRow). k.row) in
      light (rows_weight outs) (rows_weight (rows_of s.rows)) (length (rows_of s.rows)) (length steps) all room.weight (omega (arith, rows, room.kept)) (few_steps s.schema after steps carried)
    where
      light : (w old n m : ℕ) → w ≤ old + n * (m * heaviest) → old ≤ 1073741824 → n ≤ 1000000 → m ≤ 16 → w < 2 ^ 64
      light w old n m a b c d = let most = product_within n m 1000000 16 heaviest c d in omega (arith, a, b, most)

-- a schema that is carried is carried to one
ok_of : {A F : Type 0} (r : Result A F) → IsOk r → (x : A) × (r ≡ Ok x)
ok_of (Ok x) h = (x, refl)
ok_of (Err f) h = absurd (cc)

-- what holds of each pair in one way holds in another
pub zip_so : {A B : Type 0} (R S : A → B → Type 0) → ((x : A) (y : B) → R x y → S x y) → (xs : List A) (ys : List B) → AllZip R xs ys → AllZip S xs ys
zip_so R S one [] [] h = tt
zip_so R S one [] (y ∷ ys) h = absurd h
zip_so R S one (x ∷ xs) [] h = absurd h
zip_so R S one (x ∷ xs) (y ∷ ys) h = (one x y h.0, zip_so R S one xs ys h.1)

-- what is made of a row at places is what the steps make of it
pub at_places : (columns : List Column) (steps : List Step) (places : List ℕ) (row : List Value) (o : Option (List Value)) → places ≡ step_places columns steps → o ≡ row_at_all places steps row → o ≡ carry_row columns steps row
at_places columns steps places row o is e = e ∙ ap (λ ps. row_at_all ps steps row) is ∙ rows_at_places columns steps row

-- the same, of rows that are read
module _ (s : Snapshot) (seen : IsSeen s) (rows : RowHistory) (same : rows ≡ s.rows) (were : AllByRecursion (WasInTable rows) (rows_of rows)) (steps : List Step) (carried : IsOk (carry_schema s.schema steps)) where
  were_there : AllByRecursion (WasInTable s.rows) (rows_of s.rows)
  were_there = subst (λ (h : RowHistory). AllByRecursion (WasInTable h) (rows_of h)) same were

  pub read_keys : (row out : List Value) → Contains (rows_of rows) row → Some out ≡ carry_row s.schema.columns steps row → slice_get out 0 ≡ slice_get row 0
  read_keys row out there e =
      let (after, is) = ok_of (carry_schema s.schema steps) carried in
      keeps_key s seen were_there steps after is row out (subst (λ (h : RowHistory). Contains (rows_of h) row) same there) (sym e)

  pub read_light : (outs : List (List Value)) → AllZip (λ r t. carry_row s.schema.columns steps r ≡ Some t) (rows_of rows) outs → rows_weight outs < 2 ^ 64
  read_light outs h =
      let (after, is) = ok_of (carry_schema s.schema steps) carried in
      carried_light s seen were_there steps after is outs (subst (λ (g : RowHistory). AllZip (λ r t. carry_row s.schema.columns steps r ≡ Some t) (rows_of g) outs) same h)

  pub read_last : rows.last < 2 ^ 32 - 1
  read_last = let room = has_room s seen in let is = ap (λ (h : RowHistory). h.last) same in omega (arith, room.last, is)
