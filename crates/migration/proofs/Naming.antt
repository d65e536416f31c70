-- The places of columns are found by their names.
use Rattle.std.proofs.Common.{◌≡◌, ℕ, zero, suc, ◌+◌, true, false, get_or, drop, append_assoc, ◌<◌, ◌≤◌, Bool, List, [], ◌∷◌, ◌++◌, Option, Some, None, length, map, slice_set, refl, sym, ap, ◌∙◌, arith}
use Rattle.std.proofs.lemmas.List.{length-map}
use Rattle.cite_schema.specs.declared.step.Step.{Step}
use Rattle.std.specs.List.{position, position_or_len, remove}
use Rattle.std.specs.Prelude.{option_map, if◌then◌else◌}
use Rattle.std.specs.Ordering.{is_eq}
use Rattle.std.specs.Prelude.{unwrap_or}
use Rattle.cite_schema.specs.Values.{text_cmp}
use Rattle.cite_schema.specs.declared.schema.Column.{Column}
use Rattle.cite_schema.specs.declared.step.Step.TheVariants.{Rename, Add, DropColumn, Scale, Recode, RetypeToText}
use Rattle.migration.specs.Places.{changed, without}
use Rattle.migration.specs.Columns.{column_named, column_after, columns_after, place_of, step_places}
use Rattle.migration.specs.Naming.{name_place, names_after, named_places}
use Rattle.migration.proofs.Placed.{from_place}

-- the element at a place replaced, seen in the images of the elements
pub set_mapped : {A B : Type 0} (f : A → B) (i : ℕ) (xs : List A) (y : A) → i < length xs → map f (slice_set xs i y) ≡ changed (λ x. f y) i (map f xs)
set_mapped f i [] y lt = absurd (omega arith)
set_mapped f zero (x ∷ xs) y lt = refl
set_mapped f (suc i) (x ∷ xs) y lt = ap (λ ys. f x ∷ ys) (set_mapped f i xs y (omega arith))

pub none_set : {A B : Type 0} (f : A → B) (g : B → B) (i : ℕ) (xs : List A) → length xs ≤ i → map f xs ≡ changed g i (map f xs)
none_set f g i [] le = refl
none_set f g zero (x ∷ xs) le = absurd (omega arith)
none_set f g (suc i) (x ∷ xs) le = ap (λ ys. f x ∷ ys) (none_set f g i xs (omega arith))

-- the element at a place removed
pub removed_mapped : {A B : Type 0} (f : A → B) (i : ℕ) (xs : List A) → i < length xs → map f (remove xs i) ≡ without i (map f xs)
removed_mapped f i [] lt = absurd (omega arith)
removed_mapped f zero (x ∷ xs) lt = refl
removed_mapped f (suc i) (x ∷ xs) lt = ap (λ ys. f x ∷ ys) (removed_mapped f i xs (omega arith))

pub none_taken : {A B : Type 0} (f : A → B) (i : ℕ) (xs : List A) → length xs ≤ i → map f xs ≡ without i (map f xs)
none_taken f i [] le = refl
none_taken f zero (x ∷ xs) le = absurd (omega arith)
none_taken f (suc i) (x ∷ xs) le = ap (λ ys. f x ∷ ys) (none_taken f i xs (omega arith))

or_len_mapped : {A B : Type 0} (f : A → B) (p : B → Bool) (xs : List A) → position_or_len p (map f xs) ≡ position_or_len (λ x. p (f x)) xs
or_len_mapped f p [] = refl
or_len_mapped {A} f p (x ∷ xs) = by (p (f x)) refl (or_len_mapped f p xs)
  where
    by : (b : Bool) → p (f x) ≡ b → position_or_len p (map f xs) ≡ position_or_len (λ y. p (f y)) xs → position_or_len p (f x ∷ map f xs) ≡ position_or_len {X = A} (λ y. p (f y)) (x ∷ xs)
    by true h more = rw h refl
    by false h more = rw h (ap (λ n. 1 + n) more)

-- the first place at which a test passes, found in the elements or in their images
pub position_mapped : {A B : Type 0} (f : A → B) (p : B → Bool) (xs : List A) → position (λ x. p (f x)) xs ≡ position p (map f xs)
position_mapped f p xs = rw (or_len_mapped f p xs) (rw (length-map xs f) refl)

-- the place of one step more
pub one_more : (places out : List ℕ) (names after : List (List ℕ)) (xs : List Step) (i place : ℕ) (x : Step) → i < length xs → x ≡ get_or xs i x → place ≡ name_place names (column_named x) → after ≡ names_after place x names
    → out ≡ places ++ place ∷ [] → out ++ named_places after (drop (i + 1) xs) ≡ places ++ named_places names (drop i xs)
one_more places out names after xs i place x lt is at names_are out_is =
    ap (λ o. o ++ named_places after (drop (i + 1) xs)) out_is ∙ append_assoc places (place ∷ []) (named_places after (drop (i + 1) xs))
    ∙ ap (λ ps. places ++ ps) (ap (λ ns. place ∷ named_places ns (drop (i + 1) xs)) names_are
    ∙ ap (λ p. p ∷ named_places (names_after p x names) (drop (i + 1) xs)) at
    ∙ sym (ap (named_places names) (from_place xs i x lt is)))

-- the names of columns of which one is changed
names_changed : (f : Column → Column) (g : List ℕ → List ℕ) (i : ℕ) (columns : List Column) → ((c : Column) → (f c).name ≡ g c.name) → map (λ c. c.name) (changed f i columns) ≡ changed g i (map (λ c. c.name) columns)
names_changed f g i [] same = refl
names_changed f g zero (c ∷ cs) same = ap (λ n. n ∷ map (λ d. d.name) cs) (same c)
names_changed f g (suc i) (c ∷ cs) same = ap (λ ns. c.name ∷ ns) (names_changed f g i cs same)

names_kept : (f : Column → Column) (i : ℕ) (columns : List Column) → ((c : Column) → (f c).name ≡ c.name) → map (λ c. c.name) (changed f i columns) ≡ map (λ c. c.name) columns
names_kept f i [] same = refl
names_kept f zero (c ∷ cs) same = ap (λ n. n ∷ map (λ d. d.name) cs) (same c)
names_kept f (suc i) (c ∷ cs) same = ap (λ ns. c.name ∷ ns) (names_kept f i cs same)

names_without : (i : ℕ) (columns : List Column) → map (λ c. c.name) (without i columns) ≡ without i (map (λ c. c.name) columns)
names_without i [] = refl
names_without zero (c ∷ cs) = refl
names_without (suc i) (c ∷ cs) = ap (λ ns. c.name ∷ ns) (names_without i cs)

names_more : (columns : List Column) (c : Column) → map (λ d. d.name) (columns ++ c ∷ []) ≡ map (λ d. d.name) columns ++ c.name ∷ []
names_more [] c = refl
names_more (d ∷ ds) c = ap (λ ns. d.name ∷ ns) (names_more ds c)

-- the names of the columns after a step
after_names : (columns : List Column) (x : Step) → map (λ c. c.name) (columns_after columns x) ≡ names_after (place_of columns x) x (map (λ c. c.name) columns)
after_names columns (Rename c to) = names_changed (column_after (Rename c to)) (λ n. to) (place_of columns (Rename c to)) columns (λ d. refl)
after_names columns (Add c v) = names_more columns _
after_names columns (DropColumn c) = names_without (place_of columns (DropColumn c)) columns
after_names columns (Scale c by plus) = names_kept (column_after (Scale c by plus)) (place_of columns (Scale c by plus)) columns (λ d. refl)
after_names columns (Recode c old new) = names_kept (column_after (Recode c old new)) (place_of columns (Recode c old new)) columns (λ d. refl)
after_names columns (RetypeToText c) = names_kept (column_after (RetypeToText c)) (place_of columns (RetypeToText c)) columns (λ d. refl)

named_place : (columns : List Column) (x : Step) → name_place (map (λ c. c.name) columns) (column_named x) ≡ place_of columns x
named_place columns x = ap (λ o. unwrap_or o 0) (sym (position_mapped (λ (c : Column). c.name) (λ n. is_eq (text_cmp n (column_named x))) columns))

-- the names are enough to find the places
pub named_is : (columns : List Column) (steps : List Step) → named_places (map (λ c. c.name) columns) steps ≡ step_places columns steps
named_is columns [] = refl
named_is columns (x ∷ xs) =
    let names = map (λ (c : Column). c.name) columns in
    ap (λ p. p ∷ named_places (names_after p x names) xs) (named_place columns x)
    ∙ ap (λ ps. place_of columns x ∷ ps) (ap (λ ns. named_places ns xs) (sym (after_names columns x)) ∙ named_is (columns_after columns x) xs)
