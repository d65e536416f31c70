-- Sizes of fields, lines and results.
use Rattle.std.proofs.Common.{◌≡◌, ◌<◌, ◌≤◌, ℕ, suc, ◌+◌, ◌==◌, List, [], ◌∷◌, ◌++◌, Bool, true, false, cond, length, map, refl, sym, ap, ◌∙◌, arith, length-append, sum_by, count_by, take, get_or}
use Rattle.std.proofs.lemmas.List.{take_all}
use Rattle.std.proofs.lemmas.List.Sums.{sum_by-cons, sum_by_push, sum_by-take-le}
use Rattle.std.proofs.lemmas.List.Folds.{length-flat_map-take}
use Rattle.std.proofs.Math.Seq.{take-suc}
use Rattle.std.specs.Prelude.{Option, None, Some, IfNone, flat_map}
use Rattle.cite_schema.specs.Layout.{doubled, quoted, line_end, line, labels, cells, laid_out}
use Rattle.cite_schema.specs.declared.item.Item.{Item}
use Rattle.cite_schema.specs.declared.value.Value.{Value}

-- the bytes that a field takes in a line, with its quotes and the comma or the line feed behind it
abbrev pub field_size : List ℕ → ℕ
field_size t = length (doubled t) + 3

-- a text in quotes and what stands behind it
quoted-size : (t rest : List ℕ) → length (quoted t ++ rest) + 1 ≡ field_size t + length rest
quoted-size t rest = simp length-append (omega arith)

line_end-size : {X : Type 0} (f : X → List ℕ) (xs : List X) → length (line_end (map f xs)) ≡ sum_by (λ x. field_size (f x)) xs + 1
line_end-size f [] = refl
line_end-size f (x ∷ xs) =
    rw (sum_by-cons (λ x. field_size (f x)) x xs)
    (omega (arith, quoted-size (f x) (line_end (map f xs)), line_end-size f xs))

-- the size of a line is that of its fields
pub line-size : {X : Type 0} (f : X → List ℕ) (xs : List X) → 0 < length xs → length (line (map f xs)) ≡ sum_by (λ x. field_size (f x)) xs
line-size f [] some = absurd (omega arith)
line-size f (x ∷ xs) some =
    rw (sum_by-cons (λ x. field_size (f x)) x xs)
    (omega (arith, quoted-size (f x) (line_end (map f xs)), line_end-size f xs))

one_byte : (bs : List ℕ) (b : ℕ) (n : ℕ) (t : Bool) → length (doubled bs) ≡ length bs + n → length (cond t (34 ∷ 34 ∷ doubled bs) (b ∷ doubled bs)) ≡ suc (length bs) + (cond t 1 0 + n)
one_byte bs b n true h = omega arith
one_byte bs b n false h = omega arith

-- doubling adds a byte for each quote
pub doubled_size : (t : List ℕ) → length (doubled t) ≡ length t + count_by (λ b. b == 34) t
doubled_size [] = refl
doubled_size (b ∷ bs) =
    rw (sum_by-cons (λ (x : ℕ). cond (x == 34) 1 0) b bs)
    (one_byte bs b (count_by (λ x. x == 34) bs) (b == 34) (doubled_size bs))

-- the first fields of a line and one more take no more than the line
pub more-line-size : {X : Type 0} (f : X → List ℕ) (xs : List X) (k : ℕ) (x : X) → k < length xs → x ≡ get_or xs k x → sum_by (λ x. field_size (f x)) (take k xs) + field_size (f x) ≤ length (line (map f xs))
more-line-size f xs k x h e =
    let pushed : take (suc k) xs ≡ take k xs ++ x ∷ [] = take-suc xs k x h ∙ ap (λ y. take k xs ++ y ∷ []) (sym e) in
    let sums : sum_by (λ y. field_size (f y)) (take (suc k) xs) ≡ sum_by (λ y. field_size (f y)) (take k xs) + field_size (f x) =
    ap (sum_by (λ y. field_size (f y))) pushed ∙ sum_by_push (λ y. field_size (f y)) (take k xs) x in
    omega (arith, sums, sum_by-take-le (λ y. field_size (f y)) xs (suc k), line-size f xs (omega arith))

-- all the fields of a line
pub all-line-size : {X : Type 0} (f : X → List ℕ) (xs : List X) (k : ℕ) → 0 < length xs → length xs ≤ k → sum_by (λ x. field_size (f x)) (take k xs) ≡ length (line (map f xs))
all-line-size f xs k some past = ap (sum_by (λ x. field_size (f x))) (take_all k xs past) ∙ sym (line-size f xs some)

-- the first lines of a result and one more take no more than the result
pub more-laid_out-size : (items : List Item) (rows : List (List Value)) (k : ℕ) (row : List Value) → k < length rows → row ≡ get_or rows k row → length (laid_out items (take k rows)) + length (line (cells items row)) ≤ length (laid_out items rows)
more-laid_out-size items rows k row h e =
    let more : length (flat_map (λ r. line (cells items r)) (take k rows)) + length (line (cells items (get_or rows k row))) ≤ length (flat_map (λ r. line (cells items r)) rows) =
    length-flat_map-take (λ r. line (cells items r)) rows k row h in
    let here : length (line (cells items row)) ≡ length (line (cells items (get_or rows k row))) = ap (λ r. length (line (cells items r))) e in
    let some : length (laid_out items (take k rows)) ≡ length (line (labels items)) + length (flat_map (λ r. line (cells items r)) (take k rows)) =
    length-append (line (labels items)) (flat_map (λ r. line (cells items r)) (take k rows)) in
    let all : length (laid_out items rows) ≡ length (line (labels items)) + length (flat_map (λ r. line (cells items r)) rows) =
    length-append (line (labels items)) (flat_map (λ r. line (cells items r)) rows) in
    omega (arith, more, here, some, all)

pub if_none : {X : Type 0} (o : Option X) {P : Type 0} → P → IfNone o P
if_none None p = p
if_none (Some x) p = tt
