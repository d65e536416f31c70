-- When a record is the header.
use Rattle.std.proofs.Common.{◌≡◌, ◌+◌, ℕ, zero, suc, Bool, true, false, List, [], ◌∷◌, Some, map, codes, length, take, drop, slice_get, refl, sym, ap, ◌∙◌, add-one, arith}
use Rattle.std.proofs.Math.Seq.{take-length}
use Rattle.std.proofs.lemmas.Cmp.{tied_itself}
use Rattle.std.proofs.lemmas.List.{length-map}
use Rattle.std.specs.Ordering.{is_eq, ordering_then}
use Rattle.std.specs.Cmp.Lexicographic.{slice_cmp}
use Rattle.std.specs.declared.cmp.Ordering.{Ordering}
use Rattle.std.specs.declared.cmp.Ordering.TheVariants.{Less, Equal, Greater}
use Rattle.cite_schema.specs.Values.{text_cmp}
use Rattle.cite_schema.specs.declared.schema.Column.{Column}
use Rattle.cite_schema.proofs.Orders.{text_total, text_exact}
use Rattle.batches.specs.Bodies.{is_header}

next_name : (xs ys : List (List ℕ)) (i : ℕ) (x : List ℕ) → slice_get xs i ≡ Some x → slice_get ys i ≡ Some x → take i xs ≡ take i ys → take (suc i) xs ≡ take (suc i) ys
next_name [] ys i x at there same = absurd (cc)
next_name (u ∷ us) [] i x at there same = absurd (cc)
next_name (u ∷ us) (v ∷ vs) zero x at there same = let e : u ≡ x = cc in let f : v ≡ x = cc in rw (e, f) refl
next_name (u ∷ us) (v ∷ vs) (suc i) x at there same =
    let first : u ≡ v = cc in
    let rest : take i us ≡ take i vs = cc in
    let more : take (suc i) us ≡ take (suc i) vs = next_name us vs i x at there rest in
    rw (first, more) refl

-- one name more that is the same
pub name_more : (xs ys : List (List ℕ)) (i : ℕ) (x y : List ℕ) → slice_get xs i ≡ Some x → slice_get ys i ≡ Some y → x ≡ y → take i xs ≡ take i ys → take (i + 1) xs ≡ take (i + 1) ys
name_more xs ys i x y at there is same = rw add-one (next_name xs ys i x at (there ∙ ap Some (sym is)) same)

-- a name that is another
pub name_other : (xs ys : List (List ℕ)) (i : ℕ) (x y : List ℕ) → slice_get xs i ≡ Some x → slice_get ys i ≡ Some y → (x ≡ y → ⊥) → xs ≡ ys → ⊥
name_other xs ys i x y at there other same = let e : Some x ≡ Some y = sym at ∙ ap (λ l. slice_get l i) same ∙ there in let is : x ≡ y = cc in other is

-- all names
pub all_names : (xs ys : List (List ℕ)) (n : ℕ) → n ≡ length xs → n ≡ length ys → take n xs ≡ take n ys → xs ≡ ys
all_names xs ys n wide long same = sym (take-length xs) ∙ ap (λ k. take k xs) (sym wide) ∙ same ∙ ap (λ k. take k ys) long ∙ take-length ys

same_fields : (xs ys : List (List ℕ)) → is_eq (slice_cmp text_cmp xs ys) ≡ true → xs ≡ ys
same_fields [] [] e = refl
same_fields [] (y ∷ ys) e = absurd (cc)
same_fields (x ∷ xs) [] e = absurd (cc)
same_fields (x ∷ xs) (y ∷ ys) e = by (text_cmp x y) refl e (λ k. same_fields xs ys k)
  where
    by : (o : Ordering) → text_cmp x y ≡ o → is_eq (ordering_then o (slice_cmp text_cmp xs ys)) ≡ true → (is_eq (slice_cmp text_cmp xs ys) ≡ true → xs ≡ ys) → x ∷ xs ≡ y ∷ ys
    by Less h k more = absurd (cc)
    by Equal h k more = let first = text_exact x y h in let rest = more k in rw (first, rest) refl
    by Greater h k more = absurd (cc)

fields_tied : (xs : List (List ℕ)) → slice_cmp text_cmp xs xs ≡ Equal
fields_tied [] = refl
fields_tied (x ∷ xs) = rw (tied_itself text_total x, fields_tied xs) refl

-- the record is the header exactly where it has the header's fields
pub header_fields : (columns : List Column) (head : List (List ℕ)) → is_header columns head ≡ true → head ≡ codes "op" ∷ map (λ c. c.name) columns
header_fields columns head e = same_fields head _ e

pub fields_header : (columns : List Column) (head : List (List ℕ)) → head ≡ codes "op" ∷ map (λ c. c.name) columns → is_header columns head ≡ true
fields_header columns head e = rw e (ap is_eq (fields_tied (codes "op" ∷ map (λ c. c.name) columns)))

-- so a test that tells this is the test
pub header_test : (columns : List Column) (head : List (List ℕ)) (r : Bool) → (r ≡ true → head ≡ codes "op" ∷ map (λ c. c.name) columns) → (head ≡ codes "op" ∷ map (λ c. c.name) columns → r ≡ true) → r ≡ is_header columns head
header_test columns head r names other = by r (is_header columns head) refl refl
  where
    by : (b d : Bool) → r ≡ b → is_header columns head ≡ d → b ≡ d
    by true d e h = sym (fields_header columns head (names e)) ∙ h
    by false true e h = sym e ∙ other (header_fields columns head h)
    by false false e h = refl

-- the fields of a header, one and the others
pub first_and_rest : (columns : List Column) (head : List (List ℕ)) (op : List ℕ) → slice_get head 0 ≡ Some op → op ≡ codes "op" → drop 1 head ≡ map (λ c. c.name) columns → head ≡ codes "op" ∷ map (λ c. c.name) columns
first_and_rest columns [] op at is names = absurd (cc)
first_and_rest columns (f ∷ fs) op at is names = let first : f ≡ op = cc in rw (first, is, names) refl

pub first_of : (columns : List Column) (head : List (List ℕ)) (op : List ℕ) → slice_get head 0 ≡ Some op → head ≡ codes "op" ∷ map (λ c. c.name) columns → op ≡ codes "op"
first_of columns head op at e = let first : Some op ≡ Some (codes "op") = sym at ∙ ap (λ l. slice_get l 0) e in cc

pub wide : (columns : List Column) (head : List (List ℕ)) → head ≡ codes "op" ∷ map (λ c. c.name) columns → length head ≡ length columns + 1
wide columns head e = let n = ap length e in let m = length-map columns (λ c. c.name) in let next : suc (length (map (λ c. c.name) columns)) ≡ length columns + 1 = omega (arith, m) in n ∙ next
