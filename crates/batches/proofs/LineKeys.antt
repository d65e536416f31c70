-- The keys of lines, and the first line whose key a line before it names.
use Rattle.std.proofs.Common.{◌≡◌, ◌+◌, ℕ, zero, suc, true, false, List, [], ◌∷◌, ◌++◌, Option, Some, None, length, map, take, slice_get, refl, sym, ap, ◌∙◌, subst, arith, append_assoc, append-nil, length-append}
use Rattle.std.specs.Prelude.{MatchOption}
use Rattle.std.specs.Borrow.{Bor}
use Rattle.std.specs.List.{list_any}
use Rattle.std.specs.Ordering.{is_eq, ordering_reverse}
use Rattle.std.specs.declared.cmp.Ordering.{Ordering}
use Rattle.std.specs.declared.cmp.Ordering.TheVariants.{Less, Equal, Greater}
use Rattle.cite_schema.specs.declared.value.Value.{Value}
use Rattle.cite_schema.specs.declared.line.Line.{Line}
use Rattle.cite_schema.specs.Tables.{cell_cmp}
use Rattle.cite_schema.specs.Lines.{key_in}
use Rattle.cite_schema.proofs.Orders.{cell_total}
use Rattle.csv_records.specs.declared.keys.Keys.{Keys}
use Rattle.csv_records.specs.Keys.{AreKeys, AreApart, IsFirstAgain}
use Rattle.csv_records.proofs.FirstAgain.{Name, name_more, name_count, name_apart, name_again, names_at}
use Rattle.batches.specs.Bodies.{names_key_of}
use Rattle.batches.specs.Laws.{NameOwnKeys}
use Rattle.batches.specs.Parts.{key_twice_in}
use Rattle.batches.proofs.FirstLines.{key_of_own}

-- the keys of the first i lines are held, in their turn
pub record ReadKeys (keys : Keys (Bor (List ℕ))) (lines : List Line) (i : ℕ) : Type 0 where
  pub named : List Value
  pub held : AreKeys (λ t. t.now) keys named
  pub names : Name key_in (take i lines) named

pub no_keys : (keys : Keys (Bor (List ℕ))) (lines : List Line) → AreKeys (λ t. t.now) keys [] → ReadKeys keys lines 0
no_keys keys lines empty = record { named = []; held = empty; names = refl }

take_next : {A : Type 0} (xs : List A) (i : ℕ) (x : A) → slice_get xs i ≡ Some x → take (suc i) xs ≡ take i xs ++ x ∷ []
take_next [] i x at = absurd (cc)
take_next (y ∷ ys) zero x at = let same : y ≡ x = cc in rw same refl
take_next (y ∷ ys) (suc i) x at = rw (take_next ys i x at) refl

front_length : {A : Type 0} (xs : List A) (i : ℕ) (x : A) → slice_get xs i ≡ Some x → length (take i xs) ≡ i
front_length [] i x at = absurd (cc)
front_length (y ∷ ys) zero x at = refl
front_length (y ∷ ys) (suc i) x at = ap suc (front_length ys i x at)

-- the key of one more is put behind the others
pub keys_go_on : (keys new : Keys (Bor (List ℕ))) (lines : List Line) (i : ℕ) (line : Line) (key : Value) → slice_get lines i ≡ Some line → key_in line ≡ Some key → ReadKeys keys lines i
    → ((named : List Value) → i + 1 ≡ length named + 1 → AreKeys (λ t. t.now) keys named → AreKeys (λ t. t.now) new (named ++ key ∷ [])) → ReadKeys new lines (i + 1)
keys_go_on keys new lines i line key at is so put =
    let next : i + 1 ≡ suc i = omega arith in
    let count = name_count key_in (take i lines) so.named so.names in
    let size = front_length lines i line at in
    record {
      named = so.named ++ key ∷ [];
      held = put so.named (omega (arith, count, size)) so.held;
      names = subst (λ (l : List Line). Name key_in l (so.named ++ key ∷ [])) (sym (ap (λ n. take n lines) next ∙ take_next lines i line at)) (name_more key_in (take i lines) so.named line key so.names is);
    }

turned : (o : Ordering) → is_eq (ordering_reverse o) ≡ is_eq o
turned Less = refl
turned Equal = refl
turned Greater = refl

-- whichever of two keys is compared with the other
names_by : (lines : List Line) (key : Option Value) → list_any (λ l. is_eq (cell_cmp (key_in l) key)) lines ≡ list_any (λ l. is_eq (cell_cmp key (key_in l))) lines
names_by [] key = refl
names_by (l ∷ ls) key =
    let first : is_eq (cell_cmp (key_in l) key) ≡ is_eq (cell_cmp key (key_in l)) = ap is_eq (cell_total.antisymm (key_in l) key) ∙ turned (cell_cmp key (key_in l)) in
    rw (first, names_by ls key) refl

-- lines with keys of their own name none twice
none_twice : (before lines : List Line) (n : ℕ) → NameOwnKeys (before ++ lines) → key_twice_in before n lines ≡ None
none_twice before [] n apart = refl
none_twice before (l ∷ ls) n apart =
    rw (key_of_own before l ls apart) (none_twice (before ++ l ∷ []) ls (n + 1) (subst (λ (t : List Line). NameOwnKeys t) (sym (append_assoc before (l ∷ []) ls)) apart))

-- behind such lines a line that names a key of theirs is the first one
first_twice : (before front : List Line) (line : Line) (after : List Line) (n : ℕ) → NameOwnKeys (before ++ front) → names_key_of (before ++ front) line ≡ true → key_twice_in before n (front ++ line ∷ after) ≡ Some (n + length front)
first_twice before [] line after n apart named =
    let here : names_key_of before line ≡ true = ap (λ l. names_key_of l line) (sym (append-nil before)) ∙ named in
    let number : n ≡ n + 0 = omega arith in
    rw here (ap Some number)
first_twice before (l ∷ ls) line after n apart named =
    let whole = append_assoc before (l ∷ []) ls in
    let number : n + 1 + length ls ≡ n + suc (length ls) = omega arith in
    let more = first_twice (before ++ l ∷ []) ls line after (n + 1) (subst (λ (t : List Line). NameOwnKeys t) (sym whole) apart) (ap (λ t. names_key_of t line) whole ∙ named) in
    rw (key_of_own before l ls apart) (more ∙ ap Some number)

twice_named : (lines : List Line) (named : List Value) (twice : Option ℕ) → Name key_in lines named → MatchOption twice (AreApart named) (λ n. IsFirstAgain named n) → twice ≡ key_twice_in [] 1 lines
twice_named lines named None names apart = sym (none_twice [] lines 1 (name_apart key_in lines named names apart))
twice_named lines named (Some n) names again =
    let at = names_at key_in lines again.front again.rest again.key (names ∙ ap (λ l. map Some l) again.parts) in
    let count = name_count key_in at.before again.front at.named in
    let behind = again.line in
    let number : n ≡ 1 + length at.before = omega (arith, count, behind) in
    let has : names_key_of at.before at.here ≡ true =
    names_by at.before (key_in at.here)
    ∙ ap (λ (o : Option Value). list_any (λ l. is_eq (cell_cmp o (key_in l))) at.before) at.is
    ∙ name_again key_in at.before again.front again.key at.named again.again in
    ap Some number ∙ sym (ap (key_twice_in [] 1) at.parts ∙ first_twice [] at.before at.here at.after 1 (name_apart key_in at.before again.front at.named again.apart) has)

whole_front : {A : Type 0} (xs : List A) → take (length xs) xs ≡ xs
whole_front [] = refl
whole_front (x ∷ xs) = ap (λ l. x ∷ l) (whole_front xs)

-- where the keys of all lines are held, they tell the first line that names a key again
pub all_keys : (keys : Keys (Bor (List ℕ))) (lines : List Line) (i : ℕ) (twice : Option ℕ) → i ≡ length lines → (so : ReadKeys keys lines i) → MatchOption twice (AreApart so.named) (λ n. IsFirstAgain so.named n) → twice ≡ key_twice_in [] 1 lines
all_keys keys lines i twice all so told = twice_named lines so.named twice (subst (λ (l : List Line). Name key_in l so.named) (ap (λ n. take n lines) all ∙ whole_front lines) so.names) told
