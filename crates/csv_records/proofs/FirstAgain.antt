-- The first line whose key an earlier line has.
use Rattle.std.proofs.Common.{◌≡◌, ◌≢◌, ◌<◌, ◌≤◌, ◌+◌, ◌-◌, ◌⊎◌, inl, inr, ℕ, ℤ, zero, suc, Bool, true, false, cond, List, [], ◌∷◌, ◌++◌, Option, Some, None, map, take, drop, slice_get, get_or, length, refl, sym, ap, ◌∙◌, subst, arith, IsPermutation, append_assoc, length-append}
use Rattle.std.specs.Prelude.{AllPairs, MatchOption, nat_lt, if◌then◌else◌, ◌||◌}
use Rattle.std.specs.List.{Contains, list_any}
use Rattle.std.specs.List.Sorted.{IsSorted}
use Rattle.std.specs.Cmp.{IsTotalOrder, IsStrictWeakOrder}
use Rattle.std.specs.Ordering.{is_eq, is_lt, int_cmp, nat_cmp, ordering_then, ordering_reverse}
use Rattle.std.specs.declared.cmp.Ordering.{Ordering}
use Rattle.std.specs.declared.cmp.Ordering.TheVariants.{Less, Equal, Greater}
use Rattle.std.proofs.lemmas.Bool.{ltb-true, ltb-false, cases_lt}
use Rattle.std.proofs.lemmas.Cmp.{tied_itself, tied_back, nat_cmp_total, int_cmp_total, on_total, then_total}
use Rattle.std.proofs.lemmas.List.Elements.{Contains-append_left, Contains-append_right, Contains-push, Contains-push_cases, Contains-get_or}
use Rattle.std.proofs.lemmas.List.Sorted.{Contains-permutation, IsPermutation-sym, ranks_by, sorted_far}
use Rattle.std.proofs.lemmas.Map.Lookups.{exact_signed}
use Rattle.std.proofs.lemmas.Option.{slice_get-get_or}
use Rattle.cite_schema.specs.Values.{text_cmp, value_cmp}
use Rattle.cite_schema.specs.Tables.{cell_cmp}
use Rattle.cite_schema.specs.declared.value.Value.{Value}
use Rattle.cite_schema.specs.declared.value.Value.TheVariants.{Int, Text}
use Rattle.cite_schema.proofs.Orders.{text_total, text_exact, cell_exact, cell_total}
use Rattle.csv_records.specs.declared.keys.Keys.{Keys}
use Rattle.csv_records.specs.Keys.{numbers_in, texts_in, AreKeys, AreApart, IsFirstAgain, Follows, ComesAgain, IsLeast, lesser}

one_of : {A B C : Type 0} → (A → C) → (B → C) → A ⊎ B → C
one_of f g (inl a) = f a
one_of f g (inr b) = g b

-- Least numbers.

-- what is so where the one or the other is, is so first at the lesser of the two
pub least_of_both : (P Q R : ℕ → Type 0) (a b : Option ℕ) → ((n : ℕ) → R n → P n ⊎ Q n) → ((n : ℕ) → P n → R n) → ((n : ℕ) → Q n → R n) → IsLeast P a → IsLeast Q b → IsLeast R (lesser a b)
least_of_both P Q R None None either one other p q = λ n r. one_of (λ x. p n x) (λ y. q n y) (either n r)
least_of_both P Q R None (Some k) either one other p q = (other k q.0, λ n below r. one_of (λ x. p n x) (λ y. q.1 n below y) (either n r))
least_of_both P Q R (Some k) None either one other p q = (one k p.0, λ n below r. one_of (λ x. p.1 n below x) (λ y. q n y) (either n r))
least_of_both P Q R (Some k) (Some l) either one other p q = by (nat_lt l k) refl
  where
    by : (b : Bool) → nat_lt l k ≡ b → IsLeast R (Some (if b then l else k))
    by true e = (other l q.0, λ n below r. one_of (λ x. p.1 n (let lower = ltb-true l k e in omega (arith, lower, below)) x) (λ y. q.1 n below y) (either n r))
    by false e = (one k p.0, λ n below r. one_of (λ x. p.1 n below x) (λ y. q.1 n (let from = ltb-false l k e in omega (arith, from, below)) y) (either n r))

-- the same where both are so of the same numbers
pub least_alike : (P R : ℕ → Type 0) (a : Option ℕ) → ((n : ℕ) → R n → P n) → ((n : ℕ) → P n → R n) → IsLeast P a → IsLeast R a
least_alike P R None to from p = λ n r. p n (to n r)
least_alike P R (Some k) to from p = (from k p.0, λ n below r. p.1 n below (to n r))

-- Neighbours tell the first line that comes again.

module _ {K : Type 0} (cmp : K → K → Ordering) (total : IsTotalOrder cmp) where
  -- the order of the keys, and then of the lines
  abbrev pub by_key : K × ℕ → K × ℕ → Ordering
  by_key a b = ordering_then (cmp a.0 b.0) (nat_cmp a.1 b.1)

  key_order : IsStrictWeakOrder (λ a b. is_lt (by_key a b))
  key_order = ranks_by (then_total (on_total (λ (e : K × ℕ). e.0) total) (on_total (λ (e : K × ℕ). e.1) nat_cmp_total)) (λ (e : K × ℕ). e)

  -- the one does not come after the other
  abbrev UpTo : K × ℕ → K × ℕ → Type 0
  UpTo a b = is_lt (by_key b a) ≡ false

  keys_up : (a b : K × ℕ) → UpTo a b → cmp b.0 a.0 ≢ Less
  keys_up a b up less = let told : is_lt (ordering_then Less (nat_cmp b.1 a.1)) ≡ false = subst (λ (o : Ordering). is_lt (ordering_then o (nat_cmp b.1 a.1)) ≡ false) less up in absurd (cc)

  not_below : (x y : ℕ) → is_lt (nat_cmp x y) ≡ false → y ≤ x
  not_below x y e = by (nat_lt x y) refl
    where
      by : (b : Bool) → nat_lt x y ≡ b → y ≤ x
      by false f = ltb-false x y f
      by true f = let less : nat_cmp x y ≡ Less = rw f refl in let told : is_lt Less ≡ false = subst (λ (o : Ordering). is_lt o ≡ false) less e in absurd (cc)

  lines_up : (a b : K × ℕ) → UpTo a b → cmp b.0 a.0 ≡ Equal → a.1 ≤ b.1
  lines_up a b up tied = not_below b.1 a.1 (subst (λ (o : Ordering). is_lt (ordering_then o (nat_cmp b.1 a.1)) ≡ false) tied up)

  -- a key between two that are tied is tied with them
  between : (a b c : K) → cmp b a ≢ Less → cmp c b ≢ Less → cmp a c ≡ Equal → cmp b c ≡ Equal
  between a b c low high tied = by (cmp b c) refl
    where
      by : (o : Ordering) → cmp b c ≡ o → cmp b c ≡ Equal
      by Equal e = e
      by Less e =
          let above : cmp a b ≡ cmp c b = total.congr a c b tied in
          absurd (low (total.antisymm b a ∙ ap ordering_reverse above ∙ sym (total.antisymm b c) ∙ e))
      by Greater e = absurd (high (total.antisymm c b ∙ ap ordering_reverse e))

  module _ (front : List (K × ℕ)) (earlier later : K × ℕ) (has : Contains front earlier) (up : (e : K × ℕ) → Contains front e → UpTo e earlier) (last : (e : K × ℕ) → Contains front e → UpTo e later) where
    last_again : (a : K × ℕ) (n : ℕ) → Contains front a → cmp a.0 later.0 ≡ Equal → a.1 < later.1 → later.1 ≡ n → ComesAgain cmp front n ⊎ Follows cmp earlier later n
    last_again a n held tied before line =
        let near : cmp earlier.0 later.0 ≡ Equal = between a.0 earlier.0 later.0 (keys_up a earlier (up a held)) (keys_up earlier later (last earlier has)) tied in
        let high : earlier.1 ≤ later.1 = lines_up earlier later (last earlier has) (tied_back total earlier.0 later.0 near) in
        one_of (λ below. inr (record { tied = near; before = below; line = line }))
        (λ from. inl (record {
          earlier = a;
          later = earlier;
          earlier_held = held;
          later_held = has;
          follows = record {
            tied = tied_back total earlier.0 a.0 (total.congr earlier.0 later.0 a.0 near ∙ tied_back total a.0 later.0 tied);
            before = omega (arith, high, from, before);
            line = omega (arith, high, from, line);
          };
        })) (cases_lt earlier.1 later.1)

    either : (n : ℕ) → ComesAgain cmp (front ++ later ∷ []) n → ComesAgain cmp front n ⊎ Follows cmp earlier later n
    either n g = by (Contains-push_cases front later g.earlier g.earlier_held) (Contains-push_cases front later g.later g.later_held)
      where
        by : Contains front g.earlier ⊎ (later ≡ g.earlier) → Contains front g.later ⊎ (later ≡ g.later) → ComesAgain cmp front n ⊎ Follows cmp earlier later n
        by (inl a) (inl b) = inl (record { earlier = g.earlier; later = g.later; earlier_held = a; later_held = b; follows = g.follows })
        by (inl a) (inr e) =
            last_again g.earlier n a (ap (λ (x : K × ℕ). cmp g.earlier.0 x.0) e ∙ g.follows.tied)
            (let same = ap (λ (x : K × ℕ). x.1) e in let before = g.follows.before in omega (arith, same, before))
            (ap (λ (x : K × ℕ). x.1) e ∙ g.follows.line)
        by (inr e) (inl b) =
            let tied : cmp later.0 g.later.0 ≡ Equal = ap (λ (x : K × ℕ). cmp x.0 g.later.0) e ∙ g.follows.tied in
            let low = lines_up g.later later (last g.later b) tied in
            let same = ap (λ (x : K × ℕ). x.1) e in
            let before = g.follows.before in
            absurd (omega (arith, low, same, before))
        by (inr e) (inr f) = let same = ap (λ (x : K × ℕ). x.1) (sym e ∙ f) in let before = g.follows.before in absurd (omega (arith, same, before))

    wider : (n : ℕ) → ComesAgain cmp front n → ComesAgain cmp (front ++ later ∷ []) n
    wider n g = record {
      earlier = g.earlier;
      later = g.later;
      earlier_held = Contains-append_left front (later ∷ []) g.earlier g.earlier_held;
      later_held = Contains-append_left front (later ∷ []) g.later g.later_held;
      follows = g.follows;
    }

    near : (n : ℕ) → Follows cmp earlier later n → ComesAgain cmp (front ++ later ∷ []) n
    near n g = record {
      earlier = earlier;
      later = later;
      earlier_held = Contains-append_left front (later ∷ []) earlier has;
      later_held = Contains-push front later;
      follows = g;
    }

    grown : (a b : Option ℕ) → IsLeast (ComesAgain cmp front) a → IsLeast (Follows cmp earlier later) b → IsLeast (ComesAgain cmp (front ++ later ∷ [])) (lesser a b)
    grown a b so next = least_of_both (ComesAgain cmp front) (Follows cmp earlier later) (ComesAgain cmp (front ++ later ∷ [])) a b either wider near so next

  take_next : (xs : List (K × ℕ)) (i : ℕ) (x : K × ℕ) → i < length xs → x ≡ get_or xs i x → take (suc i) xs ≡ take i xs ++ x ∷ []
  take_next [] i x within at = absurd (omega (arith, within))
  take_next (y ∷ ys) zero x within at = ap (λ (z : K × ℕ). z ∷ []) (sym at)
  take_next (y ∷ ys) (suc i) x within at = ap (λ l. y ∷ l) (take_next ys i x (omega (arith, within)) at)

  in_front : (xs : List (K × ℕ)) (i k : ℕ) (d : K × ℕ) → k < i → i ≤ length xs → get_or (take i xs) k d ≡ get_or xs k d
  in_front [] i k d below within = absurd (omega (arith, below, within))
  in_front (y ∷ ys) zero k d below within = absurd (omega (arith, below))
  in_front (y ∷ ys) (suc i) zero d below within = refl
  in_front (y ∷ ys) (suc i) (suc k) d below within = in_front ys i k d (omega (arith, below)) (omega (arith, within))

  front_length : (xs : List (K × ℕ)) (i : ℕ) → i ≤ length xs → length (take i xs) ≡ i
  front_length xs zero within = refl
  front_length [] (suc i) within = absurd (omega (arith, within))
  front_length (y ∷ ys) (suc i) within = ap suc (front_length ys i (omega (arith, within)))

  any_default : (xs : List (K × ℕ)) (k : ℕ) (d e : K × ℕ) → k < length xs → get_or xs k d ≡ get_or xs k e
  any_default [] k d e within = absurd (omega (arith, within))
  any_default (y ∷ ys) zero d e within = refl
  any_default (y ∷ ys) (suc k) d e within = any_default ys k d e (omega (arith, within))

  -- of held keys that stand in order the first i were looked at, and then one more
  module _ (held : List (K × ℕ)) (sorted : IsSorted by_key held) (i : ℕ) (low : 1 ≤ i) (high : i < length held) where
    front_up : (k : ℕ) (d e : K × ℕ) → i ≤ k + 1 → k < length held → Contains (take i held) e → UpTo e (get_or held k d)
    front_up k d e from within c =
        let size = front_length held i (omega (arith, high)) in
        let below : c.0 < i = let c1 = c.1 in omega (arith, c1, size) in
        let is : get_or held c.0 e ≡ e = sym (in_front held i c.0 e below (omega (arith, high))) ∙ c.2 in
        let far = sorted_far (λ a b. is_lt (by_key a b)) key_order held sorted c.0 k e (omega (arith, below, from)) within in
        subst (λ (x : K × ℕ). UpTo e x) (any_default held k e d within) (subst (λ (x : K × ℕ). UpTo x (get_or held k e)) is far)

    pub grown_next : (earlier later : K × ℕ) → earlier ≡ get_or held (i - 1) earlier → later ≡ get_or held i later → (a b : Option ℕ) → IsLeast (ComesAgain cmp (take i held)) a → IsLeast (Follows cmp earlier later) b → IsLeast (ComesAgain cmp (take (i + 1) held)) (lesser a b)
    grown_next earlier later at_earlier at_later a b so next =
        let has : Contains (take i held) earlier =
        let size = front_length held i (omega (arith, high)) in
        (i - 1, omega (arith, size, low), in_front held i (i - 1) earlier (omega (arith, low)) (omega (arith, high)) ∙ sym at_earlier) in
        let up = λ (e : K × ℕ) (c : Contains (take i held) e). subst (λ (x : K × ℕ). UpTo e x) (sym at_earlier) (front_up (i - 1) earlier e (omega arith) (omega (arith, high)) c) in
        let last = λ (e : K × ℕ) (c : Contains (take i held) e). subst (λ (x : K × ℕ). UpTo e x) (sym at_later) (front_up i later e (omega arith) high c) in
        let front : take (suc i) held ≡ take i held ++ later ∷ [] = take_next held i later high at_later in
        let count : i + 1 ≡ suc i = omega arith in
        subst (λ l. IsLeast (ComesAgain cmp l) (lesser a b)) (sym (ap (λ n. take n held) count ∙ front)) (grown (take i held) earlier later has up last a b so next)

  -- one key alone does not come again
  pub one_alone : (held : List (K × ℕ)) → IsLeast (ComesAgain cmp (take 1 held)) None
  one_alone [] n g = let within = g.earlier_held.1 in absurd (omega (arith, within))
  one_alone (x ∷ xs) n g = by (alone x g.earlier g.earlier_held) (alone x g.later g.later_held)
    where
      alone : (x e : K × ℕ) → Contains (x ∷ []) e → x ≡ e
      alone x e (k, within, is) = let first : k ≡ 0 = omega (arith, within) in subst (λ (j : ℕ). get_or (x ∷ []) j e ≡ e) first is

      by : x ≡ g.earlier → x ≡ g.later → ⊥
      by a b = let same = ap (λ (e : K × ℕ). e.1) (sym a ∙ b) in let before = g.follows.before in omega (arith, same, before)

  pub all_looked_at : (held : List (K × ℕ)) (i : ℕ) (least : Option ℕ) → length held ≤ i → IsLeast (ComesAgain cmp (take i held)) least → IsLeast (ComesAgain cmp held) least
  all_looked_at held i least whole so = subst (λ l. IsLeast (ComesAgain cmp l) least) (whole_front held i whole) so
    where
      whole_front : (xs : List (K × ℕ)) (i : ℕ) → length xs ≤ i → take i xs ≡ xs
      whole_front [] zero le = refl
      whole_front [] (suc i) le = refl
      whole_front (y ∷ ys) zero le = absurd (omega (arith, le))
      whole_front (y ∷ ys) (suc i) le = ap (λ l. y ∷ l) (whole_front ys i (omega (arith, le)))

  -- a rearrangement holds the same
  moved : (xs ys : List (K × ℕ)) (n : ℕ) → IsPermutation xs ys → ComesAgain cmp xs n → ComesAgain cmp ys n
  moved xs ys n p g = record {
    earlier = g.earlier;
    later = g.later;
    earlier_held = Contains-permutation xs ys g.earlier p g.earlier_held;
    later_held = Contains-permutation xs ys g.later p g.later_held;
    follows = g.follows;
  }

  pub least_moved : (xs ys : List (K × ℕ)) (least : Option ℕ) → IsPermutation xs ys → IsLeast (ComesAgain cmp ys) least → IsLeast (ComesAgain cmp xs) least
  least_moved xs ys least p so = least_alike (ComesAgain cmp ys) (ComesAgain cmp xs) least (λ n g. moved xs ys n p g) (λ n g. moved ys xs n (IsPermutation-sym xs ys p) g) so

-- What is held of keys, and which keys come again.

contains_cases : {X : Type 0} (x e : X) (xs : List X) → Contains (x ∷ xs) e → (x ≡ e) ⊎ Contains xs e
contains_cases x e xs (zero, within, is) = inl is
contains_cases x e xs (suc k, within, is) = inr (k, omega (arith, within), is)

contains_first : {X : Type 0} (x : X) (xs : List X) → Contains (x ∷ xs) x
contains_first x xs = (0, omega arith, refl)

contains_rest : {X : Type 0} (x e : X) (xs : List X) → Contains xs e → Contains (x ∷ xs) e
contains_rest x e xs (k, within, is) = (suc k, omega (arith, within), is)

-- the key stands at a place, in the line of that place
record StandsIn (n : ℕ) (keys : List Value) (key : Value) (line : ℕ) : Type 0 where
  place : ℕ
  at : slice_get keys place ≡ Some key
  line_is : line ≡ n + place

stands_first : (n : ℕ) (key : Value) (keys : List Value) → StandsIn n (key ∷ keys) key n
stands_first n key keys = record { place = 0; at = refl; line_is = omega arith }

stands_later : (n : ℕ) (k key : Value) (keys : List Value) (line : ℕ) → StandsIn (n + 1) keys key line → StandsIn n (k ∷ keys) key line
stands_later n k key keys line s = record { place = suc s.place; at = s.at; line_is = let is = s.line_is in omega (arith, is) }

-- a key that stands in a list stands first, or among the others
stands_cases : (n : ℕ) (k key : Value) (keys : List Value) (line : ℕ) → StandsIn n (k ∷ keys) key line → ((k ≡ key) × (line ≡ n)) ⊎ StandsIn (n + 1) keys key line
stands_cases n k key keys line s = by s.place s.at s.line_is
  where
    by : (p : ℕ) → slice_get (k ∷ keys) p ≡ Some key → line ≡ n + p → ((k ≡ key) × (line ≡ n)) ⊎ StandsIn (n + 1) keys key line
    by zero at is = inl (cc, omega (arith, is))
    by (suc p) at is = inr (record { place = p; at = at; line_is = omega (arith, is) })

number_stands : (n : ℕ) (keys : List Value) (e : ℤ × ℕ) → Contains (numbers_in n keys) e → StandsIn n keys (Int e.0) e.1
number_stands n [] e c = let within = c.1 in absurd (omega (arith, within))
number_stands n (Int z ∷ ks) e c =
    one_of (λ is. subst (λ (x : ℤ × ℕ). StandsIn n (Int z ∷ ks) (Int x.0) x.1) is (stands_first n (Int z) ks))
    (λ more. stands_later n (Int z) (Int e.0) ks e.1 (number_stands (n + 1) ks e more)) (contains_cases (z, n) e (numbers_in (n + 1) ks) c)
number_stands n (Text t ∷ ks) e c = stands_later n (Text t) (Int e.0) ks e.1 (number_stands (n + 1) ks e c)

number_held : (n : ℕ) (keys : List Value) (z : ℤ) (line : ℕ) → StandsIn n keys (Int z) line → Contains (numbers_in n keys) (z, line)
number_held n [] z line s = let at = s.at in absurd (cc)
number_held n (Int y ∷ ks) z line s =
    one_of (λ first. let same : y ≡ z = let is = first.0 in cc in subst (λ (x : ℤ × ℕ). Contains ((y, n) ∷ numbers_in (n + 1) ks) x) (ap (λ (x : ℤ). (x, n)) same ∙ ap (λ (l : ℕ). (z, l)) (sym first.1)) (contains_first (y, n) (numbers_in (n + 1) ks)))
    (λ more. contains_rest (y, n) (z, line) (numbers_in (n + 1) ks) (number_held (n + 1) ks z line more)) (stands_cases n (Int y) (Int z) ks line s)
number_held n (Text t ∷ ks) z line s =
    one_of (λ first. let is = first.0 in absurd (cc)) (λ more. number_held (n + 1) ks z line more) (stands_cases n (Text t) (Int z) ks line s)

text_stands : (n : ℕ) (keys : List Value) (e : List ℕ × ℕ) → Contains (texts_in n keys) e → StandsIn n keys (Text e.0) e.1
text_stands n [] e c = let within = c.1 in absurd (omega (arith, within))
text_stands n (Text t ∷ ks) e c =
    one_of (λ is. subst (λ (x : List ℕ × ℕ). StandsIn n (Text t ∷ ks) (Text x.0) x.1) is (stands_first n (Text t) ks))
    (λ more. stands_later n (Text t) (Text e.0) ks e.1 (text_stands (n + 1) ks e more)) (contains_cases (t, n) e (texts_in (n + 1) ks) c)
text_stands n (Int z ∷ ks) e c = stands_later n (Int z) (Text e.0) ks e.1 (text_stands (n + 1) ks e c)

text_held : (n : ℕ) (keys : List Value) (t : List ℕ) (line : ℕ) → StandsIn n keys (Text t) line → Contains (texts_in n keys) (t, line)
text_held n [] t line s = let at = s.at in absurd (cc)
text_held n (Text u ∷ ks) t line s =
    one_of (λ first. let same : u ≡ t = let is = first.0 in cc in subst (λ (x : List ℕ × ℕ). Contains ((u, n) ∷ texts_in (n + 1) ks) x) (ap (λ (x : List ℕ). (x, n)) same ∙ ap (λ (l : ℕ). (t, l)) (sym first.1)) (contains_first (u, n) (texts_in (n + 1) ks)))
    (λ more. contains_rest (u, n) (t, line) (texts_in (n + 1) ks) (text_held (n + 1) ks t line more)) (stands_cases n (Text u) (Text t) ks line s)
text_held n (Int z ∷ ks) t line s =
    one_of (λ first. let is = first.0 in absurd (cc)) (λ more. text_held (n + 1) ks t line more) (stands_cases n (Int z) (Text t) ks line s)

-- a key stands in this line, and in an earlier one
record Twice (keys : List Value) (n : ℕ) : Type 0 where
  key : Value
  earlier : ℕ
  first : StandsIn 1 keys key earlier
  second : StandsIn 1 keys key n
  before : earlier < n

numbers_twice : (keys : List Value) (n : ℕ) → ComesAgain int_cmp (numbers_in 1 keys) n → Twice keys n
numbers_twice keys n g = record {
  key = Int g.later.0;
  earlier = g.earlier.1;
  first = subst (λ (z : ℤ). StandsIn 1 keys (Int z) g.earlier.1) (exact_signed g.earlier.0 g.later.0 g.follows.tied) (number_stands 1 keys g.earlier g.earlier_held);
  second = subst (λ (l : ℕ). StandsIn 1 keys (Int g.later.0) l) g.follows.line (number_stands 1 keys g.later g.later_held);
  before = let before = g.follows.before in let line = g.follows.line in omega (arith, before, line);
}

texts_twice : (keys : List Value) (n : ℕ) → ComesAgain text_cmp (texts_in 1 keys) n → Twice keys n
texts_twice keys n g = record {
  key = Text g.later.0;
  earlier = g.earlier.1;
  first = subst (λ (t : List ℕ). StandsIn 1 keys (Text t) g.earlier.1) (text_exact g.earlier.0 g.later.0 g.follows.tied) (text_stands 1 keys g.earlier g.earlier_held);
  second = subst (λ (l : ℕ). StandsIn 1 keys (Text g.later.0) l) g.follows.line (text_stands 1 keys g.later g.later_held);
  before = let before = g.follows.before in let line = g.follows.line in omega (arith, before, line);
}

twice_either : (keys : List Value) (n : ℕ) → Twice keys n → ComesAgain int_cmp (numbers_in 1 keys) n ⊎ ComesAgain text_cmp (texts_in 1 keys) n
twice_either keys n w = by w.key w.first w.second
  where
    by : (key : Value) → StandsIn 1 keys key w.earlier → StandsIn 1 keys key n → ComesAgain int_cmp (numbers_in 1 keys) n ⊎ ComesAgain text_cmp (texts_in 1 keys) n
    by (Int z) a b = inl (record {
      earlier = (z, w.earlier);
      later = (z, n);
      earlier_held = number_held 1 keys z w.earlier a;
      later_held = number_held 1 keys z n b;
      follows = record { tied = tied_itself int_cmp_total z; before = w.before; line = refl };
    })
    by (Text t) a b = inr (record {
      earlier = (t, w.earlier);
      later = (t, n);
      earlier_held = text_held 1 keys t w.earlier a;
      later_held = text_held 1 keys t n b;
      follows = record { tied = tied_itself text_total t; before = w.before; line = refl };
    })

-- Texts that are held by someone else.

module _ {T : Type 0} (cmp : T → T → Ordering) (bytes : T → List ℕ) (by_bytes : (a b : T) → cmp a b ≡ text_cmp (bytes a) (bytes b)) where
  abbrev seen : T × ℕ → List ℕ × ℕ
  seen e = (bytes e.0, e.1)

  contains_seen : (xs : List (T × ℕ)) (e : T × ℕ) → Contains xs e → Contains (map (λ (x : T × ℕ). (bytes x.0, x.1)) xs) (seen e)
  contains_seen [] e c = let within = c.1 in absurd (omega (arith, within))
  contains_seen (x ∷ xs) e c =
      one_of (λ is. subst (λ (y : T × ℕ). Contains (seen x ∷ map (λ (x : T × ℕ). (bytes x.0, x.1)) xs) (seen y)) is (contains_first (seen x) (map (λ (x : T × ℕ). (bytes x.0, x.1)) xs)))
      (λ more. contains_rest (seen x) (seen e) (map (λ (x : T × ℕ). (bytes x.0, x.1)) xs) (contains_seen xs e more)) (contains_cases x e xs c)

  record Unseen (xs : List (T × ℕ)) (y : List ℕ × ℕ) : Type 0 where
    entry : T × ℕ
    held : Contains xs entry
    is : seen entry ≡ y

  contains_unseen : (xs : List (T × ℕ)) (y : List ℕ × ℕ) → Contains (map (λ (x : T × ℕ). (bytes x.0, x.1)) xs) y → Unseen xs y
  contains_unseen [] y c = let within = c.1 in absurd (omega (arith, within))
  contains_unseen (x ∷ xs) y c =
      one_of (λ is. record { entry = x; held = contains_first x xs; is = is })
      (λ more. let u = contains_unseen xs y more in record { entry = u.entry; held = contains_rest x u.entry xs u.held; is = u.is }) (contains_cases (seen x) y (map (λ (x : T × ℕ). (bytes x.0, x.1)) xs) c)

  seen_again : (xs : List (T × ℕ)) (n : ℕ) → ComesAgain cmp xs n → ComesAgain text_cmp (map (λ (x : T × ℕ). (bytes x.0, x.1)) xs) n
  seen_again xs n g = record {
    earlier = seen g.earlier;
    later = seen g.later;
    earlier_held = contains_seen xs g.earlier g.earlier_held;
    later_held = contains_seen xs g.later g.later_held;
    follows = record { tied = sym (by_bytes g.earlier.0 g.later.0) ∙ g.follows.tied; before = g.follows.before; line = g.follows.line };
  }

  unseen_again : (xs : List (T × ℕ)) (n : ℕ) → ComesAgain text_cmp (map (λ (x : T × ℕ). (bytes x.0, x.1)) xs) n → ComesAgain cmp xs n
  unseen_again xs n g =
      let a = contains_unseen xs g.earlier g.earlier_held in
      let b = contains_unseen xs g.later g.later_held in
      record {
        earlier = a.entry;
        later = b.entry;
        earlier_held = a.held;
        later_held = b.held;
        follows = record {
          tied = by_bytes a.entry.0 b.entry.0 ∙ ap (λ (x : List ℕ × ℕ). text_cmp x.0 (bytes b.entry.0)) a.is ∙ ap (λ (x : List ℕ × ℕ). text_cmp g.earlier.0 x.0) b.is ∙ g.follows.tied;
          before = let before = g.follows.before in let first = ap (λ (x : List ℕ × ℕ). x.1) a.is in let second = ap (λ (x : List ℕ × ℕ). x.1) b.is in omega (arith, before, first, second);
          line = ap (λ (x : List ℕ × ℕ). x.1) b.is ∙ g.follows.line;
        };
      }

  -- the lesser of the lines of which a number and a text come again
  both_kinds : (held : Keys T) (keys : List Value) (a b : Option ℕ) → AreKeys bytes held keys → IsLeast (ComesAgain int_cmp held.numbers.items) a → IsLeast (ComesAgain cmp held.texts.items) b → IsLeast (Twice keys) (lesser a b)
  both_kinds held keys a b are numbers texts =
      least_of_both (ComesAgain int_cmp (numbers_in 1 keys)) (ComesAgain text_cmp (texts_in 1 keys)) (Twice keys) a b (twice_either keys) (numbers_twice keys) (texts_twice keys)
      (subst (λ l. IsLeast (ComesAgain int_cmp l) a) are.numbers numbers)
      (subst (λ l. IsLeast (ComesAgain text_cmp l) b) are.texts (least_alike (ComesAgain cmp held.texts.items) (ComesAgain text_cmp (map (λ (x : T × ℕ). (bytes x.0, x.1)) held.texts.items)) b (unseen_again held.texts.items) (seen_again held.texts.items) texts))

-- What the first line that comes again says of the keys.

-- parts of a list, by what stands at a place
record Parts (keys : List Value) (j : ℕ) (key : Value) : Type 0 where
  front : List Value
  rest : List Value
  parts : keys ≡ front ++ key ∷ rest
  size : length front ≡ j

parts_at : (keys : List Value) (j : ℕ) (key : Value) → slice_get keys j ≡ Some key → Parts keys j key
parts_at [] j key at = absurd (cc)
parts_at (k ∷ ks) zero key at = let same : k ≡ key = cc in record { front = []; rest = ks; parts = ap (λ (x : Value). x ∷ ks) same; size = refl }
parts_at (k ∷ ks) (suc j) key at = let p = parts_at ks j key at in record { front = k ∷ p.front; rest = p.rest; parts = ap (λ l. k ∷ l) p.parts; size = ap suc p.size }

contains_at : (front more : List Value) (i : ℕ) (key : Value) → i < length front → slice_get (front ++ more) i ≡ Some key → Contains front key
contains_at [] more i key within at = absurd (omega (arith, within))
contains_at (k ∷ ks) more zero key within at = let same : k ≡ key = cc in subst (λ (x : Value). Contains (k ∷ ks) x) same (contains_first k ks)
contains_at (k ∷ ks) more (suc i) key within at = contains_rest k key ks (contains_at ks more i key (omega (arith, within)) at)

stands_at : (front more : List Value) (i : ℕ) (d : Value) → i < length front → slice_get (front ++ more) i ≡ Some (get_or front i d)
stands_at [] more i d within = absurd (omega (arith, within))
stands_at (k ∷ ks) more zero d within = refl
stands_at (k ∷ ks) more (suc i) d within = stands_at ks more i d (omega (arith, within))

-- two places with one key
twice_at : (keys : List Value) (i j : ℕ) (key : Value) → slice_get keys i ≡ Some key → slice_get keys j ≡ Some key → i < j → Twice keys (j + 1)
twice_at keys i j key a b below = record {
  key = key;
  earlier = i + 1;
  first = record { place = i; at = a; line_is = omega arith };
  second = record { place = j; at = b; line_is = omega arith };
  before = omega (arith, below);
}

-- front parts without a line that comes again have no key twice
front_apart : (keys front more : List Value) → keys ≡ front ++ more → ((m : ℕ) → m ≤ length front → Twice keys m → ⊥) → AreApart front
front_apart keys front more parts never i j d below within same =
    let a : slice_get keys i ≡ Some (get_or front j d) = ap (λ l. slice_get l i) parts ∙ stands_at front more i d (omega (arith, below, within)) ∙ ap Some same in
    let b : slice_get keys j ≡ Some (get_or front j d) = ap (λ l. slice_get l j) parts ∙ stands_at front more j d within in
    never (j + 1) (omega (arith, within)) (twice_at keys i j (get_or front j d) a b below)

no_more : (front : List Value) → front ≡ front ++ []
no_more [] = refl
no_more (k ∷ ks) = ap (λ l. k ∷ l) (no_more ks)

first_told : (keys : List Value) (least : Option ℕ) → IsLeast (Twice keys) least → MatchOption least (AreApart keys) (λ n. IsFirstAgain keys n)
first_told keys None never = front_apart keys keys [] (no_more keys) (λ m below w. never m w)
first_told keys (Some n) so =
    let w = so.0 in
    let p = parts_at keys w.second.place w.key w.second.at in
    let line : n ≡ length p.front + 1 = let is = w.second.line_is in let size = p.size in omega (arith, is, size) in
    let below : w.first.place < length p.front = let is = w.first.line_is in let before = w.before in omega (arith, is, before, line) in
    record {
      front = p.front;
      key = w.key;
      rest = p.rest;
      parts = p.parts;
      line = line;
      again = contains_at p.front (w.key ∷ p.rest) w.first.place w.key below (ap (λ l. slice_get l w.first.place) (sym p.parts) ∙ w.first.at);
      apart = front_apart keys p.front (w.key ∷ p.rest) p.parts (λ m most v. so.1 m (omega (arith, line, most)) v);
    }

pub first_of_kinds : {T : Type 0} (cmp : T → T → Ordering) (bytes : T → List ℕ) → ((a b : T) → cmp a b ≡ text_cmp (bytes a) (bytes b)) → (held : Keys T) (keys : List Value) (a b : Option ℕ) → AreKeys bytes held keys → IsLeast (ComesAgain int_cmp held.numbers.items) a → IsLeast (ComesAgain cmp held.texts.items) b → MatchOption (lesser a b) (AreApart keys) (λ n. IsFirstAgain keys n)
first_of_kinds cmp bytes by_bytes held keys a b are numbers texts = first_told keys (lesser a b) (both_kinds cmp bytes by_bytes held keys a b are numbers texts)

-- Keys that are put behind the others.

numbers_more : (n : ℕ) (keys : List Value) (key : Value) → numbers_in n (keys ++ key ∷ []) ≡ numbers_in n keys ++ numbers_in (n + length keys) (key ∷ [])
numbers_more n [] key = let same : n ≡ n + 0 = omega arith in ap (λ m. numbers_in m (key ∷ [])) same
numbers_more n (Int z ∷ ks) key = let next : n + 1 + length ks ≡ n + suc (length ks) = omega arith in ap (λ l. (z, n) ∷ l) (numbers_more (n + 1) ks key ∙ ap (λ m. numbers_in (n + 1) ks ++ numbers_in m (key ∷ [])) next)
numbers_more n (Text t ∷ ks) key = let next : n + 1 + length ks ≡ n + suc (length ks) = omega arith in numbers_more (n + 1) ks key ∙ ap (λ m. numbers_in (n + 1) ks ++ numbers_in m (key ∷ [])) next

texts_more : (n : ℕ) (keys : List Value) (key : Value) → texts_in n (keys ++ key ∷ []) ≡ texts_in n keys ++ texts_in (n + length keys) (key ∷ [])
texts_more n [] key = let same : n ≡ n + 0 = omega arith in ap (λ m. texts_in m (key ∷ [])) same
texts_more n (Int z ∷ ks) key = let next : n + 1 + length ks ≡ n + suc (length ks) = omega arith in texts_more (n + 1) ks key ∙ ap (λ m. texts_in (n + 1) ks ++ texts_in m (key ∷ [])) next
texts_more n (Text t ∷ ks) key = let next : n + 1 + length ks ≡ n + suc (length ks) = omega arith in ap (λ l. (t, n) ∷ l) (texts_more (n + 1) ks key ∙ ap (λ m. texts_in (n + 1) ks ++ texts_in m (key ∷ [])) next)

number_line : (z : ℤ) (n line : ℕ) → line ≡ n + 1 → (z, line) ∷ [] ≡ numbers_in (1 + n) (Int z ∷ [])
number_line z n line e = let next : line ≡ 1 + n = omega (arith, e) in ap (λ (l : ℕ). (z, l) ∷ []) next

text_line : (t : List ℕ) (n line : ℕ) → line ≡ n + 1 → (t, line) ∷ [] ≡ texts_in (1 + n) (Text t ∷ [])
text_line t n line e = let next : line ≡ 1 + n = omega (arith, e) in ap (λ (l : ℕ). (t, l) ∷ []) next

nothing_behind : {X : Type 0} (xs : List X) → xs ≡ xs ++ []
nothing_behind [] = refl
nothing_behind (x ∷ xs) = ap (λ l. x ∷ l) (nothing_behind xs)

map_push : {X Y : Type 0} (f : X → Y) (xs : List X) (x : X) → map f (xs ++ x ∷ []) ≡ map f xs ++ f x ∷ []
map_push f [] x = refl
map_push f (y ∷ ys) x = ap (λ l. f y ∷ l) (map_push f ys x)

module _ {T : Type 0} (bytes : T → List ℕ) (old new : Keys T) (keys : List Value) (key : Value) (line : ℕ) (next : line ≡ length keys + 1) (are : AreKeys bytes old keys) where
  pub number_put : (z : ℤ) → key ≡ Int z → new.numbers.items ≡ old.numbers.items ++ (z, line) ∷ [] → new.texts.items ≡ old.texts.items → AreKeys bytes new (keys ++ key ∷ [])
  number_put z is numbers texts = subst (λ (k : Value). AreKeys bytes new (keys ++ k ∷ [])) (sym is) (record {
    numbers = numbers ∙ ap (λ l. l ++ (z, line) ∷ []) are.numbers ∙ ap (λ l. numbers_in 1 keys ++ l) (number_line z (length keys) line next) ∙ sym (numbers_more 1 keys (Int z));
    texts = ap (λ l. map (λ (e : T × ℕ). (bytes e.0, e.1)) l) texts ∙ are.texts ∙ nothing_behind (texts_in 1 keys) ∙ sym (texts_more 1 keys (Int z));
  })

  pub text_put : (t : T) → key ≡ Text (bytes t) → new.numbers.items ≡ old.numbers.items → new.texts.items ≡ old.texts.items ++ (t, line) ∷ [] → AreKeys bytes new (keys ++ key ∷ [])
  text_put t is numbers texts = subst (λ (k : Value). AreKeys bytes new (keys ++ k ∷ [])) (sym is) (record {
    numbers = numbers ∙ are.numbers ∙ nothing_behind (numbers_in 1 keys) ∙ sym (numbers_more 1 keys (Text (bytes t)));
    texts =
        ap (λ l. map (λ (e : T × ℕ). (bytes e.0, e.1)) l) texts
        ∙ map_push (λ (e : T × ℕ). (bytes e.0, e.1)) old.texts.items (t, line)
        ∙ ap (λ l. l ++ (bytes t, line) ∷ []) are.texts
        ∙ ap (λ l. texts_in 1 keys ++ l) (text_line (bytes t) (length keys) line next)
        ∙ sym (texts_more 1 keys (Text (bytes t)));
  })

-- keys that are held as before
pub still_held : {T : Type 0} (bytes : T → List ℕ) (old new : Keys T) (keys : List Value) → new.numbers.items ≡ old.numbers.items → new.texts.items ≡ old.texts.items → AreKeys bytes old keys → AreKeys bytes new keys
still_held {T} bytes old new keys numbers texts are = record { numbers = numbers ∙ are.numbers; texts = ap (λ l. map (λ (e : T × ℕ). (bytes e.0, e.1)) l) texts ∙ are.texts }

-- Keys that things name.

or_first : (a b : Bool) → a ≡ true → (a || b) ≡ true
or_first true b e = refl
or_first false b e = absurd (cc)

or_second : (a b : Bool) → b ≡ true → (a || b) ≡ true
or_second true b e = refl
or_second false b e = e

-- the keys are those that these name, in turn
abbrev pub Name : {A : Type 0} → (A → Option Value) → List A → List Value → Type 0
Name key_of xs keys = map key_of xs ≡ map Some keys

module _ {A : Type 0} (key_of : A → Option Value) where
  pub name_more : (xs : List A) (keys : List Value) (x : A) (key : Value) → Name key_of xs keys → key_of x ≡ Some key → Name key_of (xs ++ x ∷ []) (keys ++ key ∷ [])
  name_more xs keys x key named is = map_push key_of xs x ∙ ap (λ l. l ++ key_of x ∷ []) named ∙ ap (λ (o : Option Value). map Some keys ++ o ∷ []) is ∙ sym (map_push Some keys key)

  pub name_count : (xs : List A) (keys : List Value) → Name key_of xs keys → length xs ≡ length keys
  name_count [] [] named = refl
  name_count [] (k ∷ ks) named = absurd (cc)
  name_count (x ∷ xs) [] named = absurd (cc)
  name_count (x ∷ xs) (k ∷ ks) named = let more : map key_of xs ≡ map Some ks = cc in ap suc (name_count xs ks more)

  named_at : (xs : List A) (keys : List Value) (i : ℕ) (d : A) (e : Value) → Name key_of xs keys → i < length xs → key_of (get_or xs i d) ≡ Some (get_or keys i e)
  named_at [] keys i d e named within = absurd (omega (arith, within))
  named_at (x ∷ xs) [] i d e named within = absurd (cc)
  named_at (x ∷ xs) (k ∷ ks) zero d e named within = cc
  named_at (x ∷ xs) (k ∷ ks) (suc i) d e named within = let more : map key_of xs ≡ map Some ks = cc in named_at xs ks i d e more (omega (arith, within))

  -- where no key stands twice, no two name one key
  pub name_apart : (xs : List A) (keys : List Value) → Name key_of xs keys → AreApart keys → AllPairs (λ x y. cell_cmp (key_of x) (key_of y) ≢ Equal) xs
  name_apart xs keys named apart i j d below within tied =
      let count = name_count xs keys named in
      let same : key_of (get_or xs i d) ≡ key_of (get_or xs j d) = cell_exact (key_of (get_or xs i d)) (key_of (get_or xs j d)) tied in
      let one : Some (get_or keys i (Text [])) ≡ Some (get_or keys j (Text [])) = sym (named_at xs keys i d (Text []) named (omega (arith, below, within))) ∙ same ∙ named_at xs keys j d (Text []) named within in
      apart i j (Text []) below (omega (arith, count, within)) (cc)

  -- where a key stands among them, one of them names it
  pub name_again : (xs : List A) (keys : List Value) (key : Value) → Name key_of xs keys → Contains keys key → list_any (λ x. is_eq (cell_cmp (Some key) (key_of x))) xs ≡ true
  name_again xs [] key named c = let within = c.1 in absurd (omega (arith, within))
  name_again [] (k ∷ ks) key named c = absurd (cc)
  name_again (x ∷ xs) (k ∷ ks) key named c =
      let first : key_of x ≡ Some k = cc in
      let more : map key_of xs ≡ map Some ks = cc in
      one_of (λ here. let tied : cell_cmp (Some key) (key_of x) ≡ Equal = ap (cell_cmp (Some key)) (first ∙ ap Some here) ∙ tied_itself cell_total (Some key) in or_first (is_eq (cell_cmp (Some key) (key_of x))) (list_any (λ y. is_eq (cell_cmp (Some key) (key_of y))) xs) (ap is_eq tied))
      (λ later. or_second (is_eq (cell_cmp (Some key) (key_of x))) (list_any (λ y. is_eq (cell_cmp (Some key) (key_of y))) xs) (name_again xs ks key more later)) (contains_cases k key ks c)

  -- what names the key at a place, between others
  pub record NamesAt (xs : List A) (front : List Value) (key : Value) : Type 0 where
    pub before : List A
    pub here : A
    pub after : List A
    pub parts : xs ≡ before ++ here ∷ after
    pub named : Name key_of before front
    pub is : key_of here ≡ Some key

  pub names_at : (xs : List A) (front rest : List Value) (key : Value) → Name key_of xs (front ++ key ∷ rest) → NamesAt xs front key
  names_at [] [] rest key named = absurd (cc)
  names_at [] (f ∷ fs) rest key named = absurd (cc)
  names_at (x ∷ xs) [] rest key named = record { before = []; here = x; after = xs; parts = refl; named = refl; is = cc }
  names_at (x ∷ xs) (f ∷ fs) rest key named =
      let first : key_of x ≡ Some f = cc in
      let more : map key_of xs ≡ map Some (fs ++ key ∷ rest) = cc in
      let n = names_at xs fs rest key more in
      record {
        before = x ∷ n.before;
        here = n.here;
        after = n.after;
        parts = ap (λ l. x ∷ l) n.parts;
        named = ap (λ (o : Option Value). o ∷ map key_of n.before) first ∙ ap (λ l. Some f ∷ l) n.named;
        is = n.is;
      }
