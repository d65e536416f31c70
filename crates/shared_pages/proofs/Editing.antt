-- Edited lists, cut at a bound: what is below the bound and what isn't are edited apart from each other.
use Rattle.std.proofs.Common.{◌≡◌, true, false, cond, List, [], ◌∷◌, ◌++◌, refl, sym, ap, ◌∙◌, subst, append_assoc}
use Rattle.std.specs.Cmp.{IsTotalOrder}
use Rattle.std.specs.List.{AllByRecursion, flat_map}
use Rattle.std.specs.List.Sorted.{IsStrictlySortedBy}
use Rattle.std.specs.Ordering.{is_lt, is_eq, match_ordering}
use Rattle.std.specs.declared.cmp.Ordering.{Ordering}
use Rattle.std.specs.declared.cmp.Ordering.TheVariants.{Less, Equal, Greater}
use Rattle.shared_pages.specs.declared.edit.Edit.{Edit}
use Rattle.shared_pages.specs.declared.edit.Edit.TheVariants.{Put, Remove}
use Rattle.shared_pages.specs.Edits.{place, given, by_place, changed, edited}
use Rattle.shared_pages.specs.Singles.{starts_at}
use Rattle.shared_pages.proofs.Order.{map_all, all_both, turned, below_not_below, itself, Below, NotBelow}

pub append_none : {X : Type 0} (xs : List X) → xs ++ [] ≡ xs
append_none [] = refl
append_none (x ∷ xs) = ap (λ l. x ∷ l) (append_none xs)

module _ {T : Type 0} (cmp : T → T → Ordering) (total : IsTotalOrder cmp) where
  -- all items are below an edit's place
  abbrev pub AreBefore : List T → Edit T → Type 0
  AreBefore xs e = AllByRecursion (λ x. cmp x (place e) ≡ Less) xs

  -- an edit's place is below the first item
  abbrev pub IsAhead : Edit T → List T → Type 0
  IsAhead e [] = Unit {0}
  IsAhead e (x ∷ xs) = cmp (place e) x ≡ Less

  changed-behind : (xs ys : List T) (e : Edit T) → AreBefore xs e → changed cmp (xs ++ ys) e ≡ xs ++ changed cmp ys e
  changed-behind [] ys e h = refl
  changed-behind (x ∷ xs) ys e h =
      ap (λ o. match_ordering o (x ∷ changed cmp (xs ++ ys) e) (given e ++ (xs ++ ys)) (given e ++ x ∷ (xs ++ ys))) h.0
      ∙ ap (λ l. x ∷ l) (changed-behind xs ys e h.1)

  -- items below all edits stay as they are
  pub edited-behind : (xs ys : List T) (es : List (Edit T)) → AllByRecursion (AreBefore xs) es → edited cmp (xs ++ ys) es ≡ xs ++ edited cmp ys es
  edited-behind xs ys [] h = refl
  edited-behind xs ys (e ∷ es) h = ap (λ l. edited cmp l es) (changed-behind xs ys e h.0) ∙ edited-behind xs (changed cmp ys e) es h.1

  changed-ahead : (xs ys : List T) (e : Edit T) → IsAhead e ys → changed cmp (xs ++ ys) e ≡ changed cmp xs e ++ ys
  changed-ahead [] [] e h = sym (append_none (given e))
  changed-ahead [] (y ∷ ys) e h =
      ap (λ o. match_ordering o (y ∷ changed cmp ys e) (given e ++ ys) (given e ++ y ∷ ys)) (turned cmp total (place e) y Less h)
  changed-ahead (x ∷ xs) ys e h = by (changed-ahead xs ys e h) (cmp x (place e))
    where
      by : changed cmp (xs ++ ys) e ≡ changed cmp xs e ++ ys → (o : Ordering) → match_ordering o (x ∷ changed cmp (xs ++ ys) e) (given e ++ (xs ++ ys)) (given e ++ x ∷ (xs ++ ys))
          ≡ match_ordering o (x ∷ changed cmp xs e) (given e ++ xs) (given e ++ x ∷ xs) ++ ys
      by more Less = ap (λ l. x ∷ l) more
      by more Equal = sym (append_assoc (given e) xs ys)
      by more Greater = sym (append_assoc (given e) (x ∷ xs) ys)

  -- items above all edits stay as they are
  pub edited-ahead : (xs ys : List T) (es : List (Edit T)) → AllByRecursion (λ e. IsAhead e ys) es → edited cmp (xs ++ ys) es ≡ edited cmp xs es ++ ys
  edited-ahead xs ys [] h = refl
  edited-ahead xs ys (e ∷ es) h = ap (λ l. edited cmp l es) (changed-ahead xs ys e h.0) ∙ edited-ahead (changed cmp xs e) ys es h.1

  pub edited-append : (xs : List T) (es fs : List (Edit T)) → edited cmp xs (es ++ fs) ≡ edited cmp (edited cmp xs es) fs
  edited-append xs [] fs = refl
  edited-append xs (e ∷ es) fs = edited-append (changed cmp xs e) es fs

  pub given_below : (e : Edit T) (y : T) → cmp (place e) y ≡ Less → Below cmp total (λ x. x) y (given e)
  given_below (Put x) y l = (l, tt)
  given_below (Remove x) y l = tt

  -- what holds of all items, and of the item put, holds of all items after an edit
  changed_all : (P : T → Type 0) (xs : List T) (e : Edit T) → AllByRecursion P xs → AllByRecursion P (given e) → AllByRecursion P (changed cmp xs e)
  changed_all P [] e h g = g
  changed_all P (x ∷ xs) e h g = by (changed_all P xs e h.1 g) (cmp x (place e))
    where
      by : AllByRecursion P (changed cmp xs e) → (o : Ordering) → AllByRecursion P (match_ordering o (x ∷ changed cmp xs e) (given e ++ xs) (given e ++ x ∷ xs))
      by more Less = (h.0, more)
      by more Equal = all_both P (given e) xs g h.1
      by more Greater = all_both P (given e) (x ∷ xs) g h

  sorted_given : (e : Edit T) (xs : List T) → AllByRecursion (λ x. cmp (place e) x ≡ Less) xs → IsStrictlySortedBy cmp xs → IsStrictlySortedBy cmp (given e ++ xs)
  unfolding IsStrictlySortedBy
  sorted_given (Put y) xs h s = (h, s)
  sorted_given (Remove y) xs h s = s

  given_above : (e : Edit T) (x : T) → cmp x (place e) ≡ Less → AllByRecursion (λ y. cmp x y ≡ Less) (given e)
  given_above (Put y) x l = (l, tt)
  given_above (Remove y) x l = tt

  pub changed_sorted : (xs : List T) (e : Edit T) → IsStrictlySortedBy cmp xs → IsStrictlySortedBy cmp (changed cmp xs e)
  unfolding IsStrictlySortedBy
  changed_sorted [] e s = subst (IsStrictlySortedBy cmp) (append_none (given e)) (sorted_given e [] tt tt)
  changed_sorted (x ∷ xs) e s = by (changed_sorted xs e s.1) (cmp x (place e)) refl
    where
      by : IsStrictlySortedBy cmp (changed cmp xs e) → (o : Ordering) → cmp x (place e) ≡ o → IsStrictlySortedBy cmp (match_ordering o (x ∷ changed cmp xs e) (given e ++ xs) (given e ++ x ∷ xs))
      by more Less l = (changed_all (λ y. cmp x y ≡ Less) xs e s.0 (given_above e x l), more)
      by more Equal l = sorted_given e xs (map_all _ _ (λ z m. total.congr (place e) x z (turned cmp total x (place e) Equal l) ∙ m) xs s.0) s.1
      by more Greater l =
          let above : cmp (place e) x ≡ Less = turned cmp total x (place e) Greater l in
          sorted_given e (x ∷ xs) (above, map_all _ _ (λ z m. total.trans (place e) x z above m) xs s.0) s

  -- a list in order stays so
  pub edited_sorted : (xs : List T) (es : List (Edit T)) → IsStrictlySortedBy cmp xs → IsStrictlySortedBy cmp (edited cmp xs es)
  edited_sorted xs [] s = s
  edited_sorted xs (e ∷ es) s = edited_sorted (changed cmp xs e) es (changed_sorted xs e s)

  edited_below : (xs : List T) (es : List (Edit T)) (y : T) → Below cmp total (λ x. x) y xs → Below cmp total place y es → Below cmp total (λ x. x) y (edited cmp xs es)
  edited_below xs [] y h l = h
  edited_below xs (e ∷ es) y h l = edited_below (changed cmp xs e) es y (changed_all (λ x. cmp x y ≡ Less) xs e h (given_below e y l.0)) l.1

  pub all_before : (xs : List T) (es : List (Edit T)) (y : T) → Below cmp total (λ x. x) y xs → NotBelow cmp total place y es → AllByRecursion (AreBefore xs) es
  all_before xs [] y h n = tt
  all_before xs (e ∷ es) y h n = (map_all _ _ (λ x l. below_not_below cmp total x y (place e) l n.0) xs h, all_before xs es y h n.1)

  all_ahead : (ys : List T) (es : List (Edit T)) (y : T) → Below cmp total place y es → NotBelow cmp total (λ x. x) y ys → AllByRecursion (λ e. IsAhead e ys) es
  all_ahead ys [] y h n = tt
  all_ahead [] (e ∷ es) y h n = (tt, all_ahead [] es y h.1 n)
  all_ahead (x ∷ xs) (e ∷ es) y h n = (below_not_below cmp total (place e) y x h.0 n.0, all_ahead (x ∷ xs) es y h.1 n)

  -- items and edits below a bound, and those that aren't, are edited apart
  pub edited-cut : (y : T) (xs ys : List T) (es fs : List (Edit T)) → Below cmp total (λ x. x) y xs → NotBelow cmp total (λ x. x) y ys → Below cmp total place y es → NotBelow cmp total place y fs
      → edited cmp (xs ++ ys) (es ++ fs) ≡ edited cmp xs es ++ edited cmp ys fs
  edited-cut y xs ys es fs bx ny be nf =
      edited-append (xs ++ ys) es fs ∙ ap (λ l. edited cmp l fs) (edited-ahead xs ys es (all_ahead ys es y be ny))
      ∙ edited-behind (edited cmp xs es) ys fs (all_before (edited cmp xs es) fs y (edited_below xs es y bx be) nf)

  given_before : (e : Edit T) (es : List (Edit T)) → AllByRecursion (λ f. cmp (place e) (place f) ≡ Less) es → AllByRecursion (AreBefore (given e)) es
  given_before e [] h = tt
  given_before e (f ∷ es) h = (given_below e (place f) h.0, given_before e es h.1)

  -- on nothing, edits in order give what they put
  pub edited-none : (es : List (Edit T)) → IsStrictlySortedBy (by_place cmp) es → edited cmp [] es ≡ flat_map given es
  unfolding IsStrictlySortedBy
  edited-none [] s = refl
  edited-none (e ∷ es) s =
      ap (λ l. edited cmp l es) (sym (append_none (given e))) ∙ edited-behind (given e) [] es (given_before e es s.0) ∙ ap (λ l. given e ++ l) (edited-none es s.1)

  -- on one item, edits of which none is below it leave it alone, or begin with one that takes its place
  edited-first : (x : T) (es : List (Edit T)) → NotBelow cmp total place x es → IsStrictlySortedBy (by_place cmp) es → edited cmp (x ∷ []) es ≡ cond (starts_at cmp es x) [] (x ∷ []) ++ edited cmp [] es
  unfolding IsStrictlySortedBy
  edited-first x [] n s = refl
  edited-first x (e ∷ es) n s = by (cmp (place e) x) refl
    where
      by : (o : Ordering) → cmp (place e) x ≡ o → edited cmp (x ∷ []) (e ∷ es) ≡ cond (is_eq (cmp (place e) x)) [] (x ∷ []) ++ edited cmp [] (e ∷ es)
      by Less l = let no : true ≡ false = sym (ap is_lt l) ∙ n.0 in absurd (cc)
      by Equal l =
          ap (λ o. edited cmp (match_ordering o (x ∷ given e) (given e ++ []) (given e ++ x ∷ [])) es) (turned cmp total (place e) x Equal l)
          ∙ ap (λ l. edited cmp l es) (append_none (given e))
          ∙ sym (ap (λ o. cond (is_eq o) [] (x ∷ []) ++ edited cmp (given e) es) l)
      by Greater l =
          let above : cmp x (place e) ≡ Less = turned cmp total (place e) x Greater l in
          edited-behind (x ∷ []) [] (e ∷ es) ((above, tt), map_all _ _ (λ f m. (total.trans x (place e) (place f) above m, tt)) es s.0)
          ∙ sym (ap (λ o. cond (is_eq o) [] (x ∷ []) ++ edited cmp (given e) es) l)

  -- on one item, edits of which the first are below it, and the others aren't
  pub edited-one : (x : T) (es fs : List (Edit T)) → Below cmp total place x es → NotBelow cmp total place x fs → IsStrictlySortedBy (by_place cmp) fs
      → edited cmp (x ∷ []) (es ++ fs) ≡ edited cmp [] es ++ (cond (starts_at cmp fs x) [] (x ∷ []) ++ edited cmp [] fs)
  edited-one x es fs b n s = edited-cut x [] (x ∷ []) es fs tt (ap is_lt (itself cmp total x), tt) b n ∙ ap (λ l. edited cmp [] es ++ l) (edited-first x fs n s)
