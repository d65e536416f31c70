-- The texts that begin with a prefix lie between the prefix and its end.
use Rattle.std.proofs.Common.{◌≡◌, ℕ, zero, suc, ◌+◌, ◌≤◌, ◌<◌, Bool, true, false, cond, ◌&&◌, List, [], ◌∷◌, ◌++◌, Option, Some, None, length, take, get_or, ◌-◌, nat_eq, nat_lt, refl, sym, ap, ◌∙◌, subst, arith}
use Rattle.std.proofs.lemmas.Bool.Decides.{nat_tests}
use Rattle.std.specs.List.{starts_with}
use Rattle.std.specs.Cmp.Lexicographic.{pointwise}
use Rattle.std.specs.Ordering.{is_lt, is_ge, nat_cmp, ordering_then}
use Rattle.std.specs.declared.cmp.Ordering.{Ordering}
use Rattle.std.specs.declared.cmp.Ordering.TheVariants.{Less, Equal, Greater}
use Rattle.cite_schema.specs.Values.{is_text, text_cmp}
use Rattle.interval_normal.specs.Spans.{under}
use Rattle.interval_normal.specs.PrefixEnds.{raised, prefix_end}

nat_below : (c b : ℕ) → nat_cmp c b ≡ Less → nat_eq b c ≡ false
nat_below c b e = grind (arith, nat_tests)

nat_above : (c b : ℕ) → nat_cmp c b ≡ Greater → nat_eq b c ≡ false
nat_above c b e = grind (arith, nat_tests)

pub nat_same : (c b : ℕ) → nat_cmp c b ≡ Equal → c ≡ b
nat_same c b e = grind (arith, nat_tests)

nat_eq_self : (b : ℕ) → nat_eq b b ≡ true
nat_eq_self b = grind (arith, nat_tests)

nat_cmp_self : (b : ℕ) → nat_cmp b b ≡ Equal
nat_cmp_self b = grind (arith, nat_tests)

nat_cmp_next : (b : ℕ) → nat_cmp b (b + 1) ≡ Less
nat_cmp_next b = grind (arith, nat_tests)

nat_cmp_above : (c b : ℕ) → nat_cmp c b ≡ Greater → is_lt (nat_cmp c (b + 1)) ≡ false
nat_cmp_above c b e = grind (arith, nat_tests)

nat_top : (c b : ℕ) → nat_lt c 256 ≡ true → nat_lt b 255 ≡ false → nat_cmp c b ≡ Greater → ⊥
nat_top c b l m e = grind (arith, nat_tests)

pub and_first : (a b : Bool) → (a && b) ≡ true → a ≡ true
and_first true b e = refl
and_first false b e = e

pub and_second : (a b : Bool) → (a && b) ≡ true → b ≡ true
and_second true b e = e
and_second false b e = cc

pub and_no : (a b : Bool) → b ≡ false → (a && b) ≡ false
and_no true b e = e
and_no false b e = refl

empty_least : (cs : List ℕ) → is_lt (text_cmp cs []) ≡ false
empty_least [] = refl
empty_least (c ∷ cs) = refl

-- a text with a greater first byte is not below the end
pub past_end : (c b : ℕ) (cs bs : List ℕ) → nat_lt c 256 ≡ true → nat_cmp c b ≡ Greater → under text_cmp (prefix_end (b ∷ bs)) (c ∷ cs) ≡ false
past_end c b cs bs l e = by (prefix_end bs)
  where
    then_not : (o p : Ordering) → is_lt o ≡ false → is_lt p ≡ false → is_lt (ordering_then o p) ≡ false
    then_not Less p f g = f
    then_not Equal p f g = g
    then_not Greater p f g = refl

    last : (v : Bool) → nat_lt b 255 ≡ v → under text_cmp (cond v (Some ((b + 1) ∷ [])) None) (c ∷ cs) ≡ false
    last true f = then_not (nat_cmp c (b + 1)) (text_cmp cs []) (nat_cmp_above c b e) (empty_least cs)
    last false f = absurd (nat_top c b l f e)

    by : (o : Option (List ℕ)) → under text_cmp (raised b o) (c ∷ cs) ≡ false
    by (Some t) = ap (λ o. is_lt (ordering_then o (text_cmp cs t))) e
    by None = last (nat_lt b 255) refl

-- behind the same first byte, what follows decides
pub same_end : (b : ℕ) (cs : List ℕ) (o : Option (List ℕ)) → under text_cmp (raised b o) (b ∷ cs) ≡ under text_cmp o cs
same_end b cs (Some t) = ap (λ o. is_lt (ordering_then o (text_cmp cs t))) (nat_cmp_self b)
same_end b cs None = by (nat_lt b 255)
  where
    by : (v : Bool) → under text_cmp (cond v (Some ((b + 1) ∷ [])) None) (b ∷ cs) ≡ true
    by true = ap (λ o. is_lt (ordering_then o (text_cmp cs []))) (nat_cmp_next b)
    by false = refl

pub between : (p x : List ℕ) → is_text x ≡ true → (is_ge (text_cmp x p) && under text_cmp (prefix_end p) x) ≡ starts_with nat_eq x p
between [] [] v = refl
between [] (c ∷ cs) v = refl
between (b ∷ bs) [] v = refl
between (b ∷ bs) (c ∷ cs) v = by (nat_cmp c b) refl (between bs cs (and_second (nat_lt c 256) (is_text cs) v))
  where
    by : (o : Ordering) → nat_cmp c b ≡ o → (is_ge (text_cmp cs bs) && under text_cmp (prefix_end bs) cs) ≡ starts_with nat_eq cs bs
        → (is_ge (ordering_then (nat_cmp c b) (text_cmp cs bs)) && under text_cmp (raised b (prefix_end bs)) (c ∷ cs)) ≡ (nat_eq b c && pointwise nat_eq bs (take (length bs) cs))
    by Less e more = ap (λ o. is_ge (ordering_then o (text_cmp cs bs)) && under text_cmp (raised b (prefix_end bs)) (c ∷ cs)) e
        ∙ sym (ap (λ v. v && pointwise nat_eq bs (take (length bs) cs)) (nat_below c b e))
    by Equal e more = let same : b ≡ c = sym (nat_same c b e) in
        subst (λ d. (is_ge (ordering_then (nat_cmp d b) (text_cmp cs bs)) && under text_cmp (raised b (prefix_end bs)) (d ∷ cs)) ≡ (nat_eq b d && pointwise nat_eq bs (take (length bs) cs))) same
        (ap (λ o. is_ge (ordering_then o (text_cmp cs bs)) && under text_cmp (raised b (prefix_end bs)) (b ∷ cs)) (nat_cmp_self b)
        ∙ ap (λ v. is_ge (text_cmp cs bs) && v) (same_end b cs (prefix_end bs)) ∙ more ∙ sym (ap (λ v. v && pointwise nat_eq bs (take (length bs) cs)) (nat_eq_self b)))
    by Greater e more = and_no (is_ge (ordering_then (nat_cmp c b) (text_cmp cs bs))) (under text_cmp (raised b (prefix_end bs)) (c ∷ cs)) (past_end c b cs bs (and_first (nat_lt c 256) (is_text cs) v) e)
        ∙ sym (ap (λ v. v && pointwise nat_eq bs (take (length bs) cs)) (nat_above c b e))

-- one more byte behind a prefix
pub end-snoc : (xs : List ℕ) (b : ℕ) → prefix_end (xs ++ (b ∷ [])) ≡ cond (nat_lt b 255) (Some (xs ++ ((b + 1) ∷ []))) (prefix_end xs)
end-snoc [] b = refl
end-snoc (x ∷ xs) b = ap (raised x) (end-snoc xs b) ∙ by (nat_lt b 255)
  where
    by : (v : Bool) → raised x (cond v (Some (xs ++ ((b + 1) ∷ []))) (prefix_end xs)) ≡ cond v (Some (x ∷ (xs ++ ((b + 1) ∷ [])))) (raised x (prefix_end xs))
    by true = refl
    by false = refl

front_and_last : (xs : List ℕ) (n : ℕ) → length xs ≡ suc n → xs ≡ take n xs ++ (get_or xs n 0 ∷ [])
front_and_last [] n e = absurd (omega arith)
front_and_last (x ∷ []) zero e = refl
front_and_last (x ∷ y ∷ ys) zero e = absurd (omega arith)
front_and_last (x ∷ xs) (suc n) e = ap (λ l. x ∷ l) (front_and_last xs n (omega arith))

by_last : (front : List ℕ) → 1 ≤ length front → prefix_end front ≡ cond (nat_lt (get_or front (length front - 1) 0) 255)
    (Some (take (length front - 1) front ++ ((get_or front (length front - 1) 0 + 1) ∷ []))) (prefix_end (take (length front - 1) front))
by_last front h = ap prefix_end (front_and_last front (length front - 1) (omega arith)) ∙ end-snoc (take (length front - 1) front) (get_or front (length front - 1) 0)

below_top : (n : ℕ) → n < 255 → nat_lt n 255 ≡ true
below_top n h = grind (arith, nat_tests)

at_top : (n : ℕ) → 255 ≤ n → nat_lt n 255 ≡ false
at_top n h = grind (arith, nat_tests)

-- the last byte is raised
pub raised_last : (front : List ℕ) → 1 ≤ length front → get_or front (length front - 1) 0 < 255
    → prefix_end front ≡ Some (take (length front - 1) front ++ ((get_or front (length front - 1) 0 + 1) ∷ []))
raised_last front h l = by_last front h ∙ ap (λ b. cond b (Some (take (length front - 1) front ++ ((get_or front (length front - 1) 0 + 1) ∷ []))) (prefix_end (take (length front - 1) front))) (below_top _ l)

-- the last byte is left out
pub dropped_last : (front : List ℕ) → 1 ≤ length front → 255 ≤ get_or front (length front - 1) 0 → prefix_end front ≡ prefix_end (take (length front - 1) front)
dropped_last front h l = by_last front h ∙ ap (λ b. cond b (Some (take (length front - 1) front ++ ((get_or front (length front - 1) 0 + 1) ∷ []))) (prefix_end (take (length front - 1) front))) (at_top _ l)

and_yes : (b : Bool) → b ≡ (b && true)
and_yes true = refl
and_yes false = refl

-- a prefix without an end
pub no_end : (p x : List ℕ) → is_text x ≡ true → prefix_end p ≡ None → is_ge (text_cmp x p) ≡ starts_with nat_eq x p
no_end p x v e = and_yes (is_ge (text_cmp x p)) ∙ ap (λ o. is_ge (text_cmp x p) && under text_cmp o x) (sym e) ∙ between p x v

-- a prefix with an end
pub some_end : (p x h : List ℕ) → is_text x ≡ true → prefix_end p ≡ Some h → (is_ge (text_cmp x p) && is_lt (text_cmp x h)) ≡ starts_with nat_eq x p
some_end p x h v e = ap (λ o. is_ge (text_cmp x p) && under text_cmp o x) (sym e) ∙ between p x v
