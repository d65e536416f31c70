-- A line, and lines one after another, can be read in one way alone.
use Rattle.std.proofs.Common.{◌≡◌, ◌≢◌, ℕ, Bool, true, false, cond, nat_eq, List, [], ◌∷◌, ◌++◌, refl, sym, ap, ◌∙◌, append_assoc}
use Rattle.std.proofs.Common.{arith}
use Rattle.std.proofs.lemmas.Bool.Decides.{nat_tests}
use Rattle.cite_schema.specs.Layout.{doubled, quoted, line_end, line}

heads : {X : Type 0} (a b : X) (x y : List X) → a ∷ x ≡ b ∷ y → a ≡ b
heads a b x y e = cc

behind : {X : Type 0} (a b : X) (x y : List X) → a ∷ x ≡ b ∷ y → x ≡ y
behind a b x y e = cc

nat_eq_yes : (a b : ℕ) → nat_eq a b ≡ true → a ≡ b
nat_eq_yes a b h = grind (arith, nat_tests)

nat_eq_no : (a b : ℕ) → nat_eq a b ≡ false → a ≢ b
nat_eq_no a b h e = grind (arith, nat_tests)

-- a quoted field ends where a quote is not followed by one
pub doubled_split : (t u : List ℕ) (c d : ℕ) (x y : List ℕ) → c ≢ 34 → d ≢ 34 → doubled t ++ (34 ∷ c ∷ x) ≡ doubled u ++ (34 ∷ d ∷ y) → (t ≡ u) × (c ∷ x ≡ d ∷ y)
doubled_split [] [] c d x y p q e = (refl, behind _ _ _ _ e)
doubled_split [] (b ∷ bs) c d x y p q e = by (nat_eq b 34) refl e
  where
    by : (v : Bool) → nat_eq b 34 ≡ v → 34 ∷ c ∷ x ≡ cond v (34 ∷ 34 ∷ doubled bs) (b ∷ doubled bs) ++ (34 ∷ d ∷ y) → ([] ≡ b ∷ bs) × (c ∷ x ≡ d ∷ y)
    by true n h = absurd (p (heads _ _ _ _ (behind _ _ _ _ h)))
    by false n h = absurd (nat_eq_no b 34 n (sym (heads _ _ _ _ h)))
doubled_split (a ∷ as') [] c d x y p q e = by (nat_eq a 34) refl e
  where
    by : (v : Bool) → nat_eq a 34 ≡ v → cond v (34 ∷ 34 ∷ doubled as') (a ∷ doubled as') ++ (34 ∷ c ∷ x) ≡ 34 ∷ d ∷ y → (a ∷ as' ≡ []) × (c ∷ x ≡ d ∷ y)
    by true n h = absurd (q (sym (heads _ _ _ _ (behind _ _ _ _ h))))
    by false n h = absurd (nat_eq_no a 34 n (heads _ _ _ _ h))
doubled_split (a ∷ as') (b ∷ bs) c d x y p q e = by (nat_eq a 34) (nat_eq b 34) refl refl e (λ h. doubled_split as' bs c d x y p q h)
  where
    joined : a ≡ b → (as' ≡ bs) × (c ∷ x ≡ d ∷ y) → (a ∷ as' ≡ b ∷ bs) × (c ∷ x ≡ d ∷ y)
    joined h r = (ap (λ z. z ∷ as') h ∙ ap (λ zs. b ∷ zs) r.0, r.1)

    by : (v w : Bool) → nat_eq a 34 ≡ v → nat_eq b 34 ≡ w
        → cond v (34 ∷ 34 ∷ doubled as') (a ∷ doubled as') ++ (34 ∷ c ∷ x) ≡ cond w (34 ∷ 34 ∷ doubled bs) (b ∷ doubled bs) ++ (34 ∷ d ∷ y)
        → (doubled as' ++ (34 ∷ c ∷ x) ≡ doubled bs ++ (34 ∷ d ∷ y) → (as' ≡ bs) × (c ∷ x ≡ d ∷ y)) → (a ∷ as' ≡ b ∷ bs) × (c ∷ x ≡ d ∷ y)
    by true true m n h more = joined (nat_eq_yes a 34 m ∙ sym (nat_eq_yes b 34 n)) (more (behind _ _ _ _ (behind _ _ _ _ h)))
    by true false m n h more = absurd (nat_eq_no b 34 n (sym (heads _ _ _ _ h)))
    by false true m n h more = absurd (nat_eq_no a 34 m (heads _ _ _ _ h))
    by false false m n h more = joined (heads _ _ _ _ h) (more (behind _ _ _ _ h))

-- the first byte behind a field, and what follows it
first_behind : List (List ℕ) → ℕ
first_behind [] = 10
first_behind (t ∷ ts) = 44

more_behind : List (List ℕ) → List ℕ
more_behind [] = []
more_behind (t ∷ ts) = quoted t ++ line_end ts

no_quote : (ts : List (List ℕ)) → first_behind ts ≢ 34
unfolding first_behind
no_quote [] e = omega arith
no_quote (t ∷ ts) e = omega arith

line_end_is : (ts : List (List ℕ)) → line_end ts ≡ first_behind ts ∷ more_behind ts
unfolding first_behind more_behind
line_end_is [] = refl
line_end_is (t ∷ ts) = refl

-- `quoted t ++ line_end ts ++ x`, laid out for `doubled_split`
regroup : (t : List ℕ) (ts : List (List ℕ)) (x : List ℕ) → (quoted t ++ line_end ts) ++ x ≡ 34 ∷ (doubled t ++ (34 ∷ first_behind ts ∷ (more_behind ts ++ x)))
regroup t ts x = ap (λ l. (quoted t ++ l) ++ x) (line_end_is ts) ∙ simp append_assoc

apart : ◌≡◌ {A = ℕ} 10 44 → ⊥
apart h = omega arith

pub ends_split : (ts us : List (List ℕ)) (x y : List ℕ) → line_end ts ++ x ≡ line_end us ++ y → (ts ≡ us) × (x ≡ y)
ends_split [] [] x y e = (refl, behind _ _ _ _ e)
ends_split [] (u ∷ us) x y e = absurd (apart (heads _ _ _ _ e))
ends_split (t ∷ ts) [] x y e = absurd (apart (sym (heads _ _ _ _ e)))
ends_split (t ∷ ts) (u ∷ us) x y e =
    let whole = sym (regroup t ts x) ∙ behind _ _ _ _ e ∙ regroup u us y in
    let parts = doubled_split t u (first_behind ts) (first_behind us) (more_behind ts ++ x) (more_behind us ++ y) (no_quote ts) (no_quote us) (behind _ _ _ _ whole) in
    let rest = ends_split ts us x y (ap (λ l. l ++ x) (line_end_is ts) ∙ parts.1 ∙ sym (ap (λ l. l ++ y) (line_end_is us))) in
    (ap (λ l. l ∷ ts) parts.0 ∙ ap (λ l. u ∷ l) rest.0, rest.1)

pub lines_split : (t u : List ℕ) (ts us : List (List ℕ)) (x y : List ℕ) → line (t ∷ ts) ++ x ≡ line (u ∷ us) ++ y → (t ∷ ts ≡ u ∷ us) × (x ≡ y)
lines_split t u ts us x y e = ends_split (t ∷ ts) (u ∷ us) x y (ap (λ l. 44 ∷ l) e)
