-- A walk over rows, told by the parts of the path between slashes.
use Rattle.std.proofs.Common.{◌≡◌, ◌≢◌, ℕ, suc, ◌+◌, ◌-◌, ◌<◌, ◌==◌, List, [], ◌∷◌, ◌++◌, length, drop, take, Option, Some, None, Bool, true, false, cond, if◌then◌else◌, refl, sym, ap, ◌∙◌, subst, arith, ltb, ◌&&◌, nat_eq, length-append, append-nil, ◌⊎◌, inl, inr}
use Rattle.std.proofs.lemmas.Bool.Decides.{nat_tests, Decides-eqb}
use Rattle.std.proofs.lemmas.List.{drop_at}
use Rattle.std.proofs.lemmas.Slice.Eq.{ends_is}
use Rattle.std.specs.List.{ends_with}
use Rattle.matchit.specs.Rows.{Rows, Seen, prepend, ends, rows_of}
use Rattle.matchit.specs.Seek.{own, step, or_else, seek, first, param_step, after_param, segment, has_slash, cuts, longest_from, longest_suffix}
use Rattle.matchit.specs.Level.{IsText, AreSuffixes, AllSegment}
use Rattle.matchit.proofs.SeekLemmas.{own-append, own-prepend, step-append, step-hit, step-miss, prepend-nil, seek-lit, seek-empty, or_else-none, param_step-empty}
use Rattle.matchit.proofs.ParamLemmas.{after_param-end, after_param-stop, after_param-kid}
use Rattle.cite_http.specs.Parts.{parts, grown}
use Rattle.cite_http.specs.RouterRows.{param}

-- what a walk answers, by the parts of its path
abbrev pub Answer : Type 0
Answer = List (List ℕ) → Option ℕ

abbrev pub Tells : Rows → Answer → Type 0
Tells rs g = (q : List ℕ) → IsText q → first rs q ≡ g (parts 47 q)

abbrev pub at_end : ℕ → Answer
at_end k [] = None
at_end k ([] ∷ []) = Some k
at_end k ([] ∷ b ∷ ss) = None
at_end k ((y ∷ a) ∷ ss) = None

abbrev pub at_slash : Answer → Answer
at_slash g [] = None
at_slash g ([] ∷ []) = None
at_slash g ([] ∷ b ∷ ss) = g (b ∷ ss)
at_slash g ((y ∷ a) ∷ ss) = None

abbrev pub at_byte : ℕ → Answer → Answer
at_byte x g [] = None
at_byte x g ([] ∷ ss) = None
at_byte x g ((y ∷ a) ∷ ss) = cond (x == y) (g (a ∷ ss)) None

-- a path has a part in front
pub some_part : (c : ℕ) (v : List ℕ) → (p : List ℕ) × (qs : List (List ℕ)) × (parts c v ≡ p ∷ qs)
some_part c [] = ([], [], refl)
some_part c (b ∷ rest) = at (b == c) (parts c rest)
  where
    grows : (b : ℕ) (ps : List (List ℕ)) → (p : List ℕ) × (qs : List (List ℕ)) × (grown b ps ≡ p ∷ qs)
    grows b [] = (b ∷ [], [], refl)
    grows b (w ∷ ws) = (b ∷ w, ws, refl)

    at : (t : Bool) (ps : List (List ℕ)) → (p : List ℕ) × (qs : List (List ℕ)) × ((if t then [] ∷ ps else grown b ps) ≡ p ∷ qs)
    at true ps = ([], ps, refl)
    at false ps = grows b ps

one_step : (x y : ℕ) (T : Rows) (p : List ℕ) → x < 256 → first (prepend (x ∷ []) T) (y ∷ p) ≡ cond (x == y) (first T p) None
one_step x y T p h = seek-lit x [] T y p h ∙ by (x == y) refl
  where
    by : (v : Bool) → (x == y) ≡ v → seek 0 (step y (prepend (x ∷ []) T)) p ≡ cond v (first T p) None
    by true e =
        let xy : x ≡ y = grind (arith, nat_tests) in
        rw (← xy, step-hit x [] T, prepend-nil T) refl
    by false e =
        let n : x ≢ y = λ q. grind (arith, nat_tests) in
        rw (step-miss y x [] T n) (seek-empty 0 p)

pub tells_slash : (T : Rows) (g : Answer) → Tells T g → Tells (prepend (47 ∷ []) T) (at_slash g)
unfolding seek
tells_slash T g t [] h = own-prepend 47 [] T
tells_slash T g t (y ∷ p) h = one_step 47 y T p (omega arith) ∙ by (y == 47) refl (parts 47 p) (some_part 47 p) (t p h.1)
  where
    by : (v : Bool) → (y == 47) ≡ v → (ps : List (List ℕ)) → ((a : List ℕ) × (qs : List (List ℕ)) × (ps ≡ a ∷ qs)) → first T p ≡ g ps
        → cond (47 == y) (first T p) None ≡ at_slash g (if v then [] ∷ ps else grown y ps)
    by v e [] s f = absurd (let z : [] ≡ s.0 ∷ s.1 = s.2 in cc)
    by true e (a ∷ qs) s f = let z : (47 == y) ≡ true = grind (arith, nat_tests) in rw z f
    by false e (a ∷ qs) s f = let z : (47 == y) ≡ false = grind (arith, nat_tests) in rw z refl

pub tells_byte : (x : ℕ) (T : Rows) (g : Answer) → x < 256 → (x == 47) ≡ false → Tells T g → Tells (prepend (x ∷ []) T) (at_byte x g)
unfolding seek
tells_byte x T g l n t [] h = own-prepend x [] T
tells_byte x T g l n t (y ∷ p) h = one_step x y T p l ∙ by (y == 47) refl (parts 47 p) (some_part 47 p) (t p h.1)
  where
    by : (v : Bool) → (y == 47) ≡ v → (ps : List (List ℕ)) → ((a : List ℕ) × (qs : List (List ℕ)) × (ps ≡ a ∷ qs)) → first T p ≡ g ps
        → cond (x == y) (first T p) None ≡ at_byte x g (if v then [] ∷ ps else grown y ps)
    by v e [] s f = absurd (let z : [] ≡ s.0 ∷ s.1 = s.2 in cc)
    by true e (a ∷ qs) s f = let z : (x == y) ≡ false = grind (arith, nat_tests) in rw z refl
    by false e (a ∷ qs) s f = ap (λ o. cond (x == y) o None) f

end_stays : (k y : ℕ) (p : List ℕ) → first (ends (Some k)) (y ∷ p) ≡ None
unfolding seek
end_stays k y p = simp (seek-empty 0 p, param_step-empty (y ∷ p), seek-empty ((param_step {K = ℕ} [] (y ∷ p)).0 - 1) p)

pub tells_end : (k : ℕ) → Tells (ends (Some k)) (at_end k)
unfolding seek
tells_end k [] h = refl
tells_end k (y ∷ p) h = end_stays k y p ∙ by (y == 47) (parts 47 p) (some_part 47 p)
  where
    by : (v : Bool) (ps : List (List ℕ)) → ((a : List ℕ) × (qs : List (List ℕ)) × (ps ≡ a ∷ qs)) → None ≡ at_end k (if v then [] ∷ ps else grown y ps)
    by v [] s = absurd (let z : [] ≡ s.0 ∷ s.1 = s.2 in cc)
    by true (a ∷ qs) s = refl
    by false (a ∷ qs) s = refl

pub tells_none : Tells [] (λ ss. None)
tells_none q h = seek-empty 0 q

-- no row begins with a parameter
quiet : (R : Rows) (y : ℕ) (p : List ℕ) → step 256 R ≡ [] → step 257 R ≡ [] → first R (y ∷ p) ≡ seek 0 (step y R) p
unfolding seek
quiet R y p s t = rw (s, t) (simp (param_step-empty (y ∷ p), seek-empty ((param_step {K = ℕ} [] (y ∷ p)).0 - 1) p, or_else-none))

none_both : (b : ℕ) (A Y : Rows) → step b A ≡ [] → step b Y ≡ [] → step b (A ++ Y) ≡ []
none_both b A Y a y = step-append b A Y ∙ rw (a, y) refl

-- rows that begin with a byte, and rows of which none begins so
pub tells_either : (x : ℕ) (T Y : Rows) (g k : Answer) → x < 256 → step x Y ≡ [] → step 256 Y ≡ [] → step 257 Y ≡ []
    → Tells (prepend (x ∷ []) T) g → Tells Y k → Tells (prepend (x ∷ []) T ++ Y) (λ ss. or_else (g ss) (k ss))
unfolding seek
tells_either x T Y g k l e s t a b [] h = own-append (prepend (x ∷ []) T) Y ∙ ap (λ o. or_else o (own Y)) (a [] h) ∙ ap (or_else (g (parts 47 []))) (b [] h)
tells_either x T Y g k l e s t a b (y ∷ p) h =
    quiet (prepend (x ∷ []) T ++ Y) y p (none_both 256 (prepend (x ∷ []) T) Y (step-miss 256 x [] T (λ z. omega arith)) s) (none_both 257 (prepend (x ∷ []) T) Y (step-miss 257 x [] T (λ z. omega arith)) t)
    ∙ ap (λ r. seek 0 r p) (step-append y (prepend (x ∷ []) T) Y)
    ∙ by (x == y) refl
    ∙ ap (λ o. or_else o (first Y (y ∷ p))) (a (y ∷ p) h) ∙ ap (or_else (g (parts 47 (y ∷ p)))) (b (y ∷ p) h)
  where
    A : first (prepend (x ∷ []) T) (y ∷ p) ≡ seek 0 (step y (prepend (x ∷ []) T)) p
    A = seek-lit x [] T y p l

    B : first Y (y ∷ p) ≡ seek 0 (step y Y) p
    B = quiet Y y p s t

    by : (v : Bool) → (x == y) ≡ v → seek 0 (step y (prepend (x ∷ []) T) ++ step y Y) p ≡ or_else (first (prepend (x ∷ []) T) (y ∷ p)) (first Y (y ∷ p))
    by true q =
        let xy : x ≡ y = grind (arith, nat_tests) in
        let z : step y Y ≡ [] = rw (← xy) e in
        rw (A, B, z, append-nil) (sym (ap (or_else (seek 0 (step y (prepend (x ∷ []) T)) p)) (seek-empty 0 p) ∙ or_else-none _))
    by false q =
        let n : x ≢ y = λ z. grind (arith, nat_tests) in
        let z : step y (prepend (x ∷ []) T) ≡ [] = step-miss y x [] T n in
        rw (A, B, z) (sym (ap (λ o. or_else o (seek 0 (step y Y) p)) (seek-empty 0 p)))

-- a parameter in front: what follows behind the next slash, or the end
abbrev pub at_param : Option ℕ → Answer → Answer
at_param v g [] = None
at_param v g ([] ∷ ss) = None
at_param v g ((y ∷ a) ∷ []) = v
at_param v g ((y ∷ a) ∷ b ∷ ss) = g (b ∷ ss)

-- the first part of a text, with or without a slash behind it
pub record HasNoSlash (q : List ℕ) : Type 0 where
  pub slash : has_slash q ≡ false
  pub all : segment q ≡ q
  pub one : parts 47 q ≡ q ∷ []

pub record HasSlash (q : List ℕ) : Type 0 where
  pub front : List ℕ
  pub rest : List ℕ
  pub slash : has_slash q ≡ true
  pub upto : segment q ≡ front ++ 47 ∷ []
  pub cut : q ≡ front ++ 47 ∷ rest
  pub two : parts 47 q ≡ front ∷ parts 47 rest

front_part : (q : List ℕ) → HasNoSlash q ⊎ HasSlash q
front_part [] = inl (record { slash = refl; all = refl; one = refl })
front_part (y ∷ p) = by (y == 47) refl (front_part p)
  where
    by : (v : Bool) → (y == 47) ≡ v → (HasNoSlash p ⊎ HasSlash p) → HasNoSlash (y ∷ p) ⊎ HasSlash (y ∷ p)
    by true e f = let z : y ≡ 47 = grind (arith, nat_tests) in inr (record { front = []; rest = p; slash = rw e refl; upto = rw (e, z) refl; cut = rw z refl; two = rw e refl })
    by false e (inl n) = inl (record { slash = rw e n.slash; all = rw e (ap (λ t. y ∷ t) n.all); one = rw e (ap (grown y) n.one) })
    by false e (inr h) = inr (record { front = y ∷ h.front; rest = h.rest; slash = rw e h.slash; upto = rw e (ap (λ t. y ∷ t) h.upto); cut = ap (λ t. y ∷ t) h.cut; two = rw e (ap (grown y) h.two) })

true_or : (v b : Bool) → b ≡ true → cond v true b ≡ true
true_or true b e = refl
true_or false b e = e

slash_last : (a : List ℕ) → has_slash (a ++ 47 ∷ []) ≡ true
slash_last [] = refl
slash_last (y ∷ a) = true_or (y == 47) (has_slash (a ++ 47 ∷ [])) (slash_last a)

ends_in_slash : (q : List ℕ) → ends_with nat_eq q (47 ∷ []) ≡ true → has_slash q ≡ true
ends_in_slash q e =
    let s : q ≡ take (length q - 1) q ++ 47 ∷ [] = (ends_is Decides-eqb q (47 ∷ []) true (sym e)).0 refl in
    let P : List ℕ → Type 0 = λ t. has_slash t ≡ true in
    subst P (sym s) (slash_last (take (length q - 1) q))

slash_ends : (a : List ℕ) → ends_with nat_eq (a ++ 47 ∷ []) (47 ∷ []) ≡ true
slash_ends a = (ends_is Decides-eqb (a ++ 47 ∷ []) (47 ∷ []) (ends_with nat_eq (a ++ 47 ∷ []) (47 ∷ [])) refl).1 a refl

no_cut : (q : List ℕ) → has_slash q ≡ false → cuts q (47 ∷ []) ≡ false
no_cut q n = by (ends_with nat_eq q (47 ∷ [])) refl (ltb 1 (length q))
  where
    by : (v : Bool) → ends_with nat_eq q (47 ∷ []) ≡ v → (u : Bool) → (u && v) ≡ false
    by true e u = absurd (let t : has_slash q ≡ true = ends_in_slash q e in cc)
    by false e true = refl
    by false e false = refl

-- the longest suffix, where each row goes on with a slash
longest_kept : (seg : List ℕ) (T : Rows) → longest_from seg (47 ∷ []) (prepend (47 ∷ []) T) ≡ 47 ∷ []
longest_kept seg [] = refl
longest_kept seg ((t, k) ∷ T) = longest_kept seg T

longest_slash : (seg : List ℕ) (T : Rows) (t : List ℕ) (k : ℕ) (v : Bool) → cuts seg (47 ∷ []) ≡ v → longest_suffix seg (prepend (47 ∷ []) ((t, k) ∷ T)) ≡ cond v (47 ∷ []) []
longest_slash seg T t k true e = ap (λ b. longest_from seg (cond b (47 ∷ []) []) (prepend (47 ∷ []) T)) e ∙ longest_kept seg T
longest_slash seg [] t k false e = ap (λ b. longest_from {K = ℕ} seg (cond b (47 ∷ []) []) []) e
longest_slash seg ((u, l) ∷ T) t k false e = ap (λ b. longest_from seg (cond b (47 ∷ []) []) (prepend (47 ∷ []) ((u, l) ∷ T))) e ∙ longest_slash seg T u l false e

all_slash : (T : Rows) → AllSegment (47 ∷ []) (prepend (47 ∷ []) T)
all_slash [] = tt
all_slash ((t, k) ∷ T) = (refl, all_slash T)

abbrev kid : Rows → Seen
kid T = record { prefix = 47 ∷ []; tails = T; height = 0 }

walk_param : (R : Rows) (y : ℕ) (p : List ℕ) → y < 256 → first (prepend (256 ∷ []) R) (y ∷ p) ≡ after_param R (y ∷ p)
unfolding seek
walk_param R y p h =
    rw (step-miss y 256 [] R (λ z. omega arith), step-hit 256 [] R, prepend-nil R, step-miss 257 256 [] R (λ z. omega arith))
    (ap (λ o. or_else o (or_else (seek ((param_step R (y ∷ p)).0 - 1) (param_step R (y ∷ p)).1 p) None)) (seek-empty 0 p) ∙ or_else-none _)

-- the parts of a text without its first byte's test
param_one : (v : Option ℕ) (g : Answer) (y : ℕ) (p : List ℕ) → parts 47 (y ∷ p) ≡ (y ∷ p) ∷ [] → v ≡ at_param v g (parts 47 (y ∷ p))
param_one v g y p e = sym (ap (at_param v g) e)

param_none : (v : Option ℕ) (g : Answer) (q a : List ℕ) (ps : List (List ℕ)) → a ≡ [] → parts 47 q ≡ a ∷ ps → None ≡ at_param v g (parts 47 q)
param_none v g q a ps z e = sym (ap (at_param v g) (e ∙ ap (λ b. b ∷ ps) z))

param_goes : (v o : Option ℕ) (g : Answer) (q : List ℕ) (c : ℕ) (a : List ℕ) (ps : List (List ℕ)) → ((b : List ℕ) × (qs : List (List ℕ)) × (ps ≡ b ∷ qs)) → parts 47 q ≡ (c ∷ a) ∷ ps → o ≡ g ps → o ≡ at_param v g (parts 47 q)
param_goes v o g q c a [] s e f = absurd (let z : [] ≡ s.0 ∷ s.1 = s.2 in cc)
param_goes v o g q c a (b ∷ qs) s e f = f ∙ sym (ap (at_param v g) e)

text_rest : (a r : List ℕ) → IsText (a ++ 47 ∷ r) → IsText r
text_rest [] r h = h.1
text_rest (c ∷ a) r h = text_rest a r h.1

-- rows that go on behind a parameter
after_rows : (T : Rows) (v : Option ℕ) (g : Answer) (y : ℕ) (p : List ℕ) → Tells T g → IsText (y ∷ p) → after_param (prepend (47 ∷ []) T ++ ends v) (y ∷ p) ≡ at_param v g (parts 47 (y ∷ p))
after_rows [] v g y p t h = by (front_part (y ∷ p))
  where
    goes : (x : HasSlash (y ∷ p)) → (a : List ℕ) → a ≡ x.front → None ≡ at_param v g (parts 47 (y ∷ p))
    goes x [] e = param_none v g (y ∷ p) x.front (parts 47 x.rest) (sym e) x.two
    goes x (c ∷ a) e =
        let i : IsText x.rest = text_rest x.front x.rest (let P : List ℕ → Type 0 = λ q. IsText q in subst P x.cut h) in
        param_goes v None g (y ∷ p) c a (parts 47 x.rest) (some_part 47 x.rest) (x.two ∙ ap (λ b. b ∷ parts 47 x.rest) (sym e)) (sym (seek-empty 0 x.rest) ∙ t x.rest i)

    by : (HasNoSlash (y ∷ p) ⊎ HasSlash (y ∷ p)) → after_param (ends v) (y ∷ p) ≡ at_param v g (parts 47 (y ∷ p))
    by (inl n) = after_param-end [] v y p tt refl n.slash ∙ param_one v g y p n.one
    by (inr x) = after_param-stop [] v y p refl x.slash ∙ goes x x.front refl
after_rows ((u, k) ∷ T) v g y p t h = ap (λ r. after_param (r ++ ends v) (y ∷ p)) (sym (append-nil (prepend (47 ∷ []) ((u, k) ∷ T)))) ∙ by (front_part (y ∷ p))
  where
    R : Rows
    R = (u, k) ∷ T

    suffixed : AreSuffixes (kid R ∷ [])
    suffixed = (record { some_prefix = omega arith; some_rows = omega arith; all_segment = all_slash R }, tt, tt)

    longest : (b : Bool) → cuts (segment (y ∷ p)) (47 ∷ []) ≡ b → longest_suffix (segment (y ∷ p)) (prepend (47 ∷ []) R ++ []) ≡ cond b (47 ∷ []) []
    longest b e = ap (longest_suffix (segment (y ∷ p))) (append-nil (prepend (47 ∷ []) R)) ∙ longest_slash (segment (y ∷ p)) T u k b e

    goes : (x : HasSlash (y ∷ p)) → (a : List ℕ) → a ≡ x.front → after_param (rows_of (kid R ∷ []) ++ ends v) (y ∷ p) ≡ at_param v g (parts 47 (y ∷ p))
    goes x [] e =
        let c : cuts (segment (y ∷ p)) (47 ∷ []) ≡ false = rw (x.upto, ← e) refl in
        after_param-stop (kid R ∷ []) v y p (longest false c) x.slash ∙ param_none v g (y ∷ p) x.front (parts 47 x.rest) (sym e) x.two
    goes x (d ∷ a) e =
        let i : IsText x.rest = text_rest x.front x.rest (let P : List ℕ → Type 0 = λ q. IsText q in subst P x.cut h) in
        let s : ends_with nat_eq (segment (y ∷ p)) (47 ∷ []) ≡ true = rw x.upto (slash_ends x.front) in
        let m : length (segment (y ∷ p)) ≡ length x.front + 1 = ap length x.upto ∙ length-append x.front (47 ∷ []) in
        let z : length x.front ≡ suc (length a) = ap length (sym e) in
        let l : ltb 1 (length (segment (y ∷ p))) ≡ true = grind (arith, nat_tests) in
        let c : cuts (segment (y ∷ p)) (47 ∷ []) ≡ true = rw (l, s) refl in
        let j : length (segment (y ∷ p)) - 1 ≡ length x.front = omega arith in
        let w : drop (length (segment (y ∷ p)) - 1) (y ∷ p) ≡ 47 ∷ x.rest = ap (λ n. drop n (y ∷ p)) j ∙ ap (drop (length x.front)) x.cut ∙ drop_at x.front (47 ∷ x.rest) (length x.front) refl in
        after_param-kid (kid R ∷ []) 0 (kid R) v y p suffixed (omega arith) (sym (longest true c))
        ∙ ap (first (prepend (47 ∷ []) R)) w ∙ one_step 47 47 R x.rest (omega arith)
        ∙ param_goes v (first R x.rest) g (y ∷ p) d a (parts 47 x.rest) (some_part 47 x.rest) (x.two ∙ ap (λ b. b ∷ parts 47 x.rest) (sym e)) (t x.rest i)

    by : (HasNoSlash (y ∷ p) ⊎ HasSlash (y ∷ p)) → after_param (rows_of (kid R ∷ []) ++ ends v) (y ∷ p) ≡ at_param v g (parts 47 (y ∷ p))
    by (inl n) =
        let c : cuts (segment (y ∷ p)) (47 ∷ []) ≡ false = rw n.all (no_cut (y ∷ p) n.slash) in
        after_param-end (kid R ∷ []) v y p suffixed (longest false c) n.slash ∙ param_one v g y p n.one
    by (inr x) = goes x x.front refl

pub tells_param : (T : Rows) (v : Option ℕ) (g : Answer) → Tells T g → Tells (param T v) (at_param v g)
unfolding seek
tells_param T v g t [] h = own-prepend 256 [] (prepend (47 ∷ []) T ++ ends v)
tells_param T v g t (y ∷ p) h = walk_param (prepend (47 ∷ []) T ++ ends v) y p h.0 ∙ after_rows T v g y p t h
