-- The words between commas, byte by byte.
use Rattle.std.proofs.Common.{◌≡◌, ℕ, ◌+◌, ◌<◌, ◌≤◌, List, [], ◌∷◌, ◌++◌, length, get_or, drop, take, Option, Some, None, Bool, true, false, if◌then◌else◌, ◌==◌, refl, sym, ap, ◌∙◌, arith, reverse, Bor, ◌-◌, is_some, map}
use Rattle.std.proofs.lemmas.List.{drop_more, take_more, reverse-append, reverse-reverse}
use Rattle.httparse.specs.Grammar.{skip_ows, is_ows}
use Rattle.std.specs.Str.{str_eq_ignore_ascii_case}
use Rattle.httparse.specs.Spans.{header_bytes}
use Rattle.httparse.specs.declared.spans.HeaderSpan.{HeaderSpan}
use Rattle.cite_http.specs.Parts.{parts, grown}
use Rattle.cite_http.specs.Fields.{body_length, values_named}

-- w stands before the first part
abbrev pub glued : List ℕ → List (List ℕ) → List (List ℕ)
glued w [] = w ∷ []
glued w (p ∷ ps) = (w ++ p) ∷ ps

glued-nil : (ps : List (List ℕ)) (p : List ℕ) (qs : List (List ℕ)) → ps ≡ p ∷ qs → glued [] ps ≡ ps
glued-nil [] p qs e = absurd (cc)
glued-nil (x ∷ ps) p qs e = refl

some_part : (c : ℕ) (v : List ℕ) → (p : List ℕ) × (qs : List (List ℕ)) × (parts c v ≡ p ∷ qs)
some_part c [] = ([], [], refl)
some_part c (b ∷ rest) = at (b == c) (parts c rest)
  where
    grows : (b : ℕ) (ps : List (List ℕ)) → (p : List ℕ) × (qs : List (List ℕ)) × (grown b ps ≡ p ∷ qs)
    grows b [] = (b ∷ [], [], refl)
    grows b (w ∷ ws) = (b ∷ w, ws, refl)

    at : (t : Bool) (ps : List (List ℕ)) → (p : List ℕ) × (qs : List (List ℕ)) × ((if t then [] ∷ ps else grown b ps) ≡ p ∷ qs)
    at true ps = ([], ps, refl)
    at false ps = grows b ps

pub glued-all : (c : ℕ) (v : List ℕ) → glued [] (parts c v) ≡ parts c v
glued-all c v = let s = some_part c v in glued-nil (parts c v) s.0 s.1 s.2

-- how many bytes are left, and one more
abbrev pub size_left : Option (Bor (List ℕ)) → ℕ
size_left None = 0
size_left (Some text) = length text.now + 1

-- the value that was found, before those that come
abbrev pub found_values : Option (Bor (List ℕ)) → List (List ℕ) → List (List ℕ)
found_values None vs = vs
found_values (Some v) vs = v.now ∷ vs

take_last : (t : List ℕ) (m : ℕ) → m < length t → reverse (take (m + 1) t) ≡ get_or t m 0 ∷ reverse (take m t)
take_last t m h = rw (take_more t m 0 h, reverse-append) refl

pub back_more : (t : List ℕ) (n : ℕ) → 0 < n → n ≤ length t → is_ows (get_or t (n - 1) 0) ≡ true → skip_ows (reverse (take (n - 1) t)) ≡ skip_ows (reverse (take n t))
back_more t n p h e =
    let m : n ≡ n - 1 + 1 = omega arith in
    let lt : n - 1 < length t = omega arith in
    ap (λ (c : Bool). if c then skip_ows (reverse (take (n - 1) t)) else get_or t (n - 1) 0 ∷ reverse (take (n - 1) t)) (sym e)
    ∙ ap skip_ows (sym (take_last t (n - 1) lt)) ∙ ap (λ k. skip_ows (reverse (take k t))) (sym m)

pub back_stops : (t : List ℕ) (n : ℕ) → 0 < n → n ≤ length t → is_ows (get_or t (n - 1) 0) ≡ false → take n t ≡ reverse (skip_ows (reverse (take n t)))
back_stops t n p h e =
    let m : n - 1 + 1 ≡ n = omega arith in
    let lt : n - 1 < length t = omega arith in
    let r : reverse (take n t) ≡ get_or t (n - 1) 0 ∷ reverse (take (n - 1) t) = ap (λ k. reverse (take k t)) (sym m) ∙ take_last t (n - 1) lt in
    let s : skip_ows (reverse (take n t)) ≡ reverse (take n t) =
    ap skip_ows r ∙ ap (λ (c : Bool). if c then skip_ows (reverse (take (n - 1) t)) else get_or t (n - 1) 0 ∷ reverse (take (n - 1) t)) e ∙ sym r in
    sym (ap reverse s ∙ reverse-reverse (take n t))

pub found_two : (o : Option (Bor (List ℕ))) (v : List ℕ) (vs : List (List ℕ)) → true ≡ is_some o → None ≡ body_length (found_values o (v ∷ vs))
found_two None v vs e = absurd (cc)
found_two (Some w) v vs e = refl

pub found_one : (o : Option (Bor (List ℕ))) (w : Bor (List ℕ)) (vs : List (List ℕ)) → false ≡ is_some o → body_length (found_values (Some w) vs) ≡ body_length (found_values o (w.now ∷ vs))
found_one None w vs e = refl
found_one (Some x) w vs e = absurd (cc)

-- one field further, which has the name or not
pub values_further : (name head : List ℕ) (fs : List HeaderSpan) (i : ℕ) (d : HeaderSpan) (b : Bool) → i < length fs → str_eq_ignore_ascii_case (header_bytes head (get_or fs i d)).0 name ≡ b
    → values_named name (map (header_bytes head) (drop i fs)) ≡ (if b then (header_bytes head (get_or fs i d)).1 ∷ values_named name (map (header_bytes head) (drop (i + 1) fs)) else values_named name (map (header_bytes head) (drop (i + 1) fs)))
values_further name head fs i d b h e =
    ap (λ xs. values_named name (map (header_bytes head) xs)) (drop_more fs i d h)
    ∙ ap (λ (c : Bool). if c then (header_bytes head (get_or fs i d)).1 ∷ values_named name (map (header_bytes head) (drop (i + 1) fs)) else values_named name (map (header_bytes head) (drop (i + 1) fs))) e
