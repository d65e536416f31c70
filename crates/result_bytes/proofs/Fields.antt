-- The fields of a line, one after the other, as the writer gets them.
use Rattle.std.proofs.Common.{◌≡◌, ◌<◌, ℕ, suc, ◌==◌, List, [], ◌∷◌, ◌++◌, Bool, true, false, length, refl, sym, ap, ◌∙◌, append-nil, append_assoc, arith, map, take, get_or, add-one, ◌+◌, ◌≤◌}
use Rattle.std.proofs.lemmas.Bool.{eqb-true}
use Rattle.std.proofs.lemmas.Bool.Decides.{nat_tests}
use Rattle.std.proofs.lemmas.List.{length-map, length-take-le, map-append, take_all}
use Rattle.std.proofs.Math.Seq.{take-suc}
use Rattle.std.specs.Prelude.{if◌then◌else◌, cond}
use Rattle.csv.specs.Writing as csv
use Rattle.csv.specs.Writing.{escaped}
use Rattle.cite_schema.specs.Layout.{doubled, quoted, line_end, line}
use Rattle.result_bytes.specs.Writer.{all_quoted}

-- fields that stand behind another, each after a comma
abbrev pub further : List (List ℕ) → List ℕ
further [] = []
further (t ∷ ts) = 44 ∷ (quoted t ++ further ts)

-- the fields of a line, without the line feed
abbrev pub joined : List (List ℕ) → List ℕ
joined [] = []
joined (t ∷ ts) = quoted t ++ further ts

-- a field behind the others
further-push : (ts : List (List ℕ)) (t : List ℕ) → further (ts ++ t ∷ []) ≡ further ts ++ (44 ∷ quoted t)
further-push [] t = ap (λ r. 44 ∷ r) (append-nil (quoted t))
further-push (u ∷ us) t = ap (λ r. 44 ∷ r) (ap (λ r. quoted u ++ r) (further-push us t) ∙ sym (append_assoc (quoted u) (further us) (44 ∷ quoted t)))

not_first : (n : ℕ) → (suc n == 0) ≡ false
not_first n = grind (arith, nat_tests)

-- a field behind the others: a comma stands before it where it isn't the first
joined-push : (ts : List (List ℕ)) (t : List ℕ) → joined (ts ++ t ∷ []) ≡ joined ts ++ (csv.next_sep all_quoted (length ts) ++ quoted t)
joined-push [] t = append-nil (quoted t)
joined-push (u ∷ us) t =
    rw (not_first (length us))
    (ap (λ r. quoted u ++ r) (further-push us t) ∙ sym (append_assoc (quoted u) (further us) (44 ∷ quoted t)))

line_end-further : (ts : List (List ℕ)) → line_end ts ≡ further ts ++ (10 ∷ [])
line_end-further [] = refl
line_end-further (t ∷ ts) = ap (λ r. 44 ∷ r) (ap (λ r. quoted t ++ r) (line_end-further ts) ∙ sym (append_assoc (quoted t) (further ts) (10 ∷ [])))

-- a line is its fields and a line feed
pub line-joined : (ts : List (List ℕ)) → line ts ≡ joined ts ++ (10 ∷ [])
line-joined [] = refl
line-joined (t ∷ ts) = ap (λ r. quoted t ++ r) (line_end-further ts) ∙ sym (append_assoc (quoted t) (further ts) (10 ∷ []))

-- csv escapes a byte as it is doubled here
one : (b : ℕ) (rest more : List ℕ) (t : Bool) → (t ≡ true → b ≡ 34) → more ≡ rest → (if t then 34 ∷ b ∷ more else b ∷ more) ≡ cond t (34 ∷ 34 ∷ rest) (b ∷ rest)
one b rest more true h e = rw (h refl, e) refl
one b rest more false h e = rw e refl

escaped-doubled : (text : List ℕ) → escaped all_quoted text ≡ doubled text
unfolding escaped
escaped-doubled [] = refl
escaped-doubled (b ∷ rest) = one b (doubled rest) (escaped all_quoted rest) (b == 34) (λ e. eqb-true b 34 e) (escaped-doubled rest)

-- csv writes a field as the layout has it
pub field_text_quoted : (field : List ℕ) → csv.field_text all_quoted field ≡ quoted field
field_text_quoted field = ap (λ e. 34 ∷ (e ++ 34 ∷ [])) (escaped-doubled field)

-- the first fields of a line and one more
pub joined-more : {X : Type 0} (f : X → List ℕ) (xs : List X) (k : ℕ) (x : X) → k < length xs → x ≡ get_or xs k x → joined (map f (take (k + 1) xs)) ≡ joined (map f (take k xs)) ++ (csv.next_sep all_quoted k ++ quoted (f x))
joined-more f xs k x h e =
    let pushed : take (k + 1) xs ≡ take k xs ++ x ∷ [] = rw (add-one k) (take-suc xs k x h ∙ ap (λ y. take k xs ++ y ∷ []) (sym e)) in
    let taken : length (map f (take k xs)) ≡ k = length-map (take k xs) f ∙ length-take-le k xs (omega arith) in
    ap (λ ys. joined (map f ys)) pushed
    ∙ ap joined (map-append f (take k xs) (x ∷ []))
    ∙ joined-push (map f (take k xs)) (f x)
    ∙ ap (λ n. joined (map f (take k xs)) ++ (csv.next_sep all_quoted n ++ quoted (f x))) taken

-- all the fields of a line and a line feed
pub all-joined : {X : Type 0} (f : X → List ℕ) (xs : List X) (k : ℕ) → length xs ≤ k → line (map f xs) ≡ joined (map f (take k xs)) ++ (10 ∷ [])
all-joined f xs k past = line-joined (map f xs) ∙ ap (λ ys. joined (map f ys) ++ (10 ∷ [])) (sym (take_all k xs past))

-- what was written before the fields of a line, with one more field written
pub one_more : (before old new fields fields' last : List ℕ) → old ≡ before ++ fields → new ≡ old ++ last → fields' ≡ fields ++ last → new ≡ before ++ fields'
one_more before old new fields fields' last had wrote more =
    wrote ∙ ap (λ w. w ++ last) had ∙ append_assoc before fields last ∙ ap (λ w. before ++ w) (sym more)
