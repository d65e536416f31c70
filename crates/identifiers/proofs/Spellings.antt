-- How the spelling of a name is taken apart, and that it has one name.
use Rattle.std.proofs.Common.{◌≡◌, ◌<◌, ◌^◌, ℕ, List, [], ◌∷◌, ◌++◌, Option, Some, None, map, codes, decimal, length, drop, refl, sym, ap, ◌∙◌, subst, arith, append_assoc, inl, inr}
use Rattle.std.specs.Char.{to_ascii_lowercase}
use Rattle.std.specs.List.{AllByRecursion}
use Rattle.std.proofs.lemmas.List.{map-append}
use Rattle.std.proofs.lemmas.Fmt.{decimal_injective}
use Rattle.identifiers.specs.declared.named.Named.{Named}
use Rattle.identifiers.specs.declared.named.Named.TheVariants.{Superset, Subset}
use Rattle.identifiers.specs.Names.{suffix_of, name_of, IsNumbered, IsLead, IsSameText, IsSpelling, IsReading, ReadOnce, MintedIsRead, SupersetIsRead}
use Rattle.identifiers.specs.Parts.{IsReadBy, BeginsWith}
use Rattle.identifiers.proofs.Digits.{decimal_digits, digits_same, no_slash}

-- the front of a text, and what is behind it
fronts : (front more text : List ℕ) → IsSameText (front ++ more) text → BeginsWith front text × IsSameText more (drop (length front) text)
fronts [] more text e = (refl, e)
fronts (c ∷ front) more [] e = absurd (cc)
fronts (c ∷ front) more (d ∷ text) e =
    let head : to_ascii_lowercase c ≡ to_ascii_lowercase d = cc in
    let tail : map to_ascii_lowercase (front ++ more) ≡ map to_ascii_lowercase text = cc in
    let (begins, behind) = fronts front more text tail in
    (cc, behind)

joined : (front more text : List ℕ) → BeginsWith front text → IsSameText more (drop (length front) text) → IsSameText (front ++ more) text
joined [] more text begins behind = behind
joined (c ∷ front) more [] begins behind = absurd (cc)
joined (c ∷ front) more (d ∷ text) begins behind =
    let head : to_ascii_lowercase c ≡ to_ascii_lowercase d = cc in
    let tail : BeginsWith front text = cc in
    let more : IsSameText (front ++ more) text = joined front more text tail behind in
    cc

-- where a text does not begin with the front, nothing is read behind it
pub no_front : (text_of : Named → List ℕ) (front text : List ℕ) → (BeginsWith front text → ⊥) → IsReadBy (λ named. front ++ text_of named) text None
no_front text_of front text not named numbered same = not (fronts front (text_of named) text same).0

-- what is read behind a front
pub read_behind_front : (text_of : Named → List ℕ) (front text rest : List ℕ) (read : Option Named) → BeginsWith front text → rest ≡ drop (length front) text → IsReadBy text_of rest read → IsReadBy (λ named. front ++ text_of named) text read
read_behind_front text_of front text rest None begins is none = λ named numbered same.
    none named numbered (subst (λ (r : List ℕ). IsSameText (text_of named) r) (sym is) (fronts front (text_of named) text same).1)
read_behind_front text_of front text rest (Some named) begins is some =
    (some.0, joined front (text_of named) text begins (subst (λ (r : List ℕ). IsSameText (text_of named) r) is some.1))

-- What a suffix names.

pub is_superset : (suffix : List ℕ) → IsSameText suffix (codes "/d1") → IsReadBy suffix_of suffix (Some Superset)
is_superset suffix same = (tt, sym same)

no_superset : (suffix : List ℕ) → (IsSameText suffix (codes "/d1") → ⊥) → ((number : ℕ) → IsNumbered (Subset number) → IsSameText (suffix_of (Subset number)) suffix → ⊥) → IsReadBy suffix_of suffix None
no_superset suffix not none Superset numbered same = not (sym same)
no_superset suffix not none (Subset number) numbered same = none number numbered same

pub no_suffix : (suffix : List ℕ) → (IsSameText suffix (codes "/d1") → ⊥) → (BeginsWith (codes "/c") suffix → ⊥) → IsReadBy suffix_of suffix None
no_suffix suffix not begins = no_superset suffix not (λ number numbered same. begins (fronts (codes "/c") (decimal number) suffix same).0)

number_small : (number : ℕ) → IsNumbered (Subset number) → number < 2 ^ 64
number_small number numbered = let least = numbered.1 in omega arith

pub no_number : (suffix digits : List ℕ) → (IsSameText suffix (codes "/d1") → ⊥) → digits ≡ drop 2 suffix → ((number : ℕ) → IsNumbered (Subset number) → decimal number ≡ digits → ⊥) → IsReadBy suffix_of suffix None
no_number suffix digits not is none = no_superset suffix not (λ number numbered same.
    none number numbered (digits_same (decimal number) digits (decimal_digits number (number_small number numbered)) (subst (λ (r : List ℕ). IsSameText (decimal number) r) (sym is) (fronts (codes "/c") (decimal number) suffix same).1)))

pub is_subset : (suffix digits : List ℕ) (number : ℕ) → BeginsWith (codes "/c") suffix → digits ≡ drop 2 suffix → IsNumbered (Subset number) → decimal number ≡ digits → IsReadBy suffix_of suffix (Some (Subset number))
is_subset suffix digits number begins is numbered printed = (numbered, joined (codes "/c") (decimal number) suffix begins (ap (map to_ascii_lowercase) (printed ∙ is)))

-- What a text names, by its three leads.

pub spelled : (prefix text lead : List ℕ) (named : Named) → IsLead lead → IsReadBy (λ n. lead ++ name_of prefix n) text (Some named) → IsReading prefix text (Some named)
spelled prefix text lead named is read = record { numbered = read.0; lead = lead; is_lead = is; same = read.1 }

at_lead : (prefix text lead other : List ℕ) (named : Named) → other ≡ lead → IsNumbered named → IsReadBy (λ n. lead ++ name_of prefix n) text None → IsSameText (other ++ name_of prefix named) text → ⊥
at_lead prefix text lead other named is numbered none same = none named numbered (subst (λ (l : List ℕ). IsSameText (l ++ name_of prefix named) text) is same)

pub read_last : (prefix text : List ℕ) (read : Option Named) → IsReadBy (λ n. [] ++ name_of prefix n) text None → IsReadBy (λ n. codes "doi:" ++ name_of prefix n) text None
    → IsReadBy (λ n. codes "https://doi.org/" ++ name_of prefix n) text read → IsReading prefix text read
read_last prefix text (Some named) bare schemed resolved = spelled prefix text (codes "https://doi.org/") named (inr (inr refl)) resolved
read_last prefix text None bare schemed resolved = λ named s. by named s s.is_lead
  where
    by : (named : Named) (s : IsSpelling prefix named text) → IsLead s.lead → ⊥
    by named s (inl is) = at_lead prefix text [] s.lead named is s.numbered bare s.same
    by named s (inr (inl is)) = at_lead prefix text (codes "doi:") s.lead named is s.numbered schemed s.same
    by named s (inr (inr is)) = at_lead prefix text (codes "https://doi.org/") s.lead named is s.numbered resolved s.same

-- One name.

slash_among : (ys t : List ℕ) → AllByRecursion (λ c. c ≡ 47 → ⊥) (ys ++ 47 ∷ t) → ⊥
slash_among [] t h = h.0 refl
slash_among (y ∷ ys) t h = slash_among ys t h.1

not_behind : (y : ℕ) (ys s t : List ℕ) → AllByRecursion (λ c. c ≡ 47 → ⊥) s → 47 ∷ s ≡ (y ∷ ys) ++ 47 ∷ t → ⊥
not_behind y ys s t free e = let same : s ≡ ys ++ 47 ∷ t = cc in slash_among ys t (subst (λ (l : List ℕ). AllByRecursion (λ c. c ≡ 47 → ⊥) l) same free)

-- what stands behind the last slash
behind_last : (xs ys s t : List ℕ) → AllByRecursion (λ c. c ≡ 47 → ⊥) s → AllByRecursion (λ c. c ≡ 47 → ⊥) t → xs ++ 47 ∷ s ≡ ys ++ 47 ∷ t → s ≡ t
behind_last [] [] s t free bare e = cc
behind_last [] (y ∷ ys) s t free bare e = absurd (not_behind y ys s t free e)
behind_last (x ∷ xs) [] s t free bare e = absurd (not_behind x xs t s bare (sym e))
behind_last (x ∷ xs) (y ∷ ys) s t free bare e = let tail : xs ++ 47 ∷ s ≡ ys ++ 47 ∷ t = cc in behind_last xs ys s t free bare tail

-- what a suffix has behind its slash, in lower case
tail_of : Named → List ℕ
tail_of Superset = 100 ∷ 49 ∷ []
tail_of (Subset number) = 99 ∷ map to_ascii_lowercase (decimal number)

slash_first : (named : Named) → map to_ascii_lowercase (suffix_of named) ≡ 47 ∷ tail_of named
unfolding tail_of
slash_first Superset = refl
slash_first (Subset number) = refl

no_other : (named : Named) → IsNumbered named → AllByRecursion (λ c. c ≡ 47 → ⊥) (tail_of named)
unfolding tail_of
no_other Superset numbered = (λ e. omega (arith, e), (λ e. omega (arith, e), tt))
no_other (Subset number) numbered = (λ e. omega (arith, e), no_slash (decimal number) (decimal_digits number (number_small number numbered)))

heads : (x y : ℕ) (xs ys : List ℕ) → x ∷ xs ≡ y ∷ ys → x ≡ y
heads x y xs ys e = cc

tail_names : (named other : Named) → IsNumbered named → IsNumbered other → tail_of named ≡ tail_of other → named ≡ other
unfolding tail_of
tail_names Superset Superset numbered same e = refl
tail_names Superset (Subset m) numbered same e = let first = heads 100 99 _ _ e in absurd (omega (arith, first))
tail_names (Subset n) Superset numbered same e = let first = heads 99 100 _ _ e in absurd (omega (arith, first))
tail_names (Subset n) (Subset m) numbered same e =
    let digits : map to_ascii_lowercase (decimal n) ≡ map to_ascii_lowercase (decimal m) = cc in
    let n_small = number_small n numbered in
    let m_small = number_small m same in
    ap Subset (decimal_injective n m n_small m_small (digits_same (decimal n) (decimal m) (decimal_digits n n_small) digits))

-- a spelled text, in lower case, up to its last slash and behind it
parts : (prefix text : List ℕ) (named : Named) (s : IsSpelling prefix named text) → map to_ascii_lowercase text ≡ map to_ascii_lowercase (s.lead ++ prefix) ++ 47 ∷ tail_of named
parts prefix text named s =
    sym s.same
    ∙ ap (map to_ascii_lowercase) (sym (append_assoc s.lead prefix (suffix_of named)))
    ∙ map-append to_ascii_lowercase (s.lead ++ prefix) (suffix_of named)
    ∙ ap (λ l. map to_ascii_lowercase (s.lead ++ prefix) ++ l) (slash_first named)

-- a text spells one name
pub one_name : (prefix text : List ℕ) (named other : Named) → IsSpelling prefix named text → IsSpelling prefix other text → named ≡ other
one_name prefix text named other s t =
    tail_names named other s.numbered t.numbered (behind_last _ _ (tail_of named) (tail_of other) (no_other named s.numbered) (no_other other t.numbered) (sym (parts prefix text named s) ∙ parts prefix text other t))

pub read_once : ReadOnce
read_once prefix text None None r s = refl
read_once prefix text None (Some other) r s = absurd (r other s)
read_once prefix text (Some named) None r s = absurd (s named r)
read_once prefix text (Some named) (Some other) r s = ap Some (one_name prefix text named other r s)

-- of a name the thing is read
name_is_read : (prefix : List ℕ) (named : Named) (read : Option Named) → IsNumbered named → IsReading prefix (name_of prefix named) read → read ≡ Some named
name_is_read prefix named read numbered r =
    read_once prefix (name_of prefix named) read (Some named) r (record { numbered = numbered; lead = []; is_lead = inl refl; same = refl })

pub minted_is_read : MintedIsRead
minted_is_read prefix number read least most r = name_is_read prefix (Subset number) read (least, most) r

pub superset_is_read : SupersetIsRead
superset_is_read prefix read r = name_is_read prefix Superset read tt r
