-- The texts of a data set and of a citation are UTF-8, and the metadata have no floats.
use Rattle.std.proofs.Common.{◌≡◌, ℕ, suc, zero, Bool, ◌≤◌, ◌<◌, ◌^◌, true, false, ◌&&◌, List, [], ◌∷◌, ◌++◌, None, codes, decimal, refl, arith, nat_eq, nat_le}
use Rattle.std.specs.List.{list_all}
use Rattle.std.specs.Char.{is_ascii_digit}
use Rattle.std.specs.Str.{is_utf8, IsAscii}
use Rattle.std.proofs.lemmas.Bool.{false≢true, and_parts, eqb-true, leb-true, and_from}
use Rattle.std.proofs.lemmas.Fmt.{IsAscii-decimal}
use Rattle.std.proofs.lemmas.Str.{IsAscii-append, IsUtf8-from_ascii, is_utf8-from_IsUtf8}
use Rattle.std.proofs.lemmas.Str.Ascii.{IsAscii-nil}
use Rattle.serde_json.specs.Written.{items_have_float}
use Rattle.cite_schema.specs.declared.query.Meta.{Meta}
use Rattle.cite_schema.specs.Metadata.{is_plain_within, are_creators, meta_fault}
use Rattle.identifiers.specs.Names.{name_of}
use Rattle.identifiers.specs.Prefixes.{is_prefix}
use Rattle.identifiers.specs.declared.named.Named.TheVariants.{Superset, Subset}
use Rattle.datacite_meta.specs.Metadata.{creators}

pub plain_is_utf8 : (least most : ℕ) (t : List ℕ) → is_plain_within least most t ≡ true → is_utf8 t ≡ true
plain_is_utf8 least most t plain = (and_parts _ _ (and_parts _ _ plain).0).0

-- one more byte in front
ascii_more : (b : ℕ) (bs : List ℕ) → b < 128 → IsAscii bs → IsAscii (b ∷ bs)
ascii_more b bs small rest zero = small
ascii_more b bs small rest (suc i) = rest i

digits_are_ascii : (t : List ℕ) → list_all is_ascii_digit t ≡ true → IsAscii t
digits_are_ascii [] all = IsAscii-nil
digits_are_ascii (b ∷ bs) all =
    let parts : (is_ascii_digit b ≡ true) × (list_all is_ascii_digit bs ≡ true) = and_parts (is_ascii_digit b) (list_all is_ascii_digit bs) all in
    let range : (nat_le 48 b ≡ true) × (nat_le b 57 ≡ true) = and_parts (nat_le 48 b) (nat_le b 57) parts.0 in
    let most : b ≤ 57 = leb-true b 57 range.1 in
    ascii_more b bs (omega arith) (digits_are_ascii bs parts.1)

front_is_ascii : (a b c : ℕ) (rest : List ℕ) → 49 ≡ a → 48 ≡ b → 46 ≡ c → IsAscii rest → IsAscii (a ∷ b ∷ c ∷ rest)
front_is_ascii a b c rest first second third ascii =
    ascii_more a (b ∷ c ∷ rest) (omega arith) (ascii_more b (c ∷ rest) (omega arith) (ascii_more c rest (omega arith) ascii))

prefix_is_ascii : (t : List ℕ) → is_prefix t ≡ true → IsAscii t
prefix_is_ascii [] is = absurd (false≢true is)
prefix_is_ascii (a ∷ []) is = absurd (false≢true (and_parts _ _ (and_parts _ _ is).0).1)
prefix_is_ascii (a ∷ b ∷ []) is = absurd (false≢true (and_parts _ _ (and_parts _ _ (and_parts _ _ is).0).1).1)
prefix_is_ascii (a ∷ b ∷ c ∷ rest) is =
    let starts : (nat_eq 49 a && (nat_eq 48 b && (nat_eq 46 c && true))) ≡ true = (and_parts _ _ is).0 in
    let digits : list_all is_ascii_digit rest ≡ true = (and_parts _ _ (and_parts _ _ is).1).0 in
    let first : 49 ≡ a = eqb-true 49 a (and_parts _ _ starts).0 in
    let second : 48 ≡ b = eqb-true 48 b (and_parts _ _ (and_parts _ _ starts).1).0 in
    let third : 46 ≡ c = eqb-true 46 c (and_parts _ _ (and_parts _ _ (and_parts _ _ starts).1).1).0 in
    front_is_ascii a b c rest first second third (digits_are_ascii rest digits)

-- a name is a text
named_utf8 : (prefix suffix : List ℕ) → is_prefix prefix ≡ true → IsAscii suffix → is_utf8 (prefix ++ suffix) ≡ true
named_utf8 prefix suffix is ascii = is_utf8-from_IsUtf8 (prefix ++ suffix) (IsUtf8-from_ascii (prefix ++ suffix) (IsAscii-append prefix suffix (prefix_is_ascii prefix is) ascii))

pub superset_is_utf8 : (prefix : List ℕ) → is_prefix prefix ≡ true → is_utf8 (name_of prefix Superset) ≡ true
superset_is_utf8 prefix is = named_utf8 prefix (codes "/d1") is (ascii_more 47 (100 ∷ 49 ∷ []) (omega arith) (ascii_more 100 (49 ∷ []) (omega arith) (ascii_more 49 [] (omega arith) IsAscii-nil)))

pub subset_is_utf8 : (prefix : List ℕ) (number : ℕ) → is_prefix prefix ≡ true → number < 2 ^ 32 → is_utf8 (name_of prefix (Subset number)) ≡ true
subset_is_utf8 prefix number is small =
    named_utf8 prefix (codes "/c" ++ decimal number) is (ascii_more 47 (99 ∷ decimal number) (omega arith) (ascii_more 99 (decimal number) (omega arith) (IsAscii-decimal number (omega arith))))

all_utf8 : (names : List (List ℕ)) → list_all (is_plain_within 1 1024) names ≡ true → list_all is_utf8 names ≡ true
all_utf8 [] all = refl
all_utf8 (name ∷ names) all = let parts = and_parts _ _ all in and_from _ _ (plain_is_utf8 1 1024 name parts.0) (all_utf8 names parts.1)

-- metadata that keep their rules have creators and a title that are texts
pub meta_is_utf8 : (m : Meta) → meta_fault m ≡ None → (list_all is_utf8 m.creators ≡ true) × (is_utf8 m.title ≡ true)
meta_is_utf8 m none = by_creators (are_creators m.creators) refl
  where
    by_title : (title : Bool) → is_plain_within 1 1024 m.title ≡ title → are_creators m.creators ≡ true → (list_all is_utf8 m.creators ≡ true) × (is_utf8 m.title ≡ true)
    by_title true title creators = (all_utf8 m.creators (and_parts _ _ (and_parts _ _ creators).1).1, plain_is_utf8 1 1024 m.title title)
    by_title false title creators = let fault = rw (creators, title) at none in absurd (cc)

    by_creators : (creators : Bool) → are_creators m.creators ≡ creators → (list_all is_utf8 m.creators ≡ true) × (is_utf8 m.title ≡ true)
    by_creators true creators = by_title (is_plain_within 1 1024 m.title) refl creators
    by_creators false creators = let fault = rw creators at none in absurd (cc)

-- no creator has a float
pub creators_have_no_float : (names : List (List ℕ)) → items_have_float (creators names) ≡ false
creators_have_no_float [] = refl
creators_have_no_float (name ∷ names) = creators_have_no_float names
