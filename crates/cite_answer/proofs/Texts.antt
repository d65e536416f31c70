-- The texts in the bodies are UTF-8, and the bodies have no floats.
use Rattle.std.proofs.Common.{◌≡◌, ℕ, zero, suc, Bool, true, false, ◌&&◌, ◌||◌, not, ◌⊎◌, inl, inr, ◌+◌, ◌-◌, ◌/◌, pos, ◌≤◌, ◌<◌, ◌^◌, List, [], ◌∷◌, ◌++◌, None, codes, decimal, map, length, get_or, refl, sym, ap, ◌∙◌, subst, arith, nat_eq, nat_le, nat_lt}
use Rattle.std.specs.Prelude.{IsTrue, slice_index, ◌==◌, if◌then◌else◌}
use Rattle.std.specs.List.{AllByRecursion, list_all, flat_map}
use Rattle.std.specs.Char.{is_ascii_digit, is_ascii_alphanumeric}
use Rattle.std.specs.Int.{is_in_range}
use Rattle.std.specs.Str.{is_utf8, IsUtf8, IsAscii}
use Rattle.std.proofs.lemmas.Bool.{and_parts, eqb-true, leb-true}
use Rattle.std.proofs.lemmas.Fmt.{IsAscii-decimal}
use Rattle.std.proofs.lemmas.Str.{IsUtf8-append, IsUtf8-from_ascii, IsUtf8-from_is_utf8, is_utf8-from_IsUtf8}
use Rattle.std.proofs.lemmas.Str.Ascii.{IsAscii-nil}
use Rattle.std.proofs.lemmas.List.Elements.{recursion_from_All}
use Rattle.serde_json.specs.Written.{items_have_float}
use Rattle.serde_json.specs.View.{items_of}
use Rattle.cite_schema.specs.Headings.{is_name, is_heading}
use Rattle.cite_schema.proofs.WellNamed.{are_well_named}
use Rattle.cite_schema.specs.declared.schema.Column.{Column}
use Rattle.cite_schema.specs.declared.dataset.Dataset.{Dataset}
use Rattle.cite_schema.specs.declared.dataset.Issue.{Issue}
use Rattle.identifiers.specs.Names.{name_of}
use Rattle.identifiers.specs.declared.named.Named.TheVariants.{Subset}
use Rattle.jiff_core.specs.Calendar.{days_in_year}
use Rattle.datacite_meta.specs.Stamps.{year_and_place, date_of, year_of}
use Rattle.datacite_meta.specs.Metadata.{IsDescribed, IsIssued, joined, citation_text}
use Rattle.datacite_meta.proofs.TextLaws.{plain_is_utf8, subset_is_utf8, meta_is_utf8}
use Rattle.cite_answer.specs.Bodies.{column_value}

-- no column has a float
pub columns_have_no_float : (columns : List Column) → items_have_float (items_of (map column_value columns)) ≡ false
columns_have_no_float [] = refl
columns_have_no_float (c ∷ cs) = columns_have_no_float cs

both : (x y : List ℕ) → is_utf8 x ≡ true → is_utf8 y ≡ true → is_utf8 (x ++ y) ≡ true
both x y one other = is_utf8-from_IsUtf8 (x ++ y) (IsUtf8-append x y (IsUtf8-from_is_utf8 x one) (IsUtf8-from_is_utf8 y other))

number : (n : ℕ) → n < 2 ^ 64 → is_utf8 (decimal n) ≡ true
number n small = is_utf8-from_IsUtf8 (decimal n) (IsUtf8-from_ascii (decimal n) (IsAscii-decimal n small))

ascii_more : (b : ℕ) (bs : List ℕ) → b < 128 → IsAscii bs → IsAscii (b ∷ bs)
ascii_more b bs small rest zero = small
ascii_more b bs small rest (suc i) = rest i

ascii_all : (t : List ℕ) → list_all (λ b. nat_le b 127) t ≡ true → IsAscii t
ascii_all [] all = IsAscii-nil
ascii_all (b ∷ bs) all =
    let parts = and_parts (nat_le b 127) (list_all (λ c. nat_le c 127) bs) all in
    let most = leb-true b 127 parts.0 in
    ascii_more b bs (omega (arith, most)) (ascii_all bs parts.1)

-- a text of ASCII
plainly : (t : List ℕ) → list_all (λ b. nat_le b 127) t ≡ true → is_utf8 t ≡ true
plainly t all = is_utf8-from_IsUtf8 t (IsUtf8-from_ascii t (ascii_all t all))

further : (names : List (List ℕ)) → list_all is_utf8 names ≡ true → is_utf8 (flat_map (λ u. codes "; " ++ u) names) ≡ true
further [] all = plainly [] refl
further (name ∷ names) all =
    let parts = and_parts (is_utf8 name) (list_all is_utf8 names) all in
    both (codes "; " ++ name) (flat_map (λ u. codes "; " ++ u) names) (both (codes "; ") name (plainly (codes "; ") refl) parts.0) (further names parts.1)

names_are_utf8 : (names : List (List ℕ)) → list_all is_utf8 names ≡ true → is_utf8 (joined names) ≡ true
names_are_utf8 [] all = plainly [] refl
names_are_utf8 (name ∷ names) all =
    let parts = and_parts (is_utf8 name) (list_all is_utf8 names) all in
    both name (flat_map (λ u. codes "; " ++ u) names) parts.0 (further names parts.1)

-- the citation text is one
pub citation_is_utf8 : (d : Dataset) (i : Issue) → IsDescribed d → IsIssued i → i.number < 2 ^ 32 → i.version < 2 ^ 32 → year_of i.cited < 2 ^ 64 → is_utf8 (citation_text d i) ≡ true
citation_is_utf8 d i described issued small version year =
    let meta = meta_is_utf8 i.meta issued.meta in
    let publisher = plain_is_utf8 1 1024 d.publisher described.publisher in
    let name = subset_is_utf8 d.prefix i.number described.prefix small in
    let t1 = both (joined i.meta.creators) (codes " (") (names_are_utf8 i.meta.creators meta.0) (plainly (codes " (") refl) in
    let t2 = both _ (decimal (year_of i.cited)) t1 (number (year_of i.cited) year) in
    let t3 = both _ (codes "): ") t2 (plainly (codes "): ") refl) in
    let t4 = both _ i.meta.title t3 meta.1 in
    let t5 = both _ (codes ". Version ") t4 (plainly (codes ". Version ") refl) in
    let t6 = both _ (decimal i.version) t5 (number i.version (omega (arith, version))) in
    let t7 = both _ (codes ". ") t6 (plainly (codes ". ") refl) in
    let t8 = both _ d.publisher t7 publisher in
    let t9 = both _ (codes ". Dataset. https://doi.org/") t8 (plainly (codes ". Dataset. https://doi.org/") refl) in
    both _ (name_of d.prefix (Subset i.number)) t9 name

either : (x y : Bool) → (x || y) ≡ true → (x ≡ true) ⊎ (y ≡ true)
either true y h = inl refl
either false y h = inr h

within : (low high b : ℕ) → is_in_range low high b ≡ true → b ≤ high
within low high b h = leb-true b high (and_parts (nat_le low b) (nat_le b high) h).1

letter : (b : ℕ) → (is_ascii_alphanumeric b || (b == 95)) ≡ true → b < 128
letter b h = by (either (is_ascii_alphanumeric b) (b == 95) h)
  where
    lower : (is_in_range 48 57 b ≡ true) ⊎ (is_in_range 65 90 b ≡ true) → b < 128
    lower (inl digit) = let most = within 48 57 b digit in omega (arith, most)
    lower (inr upper) = let most = within 65 90 b upper in omega (arith, most)

    of_letters : ((is_in_range 48 57 b || is_in_range 65 90 b) ≡ true) ⊎ (is_in_range 97 122 b ≡ true) → b < 128
    of_letters (inl more) = lower (either (is_in_range 48 57 b) (is_in_range 65 90 b) more)
    of_letters (inr small) = let most = within 97 122 b small in omega (arith, most)

    by : (is_ascii_alphanumeric b ≡ true) ⊎ ((b == 95) ≡ true) → b < 128
    by (inl alphanumeric) = of_letters (either (is_in_range 48 57 b || is_in_range 65 90 b) (is_in_range 97 122 b) alphanumeric)
    by (inr line) = let same : b ≡ 95 = eqb-true b 95 line in omega (arith, same)

letters_are_ascii : (t : List ℕ) → list_all (λ b. is_ascii_alphanumeric b || (b == 95)) t ≡ true → IsAscii t
letters_are_ascii [] all = IsAscii-nil
letters_are_ascii (b ∷ bs) all =
    let parts = and_parts (is_ascii_alphanumeric b || (b == 95)) (list_all (λ c. is_ascii_alphanumeric c || (c == 95)) bs) all in
    ascii_more b bs (letter b parts.0) (letters_are_ascii bs parts.1)

-- a column's name is one
pub name_is_utf8 : (t : List ℕ) → is_name t ≡ true → is_utf8 t ≡ true
name_is_utf8 t name =
    let some = and_parts (nat_lt 0 (length t)) _ name in
    let few = and_parts (nat_le (length t) 64) _ some.1 in
    let letters = and_parts (not (is_ascii_digit (slice_index t 0))) (list_all (λ b. is_ascii_alphanumeric b || (b == 95)) t) few.1 in
    is_utf8-from_IsUtf8 t (IsUtf8-from_ascii t (letters_are_ascii t letters.1))

year_within : (years year days : ℕ) → (year_and_place years year days).0 ≤ year + years
unfolding year_and_place
year_within zero year days = omega arith
year_within (suc years) year days = by (nat_lt days (days_in_year (pos year))) (year_within years (year + 1) (days - days_in_year (pos year)))
  where
    by : (here : Bool) → (year_and_place years (year + 1) (days - days_in_year (pos year))).0 ≤ year + 1 + years
        → (if here then (year, days) else year_and_place years (year + 1) (days - days_in_year (pos year))).0 ≤ year + suc years
    by true more = omega arith
    by false more = omega (arith, more)

-- years have four digits
pub year_is_small : (stamp : ℕ) → year_of stamp < 2 ^ 64
unfolding year_of date_of
year_is_small stamp = let most = year_within 8029 1970 (stamp / 86400) in omega (arith, most)

-- what holds of each holds of the one at a place
pub item_there : {X : Type 0} (P : X → Type 0) (xs : List X) (place : ℕ) (other : X) → AllByRecursion P xs → place < length xs → P (get_or xs place other)
item_there P [] place other h lt = absurd (omega arith)
item_there P (x ∷ xs) zero other h lt = h.0
item_there P (x ∷ xs) (suc place) other h lt = item_there P xs place other h.1 (omega arith)

-- the name of a column of a schema
pub column_is_utf8 : (columns : List Column) (place : ℕ) (c : Column) → IsTrue (is_heading columns) → place < length columns → c ≡ get_or columns place c → is_utf8 c.name ≡ true
column_is_utf8 columns place c heading lt e =
    let named = recursion_from_All (λ (d : Column). IsTrue (is_name d.name)) columns (are_well_named columns heading).named in
    name_is_utf8 c.name (subst (λ (d : Column). IsTrue (is_name d.name)) (sym e) (item_there (λ (d : Column). IsTrue (is_name d.name)) columns place c named lt))
