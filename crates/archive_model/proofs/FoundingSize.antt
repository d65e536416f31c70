-- The journal of a founding is within its limit.
use Rattle.std.proofs.Common.{◌≡◌, ℕ, zero, suc, ◌+◌, ◌*◌, ◌<◌, ◌≤◌, Bool, true, false, not, ◌&&◌, List, [], ◌∷◌, ◌++◌, Option, Some, None, IsTrue, length, refl, sym, ap, ◌∙◌, subst, arith, length-append}
use Rattle.std.specs.Prelude.{nat_le, nat_lt, nat_eq, is_none, slice_index, drop, codes}
use Rattle.std.specs.List.{AllByRecursion, flat_map, list_all, starts_with}
use Rattle.std.specs.Char.{is_ascii_digit}
use Rattle.std.specs.Str.{is_utf8}
use Rattle.std.proofs.lemmas.Bool.Decides.{nat_tests}
use Rattle.std.proofs.lemmas.List.Elements.{recursion_from_All}
use Rattle.cite_schema.specs.Headings.{heading_fault, is_heading, is_name}
use Rattle.cite_schema.specs.Metadata.{is_plain, is_plain_within}
use Rattle.cite_schema.specs.declared.value.Kind.{Kind}
use Rattle.cite_schema.specs.declared.value.Kind.TheVariants as kinds
use Rattle.cite_schema.specs.declared.schema.Column.{Column}
use Rattle.cite_schema.proofs.Rising.{and_first, and_second}
use Rattle.cite_schema.proofs.WellNamed.{are_well_named}
use Rattle.entry_codec.specs.declared.entry.FoundEntry.{FoundEntry}
use Rattle.entry_codec.specs.declared.entry.Entry.TheVariants.{Found}
use Rattle.entry_codec.specs.Payloads.{big_endian, spelled_text, spelled_kind, spelled_column, spelled_list, spelled_founding, payload}
use Rattle.identifiers.specs.Prefixes.{is_prefix}
use Rattle.archive_model.specs.Histories.{is_told, found_fault}
use Rattle.archive_model.proofs.Founded.{founded_heading, founded_told}

length_bytes : (k n : ℕ) → length (big_endian k n) ≡ k
unfolding big_endian
length_bytes zero n = refl
length_bytes (suc k) n = ap suc (length_bytes k n)

length_text : (t : List ℕ) → length (spelled_text t) ≡ 2 + length t
length_text t = length-append (big_endian 2 (length t)) t ∙ ap (λ n. n + length t) (length_bytes 2 (length t))

length_kind : (k : Kind) → length (spelled_kind k) ≡ 1
length_kind kinds.Int = refl
length_kind kinds.Text = refl

length_column : (c : Column) → length (spelled_column c) ≡ length c.name + 3
length_column c =
    let both = length-append (spelled_text c.name) (spelled_kind c.kind) in
    let text = length_text c.name in
    let kind = length_kind c.kind in
    omega arith

at_most : (n m : ℕ) → nat_le n m ≡ true → n ≤ m
at_most n m h = grind (arith, nat_tests)

pub named_short : (name : List ℕ) → is_name name ≡ true → length name ≤ 64
named_short name h = at_most (length name) 64 (and_first _ _ (and_second _ _ h))

length_columns : (cs : List Column) → AllByRecursion (λ c. IsTrue (is_name c.name)) cs → length (flat_map spelled_column cs) ≤ 67 * length cs
length_columns [] h = omega arith
length_columns (c ∷ cs) h =
    let both = length-append (spelled_column c) (flat_map spelled_column cs) in
    let here = length_column c in
    let short = named_short c.name h.0 in
    let more = length_columns cs h.1 in
    omega arith

pub told_short : (t : List ℕ) → is_told t ≡ true → length t ≤ 1024
told_short t h = at_most (length t) 1024 (and_second _ _ (and_second _ _ h))

pub prefix_short : (t : List ℕ) → is_prefix t ≡ true → length t ≤ 12
prefix_short t h =
    at_most (length t) 12
    (and_second (nat_le 7 (length t)) _ (and_second (list_all is_ascii_digit (drop 3 t)) _ (and_second (starts_with nat_eq t (codes "10.")) _ h)))

six : (a b c d e f : List ℕ) → length (a ++ ((b ++ (c ++ (d ++ e))) ++ f)) ≡ length a + ((length b + (length c + (length d + length e))) + length f)
six a b c d e f =
    length-append a _ ∙ ap (λ n. length a + n) (length-append (b ++ (c ++ (d ++ e))) f ∙ ap (λ n. n + length f) inner)
  where
    inner : length (b ++ (c ++ (d ++ e))) ≡ length b + (length c + (length d + length e))
    inner = length-append b _ ∙ ap (λ n. length b + n) (length-append c _ ∙ ap (λ n. length c + n) (length-append d e))

length_list : (cs : List Column) → length (spelled_list 2 spelled_column cs) ≡ 2 + length (flat_map spelled_column cs)
length_list cs = length-append (big_endian 2 (length cs)) (flat_map spelled_column cs) ∙ ap (λ n. n + length (flat_map spelled_column cs)) (length_bytes 2 (length cs))

length_founding : (f : FoundEntry) → found_fault f.dataset f.columns f.stamp ≡ None → length (spelled_founding f) ≤ 8000
length_founding f e =
    let told = founded_told f e in
    let well = are_well_named f.columns (ap is_none (founded_heading f e)) in
    let few = well.few in
    let all = six (big_endian 8 f.stamp) (spelled_text f.dataset.prefix) (spelled_text f.dataset.publisher) (spelled_text f.dataset.creator) (spelled_text f.dataset.title) (spelled_list 2 spelled_column f.columns) in
    let stamp = length_bytes 8 f.stamp in
    let a = length_text f.dataset.prefix in let b = length_text f.dataset.publisher in let c = length_text f.dataset.creator in let d = length_text f.dataset.title in
    let a' = prefix_short f.dataset.prefix told.0 in let b' = told_short f.dataset.publisher told.1 in let c' = told_short f.dataset.creator told.2 in let d' = told_short f.dataset.title told.3 in
    let list = length_list f.columns in
    let columns = length_columns f.columns (recursion_from_All (λ (c : Column). IsTrue (is_name c.name)) f.columns well.named) in
    omega arith

small : (n most : ℕ) → n ≤ 8000 → 9000 ≤ most → 17 + (suc n + 37) ≤ most
small n most h k = omega arith

pub founding_fits : (f : FoundEntry) (most : ℕ) → 9000 ≤ most → found_fault f.dataset f.columns f.stamp ≡ None → 17 + (length (payload (Found f)) + 37) ≤ most
founding_fits f most k e = small (length (spelled_founding f)) most (length_founding f e) k
