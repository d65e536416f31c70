-- Rows whose keys are apart, one row after the other.
use Rattle.std.proofs.Common.{◌≡◌, ◌≢◌, ◌<◌, ℕ, zero, suc, Bool, true, false, List, [], ◌∷◌, ◌++◌, Some, slice_get, get_or, length, refl, sym, ap, ◌∙◌, arith}
use Rattle.std.specs.Prelude.{◌||◌}
use Rattle.std.specs.Ordering.{is_eq, ordering_reverse}
use Rattle.std.specs.declared.cmp.Ordering.{Ordering}
use Rattle.std.specs.declared.cmp.Ordering.TheVariants.{Less, Equal, Greater}
use Rattle.std.proofs.lemmas.List.Quantifiers.{all_pairs_push}
use Rattle.cite_schema.specs.Tables.{key_cmp, has_key}
use Rattle.cite_schema.specs.declared.value.Value.{Value}
use Rattle.cite_schema.proofs.Orders.{key_total}
use Rattle.cite_schema.proofs.Rising.{Differ}

neither : (a b : Bool) → (a || b) ≡ false → (a ≡ false) × (b ≡ false)
neither true b e = absurd (cc)
neither false b e = (refl, e)

none_tied : (rows : List (List Value)) (row : List Value) → has_key rows row ≡ false → (k : ℕ) (d : List Value) → k < length rows → key_cmp (get_or rows k d) row ≢ Equal
none_tied [] row none k d within e = absurd (omega arith)
none_tied (r ∷ rs) row none zero d within e =
    let turned : key_cmp row r ≡ Equal = key_total.antisymm row r ∙ ap ordering_reverse e in
    let told = ap is_eq turned in
    let here = (neither (is_eq (key_cmp row r)) (has_key rs row) none).0 in
    absurd (cc)
none_tied (r ∷ rs) row none (suc k) d within e = none_tied rs row (neither (is_eq (key_cmp row r)) (has_key rs row) none).1 k d (omega arith) e

-- a row whose key none of the rows has keeps their keys apart
pub apart_more : (rows : List (List Value)) (row : List Value) → has_key rows row ≡ false → Differ key_cmp key_total rows → Differ key_cmp key_total (rows ++ row ∷ [])
apart_more rows row none apart = all_pairs_push (λ r t. key_cmp r t ≢ Equal) rows row apart (none_tied rows row none)

-- no rows have keys that are apart
pub none_apart : Differ key_cmp key_total []
none_apart i j d below within = absurd (omega arith)
