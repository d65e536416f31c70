-- The orders of values, cells and rows are total, and tell values apart.
use Rattle.std.proofs.Common.{◌≡◌, ℕ, Bool, true, false, cond, List, [], ◌∷◌, Option, Some, None, refl, ap, subst, slice_get}
use Rattle.std.specs.Cmp.{IsTotalOrder}
use Rattle.std.specs.Ordering.{ordering_reverse, ordering_then}
use Rattle.std.specs.declared.cmp.Ordering.{Ordering}
use Rattle.std.specs.declared.cmp.Ordering.TheVariants.{Less, Equal, Greater}
use Rattle.std.proofs.lemmas.Cmp.{int_cmp_total, nat_list_cmp_total, on_total, then_total, back_total}
use Rattle.std.proofs.lemmas.Map.Lookups.{exact_signed, exact_bytes}
use Rattle.cite_schema.specs.Values.{text_cmp, value_cmp}
use Rattle.cite_schema.specs.Tables.{cell_cmp, key_cmp}
use Rattle.cite_schema.specs.Answers.{order_cmp}
use Rattle.cite_schema.specs.declared.value.Value.{Value}
use Rattle.cite_schema.specs.declared.value.Value.TheVariants.{Int, Text}
use Rattle.cite_schema.specs.declared.item.Dir.{Dir}

pub text_total : IsTotalOrder text_cmp
text_total = nat_list_cmp_total

-- texts that are equal in the order are one
pub text_exact : (a b : List ℕ) → text_cmp a b ≡ Equal → a ≡ b
text_exact a b e = exact_bytes a b e

-- values that are equal in the order are one
pub value_exact : (a b : Value) → value_cmp a b ≡ Equal → a ≡ b
value_exact (Int a) (Int b) e = ap Int (exact_signed a b e)
value_exact (Int a) (Text b) e = cc
value_exact (Text a) (Int b) e = cc
value_exact (Text a) (Text b) e = ap Text (exact_bytes a b e)

value_turned : (a b : Value) → value_cmp a b ≡ ordering_reverse (value_cmp b a)
value_turned (Int a) (Int b) = int_cmp_total.antisymm a b
value_turned (Int a) (Text b) = refl
value_turned (Text a) (Int b) = refl
value_turned (Text a) (Text b) = text_total.antisymm a b

value_trans : (a b c : Value) → value_cmp a b ≡ Less → value_cmp b c ≡ Less → value_cmp a c ≡ Less
value_trans (Int a) (Int b) (Int c) h k = int_cmp_total.trans a b c h k
value_trans (Int a) b (Text c) h k = refl
value_trans (Int a) (Text b) (Int c) h k = cc
value_trans (Text a) (Int b) c h k = cc
value_trans (Text a) (Text b) (Int c) h k = cc
value_trans (Text a) (Text b) (Text c) h k = text_total.trans a b c h k

pub value_total : IsTotalOrder value_cmp
value_total = record { antisymm = value_turned; trans = value_trans; congr = λ a b c e. ap (λ v. value_cmp v c) (value_exact a b e) }

-- cells that are equal in the order are one
pub cell_exact : (a b : Option Value) → cell_cmp a b ≡ Equal → a ≡ b
cell_exact None None e = refl
cell_exact None (Some b) e = cc
cell_exact (Some a) None e = cc
cell_exact (Some a) (Some b) e = ap Some (value_exact a b e)

cell_turned : (a b : Option Value) → cell_cmp a b ≡ ordering_reverse (cell_cmp b a)
cell_turned None None = refl
cell_turned None (Some b) = refl
cell_turned (Some a) None = refl
cell_turned (Some a) (Some b) = value_turned a b

cell_trans : (a b c : Option Value) → cell_cmp a b ≡ Less → cell_cmp b c ≡ Less → cell_cmp a c ≡ Less
cell_trans None None c h k = cc
cell_trans None (Some b) None h k = cc
cell_trans None (Some b) (Some c) h k = refl
cell_trans (Some a) None c h k = cc
cell_trans (Some a) (Some b) None h k = cc
cell_trans (Some a) (Some b) (Some c) h k = value_trans a b c h k

pub cell_total : IsTotalOrder cell_cmp
cell_total = record { antisymm = cell_turned; trans = cell_trans; congr = λ a b c e. ap (λ v. cell_cmp v c) (cell_exact a b e) }

pub key_total : IsTotalOrder key_cmp
key_total = on_total (λ (r : List Value). slice_get r 0) cell_total

-- the order by one column in its direction
pub directed : Dir → List Value → List Value → Ordering
directed d r t = cond d.down (ordering_reverse (cell_cmp (slice_get r d.column) (slice_get t d.column))) (cell_cmp (slice_get r d.column) (slice_get t d.column))

-- a total order turned round is total
pub reverse_total : {K : Type 0} (R : K → K → Ordering) → IsTotalOrder R → IsTotalOrder (λ x y. ordering_reverse (R x y))
reverse_total R o = subst IsTotalOrder (λ i x y. o.antisymm y x i) (back_total o)

pub directed_total : (d : Dir) → IsTotalOrder (directed d)
unfolding directed
directed_total d = by d.down
  where
    by : (b : Bool) → IsTotalOrder (λ r t. cond b (ordering_reverse (cell_cmp (slice_get r d.column) (slice_get t d.column))) (cell_cmp (slice_get r d.column) (slice_get t d.column)))
    by true = reverse_total (λ r t. cell_cmp (slice_get r d.column) (slice_get t d.column)) (on_total (λ (r : List Value). slice_get r d.column) cell_total)
    by false = on_total (λ (r : List Value). slice_get r d.column) cell_total

-- the order of rows by columns and then the key is total
pub order_total : (order : List Dir) → IsTotalOrder (order_cmp order)
unfolding directed
order_total [] = key_total
order_total (d ∷ ds) = then_total (directed_total d) (order_total ds)

-- rows that are equal in the order have one key
pub order_tied : (order : List Dir) (r t : List Value) → order_cmp order r t ≡ Equal → key_cmp r t ≡ Equal
order_tied [] r t e = e
order_tied (d ∷ ds) r t e = order_tied ds r t (second (cond d.down (ordering_reverse (cell_cmp (slice_get r d.column) (slice_get t d.column))) (cell_cmp (slice_get r d.column) (slice_get t d.column))) _ e)
  where
    second : (a b : Ordering) → ordering_then a b ≡ Equal → b ≡ Equal
    second Less b h = cc
    second Equal b h = h
    second Greater b h = cc
