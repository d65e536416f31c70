-- Rows with one cell replaced, and columns that have two values to show.
use Rattle.std.proofs.Common.{◌≡◌, ◌≢◌, ℕ, ℤ, pos, negsuc, zero, suc, ◌<◌, ◌^◌, true, false, ◌&&◌, List, [], ◌∷◌, Option, Some, None, refl, sym, ap, ◌∙◌, IsTrue, arith, slice_get}
use Rattle.std.specs.Ordering.{ordering_reverse}
use Rattle.std.specs.declared.cmp.Ordering.{Ordering}
use Rattle.std.specs.declared.cmp.Ordering.TheVariants.{Less, Equal, Greater}
use Rattle.std.proofs.lemmas.Bool.Decides.{nat_tests}
use Rattle.std.proofs.lemmas.Int.{ints}
use Rattle.std.proofs.lemmas.Fmt.{signed_decimal_injective}
use Rattle.std.specs.Int.Signed.{mag}
use Rattle.cite_schema.specs.declared.value.Kind.{Kind}
use Rattle.cite_schema.specs.declared.value.Kind.TheVariants as kinds
use Rattle.cite_schema.specs.declared.value.Value.{Value}
use Rattle.cite_schema.specs.declared.value.Value.TheVariants.{Int, Text}
use Rattle.cite_schema.specs.declared.schema.Column as schema_column
use Rattle.cite_schema.specs.Values.{is_number, is_value_of, value_cmp, printed}
use Rattle.cite_schema.proofs.Orders.{value_exact, value_total}
use Rattle.subset_query.specs.declared.form.ColumnSet.{ColumnSet}
use Rattle.subset_query.specs.Forms.{in_set, HasTwo, IsMany, IsManyOf}
use Rattle.cite_schema.proofs.Rising.{and_first, and_second}
use Rattle.subset_query.proofs.Sets.{IsRow, Within, cons_row}

pub number_mag : (z : ℤ) → is_number z ≡ true → mag z < 2 ^ 63
number_mag (pos n) h = grind (arith, nat_tests, ints)
number_mag (negsuc n) h = grind (arith, nat_tests, ints)

pub print_one : (k : Kind) (v w : Value) → is_value_of k v ≡ true → is_value_of k w ≡ true → printed v ≡ printed w → v ≡ w
print_one kinds.Int (Int y) (Int z) f g e = ap Int (signed_decimal_injective y z (number_mag y f) (number_mag z g) e)
print_one kinds.Int (Int y) (Text u) f g e = cc
print_one kinds.Int (Text t) w f g e = cc
print_one kinds.Text (Int y) w f g e = cc
print_one kinds.Text (Text t) (Int z) f g e = cc
print_one kinds.Text (Text t) (Text u) f g e = ap Text e

pub put : List Value → ℕ → Value → List Value
put [] i v = []
put (x ∷ xs) zero v = v ∷ xs
put (x ∷ xs) (suc i) v = x ∷ put xs i v

pub get-put_other : (r : List Value) (i j : ℕ) (v : Value) → i ≢ j → slice_get (put r i v) j ≡ slice_get r j
unfolding put
get-put_other [] i j v n = refl
get-put_other (x ∷ xs) zero zero v n = absurd (n refl)
get-put_other (x ∷ xs) zero (suc j) v n = refl
get-put_other (x ∷ xs) (suc i) zero v n = refl
get-put_other (x ∷ xs) (suc i) (suc j) v n = get-put_other xs i j v (λ e. n (ap suc e))

-- two values that the column can show, the lower one first
pub record TwoAt (cs : List schema_column.Column) (ss : List ColumnSet) (i : ℕ) : Type 0 where
  pub low : Value
  pub high : Value
  pub less : value_cmp low high ≡ Less
  pub shown : printed low ≢ printed high
  pub low_row : (r : List Value) → IsRow cs ss r → IsRow cs ss (put r i low)
  pub high_row : (r : List Value) → IsRow cs ss r → IsRow cs ss (put r i high)
  pub here : (r : List Value) (v : Value) → IsRow cs ss r → slice_get (put r i v) i ≡ Some v

row_head : (c : schema_column.Column) (cs : List schema_column.Column) (s : ColumnSet) (ss : List ColumnSet) (x : Value) (xs : List Value) → IsRow (c ∷ cs) (s ∷ ss) (x ∷ xs) → Within c.kind s x
row_head c cs s ss x xs h = record { of_kind = and_first _ _ h.fitting; inside = and_first _ _ h.inside }

row_tail : (c : schema_column.Column) (cs : List schema_column.Column) (s : ColumnSet) (ss : List ColumnSet) (x : Value) (xs : List Value) → IsRow (c ∷ cs) (s ∷ ss) (x ∷ xs) → IsRow cs ss xs
row_tail c cs s ss x xs h = record { fitting = and_second _ _ h.fitting; inside = and_second _ _ h.inside }

put_head : (c : schema_column.Column) (cs : List schema_column.Column) (s : ColumnSet) (ss : List ColumnSet) (v : Value) → Within c.kind s v → (r : List Value) → IsRow (c ∷ cs) (s ∷ ss) r → IsRow (c ∷ cs) (s ∷ ss) (put r 0 v)
unfolding put
put_head c cs s ss v w [] h = let e : false ≡ true = h.fitting in cc
put_head c cs s ss v w (x ∷ xs) h = cons_row c cs s ss v xs w (row_tail c cs s ss x xs h)

here_head : (c : schema_column.Column) (cs : List schema_column.Column) (s : ColumnSet) (ss : List ColumnSet) (r : List Value) (v : Value) → IsRow (c ∷ cs) (s ∷ ss) r → slice_get (put r 0 v) 0 ≡ Some v
unfolding put
here_head c cs s ss [] v h = let e : false ≡ true = h.fitting in cc
here_head c cs s ss (x ∷ xs) v h = refl

put_tail : (c : schema_column.Column) (cs : List schema_column.Column) (s : ColumnSet) (ss : List ColumnSet) (i : ℕ) (v : Value) → ((r : List Value) → IsRow cs ss r → IsRow cs ss (put r i v)) → (r : List Value) → IsRow (c ∷ cs) (s ∷ ss) r → IsRow (c ∷ cs) (s ∷ ss) (put r (suc i) v)
unfolding put
put_tail c cs s ss i v f [] h = let e : false ≡ true = h.fitting in cc
put_tail c cs s ss i v f (x ∷ xs) h = cons_row c cs s ss x (put xs i v) (row_head c cs s ss x xs h) (f xs (row_tail c cs s ss x xs h))

here_tail : (c : schema_column.Column) (cs : List schema_column.Column) (s : ColumnSet) (ss : List ColumnSet) (i : ℕ) → ((r : List Value) (v : Value) → IsRow cs ss r → slice_get (put r i v) i ≡ Some v) → (r : List Value) (v : Value) → IsRow (c ∷ cs) (s ∷ ss) r → slice_get (put r (suc i) v) (suc i) ≡ Some v
unfolding put
here_tail c cs s ss i f [] v h = let e : false ≡ true = h.fitting in cc
here_tail c cs s ss i f (x ∷ xs) v h = f xs v (row_tail c cs s ss x xs h)

within : (k : Kind) (s : ColumnSet) (v : Value) → IsTrue (is_value_of k v && in_set s v) → Within k s v
within k s v h = record { of_kind = and_first _ _ h; inside = and_second _ _ h }

two_head : (c : schema_column.Column) (cs : List schema_column.Column) (s : ColumnSet) (ss : List ColumnSet) → HasTwo c.kind s → TwoAt (c ∷ cs) (s ∷ ss) 0
two_head c cs s ss h = by (value_cmp h.one h.other) refl
  where
    v : Within c.kind s h.one
    v = within c.kind s h.one h.one_in

    w : Within c.kind s h.other
    w = within c.kind s h.other h.other_in

    by : (o : Ordering) → value_cmp h.one h.other ≡ o → TwoAt (c ∷ cs) (s ∷ ss) 0
    by Less e = record {
      low = h.one;
      high = h.other;
      less = e;
      shown = λ p. h.differ (print_one c.kind _ _ v.of_kind w.of_kind p);
      low_row = put_head c cs s ss h.one v;
      high_row = put_head c cs s ss h.other w;
      here = here_head c cs s ss;
    }
    by Equal e = absurd (h.differ (value_exact h.one h.other e))
    by Greater e = record {
      low = h.other;
      high = h.one;
      less = value_total.antisymm h.other h.one ∙ ap ordering_reverse e;
      shown = λ p. h.differ (sym (print_one c.kind _ _ w.of_kind v.of_kind p));
      low_row = put_head c cs s ss h.other w;
      high_row = put_head c cs s ss h.one v;
      here = here_head c cs s ss;
    }

pub two_at : (cs : List schema_column.Column) (ss : List ColumnSet) (i : ℕ) → IsMany cs ss i → TwoAt cs ss i
two_at [] ss i h = absurd h
two_at (c ∷ cs) [] zero h = absurd h
two_at (c ∷ cs) [] (suc i) h = absurd (by (slice_get cs i) h)
  where
    by : (o : Option schema_column.Column) → IsManyOf o None → ⊥
    by None x = x
    by (Some c) x = x
two_at (c ∷ cs) (s ∷ ss) zero h = two_head c cs s ss h
two_at (c ∷ cs) (s ∷ ss) (suc i) h =
    let t = two_at cs ss i h in
    record { low = t.low; high = t.high; less = t.less; shown = t.shown; low_row = put_tail c cs s ss i t.low t.low_row; high_row = put_tail c cs s ss i t.high t.high_row; here = here_tail c cs s ss i t.here }
