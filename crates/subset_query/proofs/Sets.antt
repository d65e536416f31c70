-- Settled sets: each has a value, and two with the same values are one.
use Rattle.std.proofs.Common.{◌≡◌, Bool, true, false, ◌&&◌, List, [], ◌∷◌, refl, sym, ap, ◌∙◌}
use Rattle.std.specs.Ordering.{int_cmp}
use Rattle.cite_schema.specs.declared.value.Kind.{Kind}
use Rattle.cite_schema.specs.declared.value.Kind.TheVariants as kinds
use Rattle.cite_schema.specs.declared.value.Value.{Value}
use Rattle.cite_schema.specs.declared.value.Value.TheVariants.{Int, Text}
use Rattle.cite_schema.specs.declared.schema.Column as schema_column
use Rattle.cite_schema.specs.Values.{is_value_of, text_cmp}
use Rattle.cite_schema.specs.Tables.{fits}
use Rattle.cite_schema.proofs.Rising.{and_first, and_second, and_true}
use Rattle.interval_normal.specs.Points.{number_line_total, number_exact, text_total, text_exact}
use Rattle.interval_normal.proofs.Order.{IsLine}
use Rattle.interval_normal.proofs.Unique.{unique, first, has_low}
use Rattle.subset_query.specs.declared.form.ColumnSet.{ColumnSet}
use Rattle.subset_query.specs.declared.form.ColumnSet.TheVariants.{Ints, Texts}
use Rattle.subset_query.specs.Forms.{in_set, in_sets, IsSetOf, AreSetsOf}

pub numbers : IsLine int_cmp
numbers = record { total = number_line_total; exact = number_exact }

pub texts : IsLine text_cmp
texts = record { total = text_total; exact = text_exact }

-- a value of the kind in the set
pub record Within (k : Kind) (s : ColumnSet) (v : Value) : Type 0 where
  pub of_kind : is_value_of k v ≡ true
  pub inside : in_set s v ≡ true

pub some_within : (k : Kind) (s : ColumnSet) → IsSetOf k s → (v : Value) × Within k s v
some_within kinds.Int (Ints []) h = absurd (h.1 refl)
some_within kinds.Int (Ints (x ∷ xs)) h = (Int x.low, record { of_kind = (first _ _ numbers x xs h.0).low; inside = has_low _ _ numbers x xs h.0 })
some_within kinds.Int (Texts ss) h = absurd h
some_within kinds.Text (Ints ss) h = absurd h
some_within kinds.Text (Texts []) h = absurd (h.1 refl)
some_within kinds.Text (Texts (x ∷ xs)) h = (Text x.low, record { of_kind = (first _ _ texts x xs h.0).low; inside = has_low _ _ texts x xs h.0 })

pub one_set : (k : Kind) (s t : ColumnSet) → IsSetOf k s → IsSetOf k t → ((v : Value) → is_value_of k v ≡ true → in_set s v ≡ in_set t v) → s ≡ t
one_set kinds.Int (Ints ss) (Ints ts) h g same = ap Ints (unique _ _ numbers ss ts h.0 g.0 (λ z f. same (Int z) f))
one_set kinds.Int (Ints ss) (Texts ts) h g same = absurd g
one_set kinds.Int (Texts ss) t h g same = absurd h
one_set kinds.Text (Ints ss) t h g same = absurd h
one_set kinds.Text (Texts ss) (Ints ts) h g same = absurd g
one_set kinds.Text (Texts ss) (Texts ts) h g same = ap Texts (unique _ _ texts ss ts h.0 g.0 (λ z f. same (Text z) f))

-- a row of the schema whose cells are in the sets
pub record IsRow (cs : List schema_column.Column) (ss : List ColumnSet) (r : List Value) : Type 0 where
  pub fitting : fits cs r ≡ true
  pub inside : in_sets ss r ≡ true

pub cons_row : (c : schema_column.Column) (cs : List schema_column.Column) (s : ColumnSet) (ss : List ColumnSet) (v : Value) (r : List Value) → Within c.kind s v → IsRow cs ss r → IsRow (c ∷ cs) (s ∷ ss) (v ∷ r)
cons_row c cs s ss v r w h = record { fitting = and_true _ _ w.of_kind h.fitting; inside = and_true _ _ w.inside h.inside }

pub some_row : (cs : List schema_column.Column) (ss : List ColumnSet) → AreSetsOf cs ss → (r : List Value) × IsRow cs ss r
some_row [] [] h = ([], record { fitting = refl; inside = refl })
some_row [] (s ∷ ss) h = absurd h
some_row (c ∷ cs) [] h = absurd h
some_row (c ∷ cs) (s ∷ ss) h =
    let v = some_within c.kind s h.0 in
    let r = some_row cs ss h.1 in
    (v.0 ∷ r.0, cons_row c cs s ss v.0 r.0 v.1 r.1)

-- sets that hold the same rows are one
pub one_sets : (cs : List schema_column.Column) (ss ts : List ColumnSet) → AreSetsOf cs ss → AreSetsOf cs ts → ((r : List Value) → fits cs r ≡ true → in_sets ss r ≡ in_sets ts r) → ss ≡ ts
one_sets [] [] [] h g same = refl
one_sets [] [] (t ∷ ts) h g same = absurd g
one_sets [] (s ∷ ss) ts h g same = absurd h
one_sets (c ∷ cs) [] ts h g same = absurd h
one_sets (c ∷ cs) (s ∷ ss) [] h g same = absurd g
one_sets (c ∷ cs) (s ∷ ss) (t ∷ ts) h g same =
    let v = some_within c.kind s h.0 in
    let w = some_row cs ss h.1 in
    let both : (in_set t v.0 && in_sets ts w.0) ≡ true = sym (same (v.0 ∷ w.0) (and_true _ _ v.1.of_kind w.1.fitting)) ∙ and_true _ _ v.1.inside w.1.inside in
    let here : in_sets ts w.0 ≡ true = and_second _ _ both in
    let there : in_set t v.0 ≡ true = and_first _ _ both in
    let head : s ≡ t = one_set c.kind s t h.0 g.0 (λ x f. sym (and_yes (in_set s x) (in_sets ss w.0) w.1.inside) ∙ same (x ∷ w.0) (and_true _ _ f w.1.fitting) ∙ and_yes (in_set t x) (in_sets ts w.0) here) in
    let tail : ss ≡ ts = one_sets cs ss ts h.1 g.1 (λ r f. sym (ap (λ b. b && in_sets ss r) v.1.inside) ∙ same (v.0 ∷ r) (and_true _ _ v.1.of_kind f) ∙ ap (λ b. b && in_sets ts r) there) in
    ap (λ x. x ∷ ss) head ∙ ap (λ xs. t ∷ xs) tail
  where
    and_yes : (a b : Bool) → b ≡ true → (a && b) ≡ a
    and_yes true b e = e
    and_yes false b e = refl
