-- Plans that keep the same rows, put them in one order and show the same of them give the same bytes.
use Rattle.std.proofs.Common.{◌≡◌, ℕ, Bool, true, false, ◌&&◌, cond, inl, inr, IsTrue, List, [], ◌∷◌, ◌++◌, refl, sym, ap, ◌∙◌, subst, filter, IsPermutation}
use Rattle.std.specs.List.{AllByRecursion, list_all, flat_map}
use Rattle.std.specs.List.Sorted.{IsStrictlySortedBy}
use Rattle.std.specs.Ordering.{is_lt, ordering_reverse}
use Rattle.std.specs.declared.cmp.Ordering.TheVariants.{Less, Equal}
use Rattle.cite_schema.specs.declared.schema.Column as schema_column
use Rattle.cite_schema.specs.declared.value.Value.{Value}
use Rattle.cite_schema.specs.declared.item.Item.{Item}
use Rattle.cite_schema.specs.Tables.{fits, key_cmp, rises, is_table}
use Rattle.cite_schema.specs.Layout.{labels, cells, line}
use Rattle.cite_schema.specs.Answers.{Plan, Gives, Alike, order_cmp}
use Rattle.cite_schema.proofs.Rising.{In, all_at, moved_in, sorted_from_rises, and_first, and_second}
use Rattle.cite_schema.proofs.Orders.{key_total}
use Rattle.cite_schema.proofs.Answered.{kept_keyed}

pub alike_self : (cs : List schema_column.Column) (p : Plan) → Alike cs p p
alike_self cs p = λ table t b. (λ g. g, λ g. g)

pub alike_back : (cs : List schema_column.Column) (p q : Plan) → Alike cs p q → Alike cs q p
alike_back cs p q h = λ table t b. ((h table t b).1, (h table t b).0)

pub alike_on : (cs : List schema_column.Column) (p q w : Plan) → Alike cs p q → Alike cs q w → Alike cs p w
alike_on cs p q w h g = λ table t b. (λ x. (g table t b).0 ((h table t b).0 x), λ x. (h table t b).1 ((g table t b).1 x))

-- a row of the columns that the plan keeps
pub record IsKept (cs : List schema_column.Column) (p : Plan) (r : List Value) : Type 0 where
  pub fitting : fits cs r ≡ true
  pub kept : p.keeps r ≡ true

-- the two keep the same rows, order rows that can stand in one table alike, and show the same of each
pub record Agree (cs : List schema_column.Column) (p q : Plan) : Type 0 where
  pub keeps : (r : List Value) → fits cs r ≡ true → p.keeps r ≡ q.keeps r
  pub order : (r t : List Value) → IsKept cs p r → IsKept cs p t → (key_cmp r t ≡ Equal → r ≡ t) → order_cmp p.order r t ≡ order_cmp q.order r t
  pub labels : labels p.items ≡ labels q.items
  pub cells : (r : List Value) → IsKept cs p r → cells p.items r ≡ cells q.items r

pub agree_back : (cs : List schema_column.Column) (p q : Plan) → Agree cs p q → Agree cs q p
agree_back cs p q h = record {
  keeps = λ r f. sym (h.keeps r f);
  order = λ r t k l e. sym (h.order r t (turned r k) (turned t l) e);
  labels = sym h.labels;
  cells = λ r k. sym (h.cells r (turned r k));
}
  where
    turned : (r : List Value) → IsKept cs q r → IsKept cs p r
    turned r k = record { fitting = k.fitting; kept = h.keeps r k.fitting ∙ k.kept }

same_kept : (cs : List schema_column.Column) (f g : List Value → Bool) → ((r : List Value) → fits cs r ≡ true → f r ≡ g r) → (table : List (List Value)) → list_all (λ r. fits cs r) table ≡ true → filter f table ≡ filter g table
same_kept cs f g same [] h = refl
same_kept cs f g same (r ∷ rs) h =
    ap (λ b. cond b (r ∷ filter f rs) (filter f rs)) (same r (and_first _ _ h)) ∙ ap (λ ks. cond (g r) (r ∷ ks) ks) (same_kept cs f g same rs (and_second _ _ h))

kept_in : (cs : List schema_column.Column) (p : Plan) (table : List (List Value)) → list_all (λ r. fits cs r) table ≡ true → (r : List Value) → In r (filter p.keeps table) → IsKept cs p r
kept_in cs p [] h r i = absurd i
kept_in cs p (t ∷ ts) h r i = by (p.keeps t) refl i (λ j. kept_in cs p ts (and_second _ _ h) r j)
  where
    by : (b : Bool) → p.keeps t ≡ b → In r (cond b (t ∷ filter p.keeps ts) (filter p.keeps ts)) → (In r (filter p.keeps ts) → IsKept cs p r) → IsKept cs p r
    by true k (inl e) more = subst (IsKept cs p) (sym e) (record { fitting = and_first _ _ h; kept = k })
    by true k (inr j) more = more j
    by false k j more = more j

rises_alike : (f g : List Value → List Value → Bool) (xs : List (List Value)) → ((r t : List Value) → In r xs → In t xs → f r t ≡ g r t)
    → (rows : List (List Value)) → AllByRecursion (λ r. In r xs) rows → rises f rows ≡ rises g rows
rises_alike f g xs same [] h = refl
rises_alike f g xs same (r ∷ []) h = refl
rises_alike f g xs same (r ∷ t ∷ ts) h = ap (λ b. b && rises f (t ∷ ts)) (same r t h.0 h.1.0) ∙ ap (λ b. g r t && b) (rises_alike f g xs same (t ∷ ts) h.1)

lines_alike : (is js : List Item) (xs : List (List Value)) → ((r : List Value) → In r xs → cells is r ≡ cells js r)
    → (rows : List (List Value)) → AllByRecursion (λ r. In r xs) rows → flat_map (λ r. line (cells is r)) rows ≡ flat_map (λ r. line (cells js r)) rows
lines_alike is js xs same [] h = refl
lines_alike is js xs same (r ∷ rs) h = ap (λ c. line c ++ flat_map (λ r. line (cells is r)) rs) (same r h.0) ∙ ap (λ l. line (cells js r) ++ l) (lines_alike is js xs same rs h.1)

less_equal : Less ≡ Equal → ⊥
less_equal e = cc

-- of rows with rising keys two are one where their keys are equal
one_row : (xs : List (List Value)) → IsStrictlySortedBy key_cmp xs → (r t : List Value) → In r xs → In t xs → key_cmp r t ≡ Equal → r ≡ t
unfolding IsStrictlySortedBy
one_row [] h r t i j e = absurd i
one_row (x ∷ xs) h r t (inl i) (inl j) e = i ∙ sym j
one_row (x ∷ xs) h r t (inl i) (inr j) e = absurd (less_equal (sym (all_at (λ y. key_cmp x y ≡ Less) t xs h.0 j) ∙ ap (λ w. key_cmp w t) (sym i) ∙ e))
one_row (x ∷ xs) h r t (inr i) (inl j) e =
    absurd (less_equal (sym (all_at (λ y. key_cmp x y ≡ Less) r xs h.0 i) ∙ key_total.antisymm x r ∙ ap ordering_reverse (ap (λ w. key_cmp r w) (sym j) ∙ e)))
one_row (x ∷ xs) h r t (inr i) (inr j) e = one_row xs h.1 r t i j e

module _ (cs : List schema_column.Column) (p q : Plan) (agree : Agree cs p q) where
  one_side : (table : List (List Value)) → IsTrue (is_table cs table) → (b : List ℕ) → Gives p table b → Gives q table b
  one_side table h b g =
      let kept = filter p.keeps table in
      let fit = and_first _ _ h in
      let inside = moved_in kept g.rows g.answer.same in
      let own = sorted_from_rises key_cmp key_total kept (kept_keyed p.keeps table (and_second _ _ h)) in
      let order = rises_alike (λ r t. is_lt (order_cmp p.order r t)) (λ r t. is_lt (order_cmp q.order r t)) kept
      (λ r t i j. ap is_lt (agree.order r t (kept_in cs p table fit r i) (kept_in cs p table fit t j) (λ e. one_row kept own r t i j e)))
      g.rows inside in
      record {
        rows = g.rows;
        answer = record {
          same = subst (λ k. IsPermutation k g.rows) (same_kept cs p.keeps q.keeps agree.keeps table fit) g.answer.same;
          in_order = sym order ∙ g.answer.in_order;
        };
        bytes = g.bytes ∙ ap (λ l. line l ++ flat_map (λ r. line (cells p.items r)) g.rows) agree.labels
            ∙ ap (λ l. line (labels q.items) ++ l) (lines_alike p.items q.items kept (λ r i. agree.cells r (kept_in cs p table fit r i)) g.rows inside);
      }

pub alike_by : (cs : List schema_column.Column) (p q : Plan) → Agree cs p q → Alike cs p q
alike_by cs p q agree = λ table h b. (one_side cs p q agree table h b, one_side cs q p (agree_back cs p q agree) table h b)
