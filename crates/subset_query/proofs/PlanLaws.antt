-- What two plans that give the same bytes on every table have in common, seen on tables of no row, one row and two.
use Rattle.std.proofs.Common.{◌≡◌, ◌≢◌, ℕ, Bool, true, false, ◌&&◌, cond, ◌⊎◌, inl, inr, IsTrue, List, [], ◌∷◌, ◌++◌, map, refl, sym, ap, ◌∙◌, subst, IsPermutation, filter}
use Rattle.std.specs.List.{flat_map}
use Rattle.std.specs.Ordering.{is_lt}
use Rattle.std.specs.declared.cmp.Ordering.{Ordering}
use Rattle.std.specs.declared.cmp.Ordering.TheVariants.{Less, Equal, Greater}
use Rattle.std.proofs.lemmas.List.Sorted.{IsPermutation-refl}
use Rattle.cite_schema.specs.declared.schema.Column as schema_column
use Rattle.cite_schema.specs.declared.value.Value.{Value}
use Rattle.cite_schema.specs.Answers.{Plan, Gives, Alike, order_cmp}
use Rattle.cite_schema.specs.Tables.{is_table, fits, key_cmp, rises}
use Rattle.cite_schema.specs.Layout.{line, cells, laid_out}
use Rattle.subset_query.proofs.Lines.{lines_split}
use Rattle.subset_query.proofs.Small.{none_moved, one_moved, two_moved, Two, turn_two}

abbrev labels : Plan → List (List ℕ)
labels p = map (λ i. i.label) p.items

-- the bytes of given rows
abbrev bytes : Plan → List (List Value) → List ℕ
bytes p rows = laid_out p.items rows

from_rows : (p : Plan) (table rows : List (List Value)) (kept : List (List Value)) → filter p.keeps table ≡ kept → IsPermutation kept rows → IsTrue (rises (λ r t. is_lt (order_cmp p.order r t)) rows) → Gives p table (bytes p rows)
from_rows p table rows kept e m up = record { rows = rows; answer = record { same = subst (λ k. IsPermutation k rows) (sym e) m; in_order = up }; bytes = refl }

module _ (p : Plan) where
  pub gives_none : Gives p [] (bytes p [])
  gives_none = from_rows p [] [] [] refl (IsPermutation-refl []) refl

  kept_one : (r : List Value) (b : Bool) → p.keeps r ≡ b → filter p.keeps (r ∷ []) ≡ cond b (r ∷ []) []
  kept_one r b e = ap (λ v. cond v (r ∷ []) []) e

  pub gives_one : (r : List Value) → p.keeps r ≡ true → Gives p (r ∷ []) (bytes p (r ∷ []))
  gives_one r e = from_rows p (r ∷ []) (r ∷ []) (r ∷ []) (kept_one r true e) (IsPermutation-refl (r ∷ [])) refl

  pub gives_no : (r : List Value) → p.keeps r ≡ false → Gives p (r ∷ []) (bytes p [])
  gives_no r e = from_rows p (r ∷ []) [] [] (kept_one r false e) (IsPermutation-refl []) refl

  pub none_given : (b : List ℕ) → Gives p [] b → b ≡ bytes p []
  none_given b g = g.bytes ∙ ap (bytes p) (none_moved g.rows g.answer.same)

  pub one_given : (r : List Value) (b : List ℕ) → p.keeps r ≡ true → Gives p (r ∷ []) b → b ≡ bytes p (r ∷ [])
  one_given r b e g = g.bytes ∙ ap (bytes p) (one_moved r g.rows (subst (λ k. IsPermutation k g.rows) (kept_one r true e) g.answer.same))

  pub no_given : (r : List Value) (b : List ℕ) → p.keeps r ≡ false → Gives p (r ∷ []) b → b ≡ bytes p []
  no_given r b e g = g.bytes ∙ ap (bytes p) (none_moved g.rows (subst (λ k. IsPermutation k g.rows) (kept_one r false e) g.answer.same))

  kept_two : (r t : List Value) → p.keeps r ≡ true → p.keeps t ≡ true → filter p.keeps (r ∷ t ∷ []) ≡ r ∷ t ∷ []
  kept_two r t d e = ap (λ v. cond v (r ∷ cond (p.keeps t) (t ∷ []) []) (cond (p.keeps t) (t ∷ []) [])) d ∙ ap (λ v. r ∷ cond v (t ∷ []) []) e

  up_two : (r t : List Value) → order_cmp p.order r t ≡ Less → IsTrue (rises (λ a b. is_lt (order_cmp p.order a b)) (r ∷ t ∷ []))
  up_two r t h = ap (λ o. is_lt o && true) h

  pub gives_two : (r t : List Value) → p.keeps r ≡ true → p.keeps t ≡ true → order_cmp p.order r t ≡ Less → Gives p (r ∷ t ∷ []) (bytes p (r ∷ t ∷ []))
  gives_two r t d e h = from_rows p (r ∷ t ∷ []) (r ∷ t ∷ []) (r ∷ t ∷ []) (kept_two r t d e) (IsPermutation-refl (r ∷ t ∷ [])) (up_two r t h)

  pub gives_turned : (r t : List Value) → p.keeps r ≡ true → p.keeps t ≡ true → order_cmp p.order t r ≡ Less → Gives p (r ∷ t ∷ []) (bytes p (t ∷ r ∷ []))
  gives_turned r t d e h = from_rows p (r ∷ t ∷ []) (t ∷ r ∷ []) (r ∷ t ∷ []) (kept_two r t d e) (turn_two r t) (up_two t r h)

  was_less : (o : Ordering) → (is_lt o && true) ≡ true → o ≡ Less
  was_less Less h = refl
  was_less Equal h = cc
  was_less Greater h = cc

  pub two_given : (r t : List Value) (b : List ℕ) → p.keeps r ≡ true → p.keeps t ≡ true → Gives p (r ∷ t ∷ []) b
      → ((order_cmp p.order r t ≡ Less) × (b ≡ bytes p (r ∷ t ∷ []))) ⊎ ((order_cmp p.order t r ≡ Less) × (b ≡ bytes p (t ∷ r ∷ [])))
  two_given r t b d e g = by (two_moved r t g.rows (subst (λ k. IsPermutation k g.rows) (kept_two r t d e) g.answer.same))
    where
      by : Two r t g.rows → ((order_cmp p.order r t ≡ Less) × (b ≡ bytes p (r ∷ t ∷ []))) ⊎ ((order_cmp p.order t r ≡ Less) × (b ≡ bytes p (t ∷ r ∷ [])))
      by (inl h) = inl (was_less (order_cmp p.order r t) (subst (λ (rows : List (List Value)). IsTrue (rises (λ x y. is_lt (order_cmp p.order x y)) rows)) h g.answer.in_order), g.bytes ∙ ap (bytes p) h)
      by (inr h) = inr (was_less (order_cmp p.order t r) (subst (λ (rows : List (List Value)). IsTrue (rises (λ x y. is_lt (order_cmp p.order x y)) rows)) h g.answer.in_order), g.bytes ∙ ap (bytes p) h)

split : (ts us : List (List ℕ)) (x y : List ℕ) → ts ≢ [] → us ≢ [] → line ts ++ x ≡ line us ++ y → (ts ≡ us) × (x ≡ y)
split [] us x y p q e = absurd (p refl)
split (t ∷ ts) [] x y p q e = absurd (q refl)
split (t ∷ ts) (u ∷ us) x y p q e = lines_split t u ts us x y e

no_line : (ts : List (List ℕ)) (x : List ℕ) → ts ≢ [] → line ts ++ x ≡ [] → ⊥
no_line [] x p e = p refl
no_line (t ∷ ts) x p e = cc

some_map : {X Y : Type 0} (f : X → Y) (xs : List X) → xs ≢ [] → map f xs ≢ []
some_map f [] p e = p refl
some_map f (x ∷ xs) p e = cc

module _ (s : List schema_column.Column) (p q : Plan) (some_p : p.items ≢ []) (some_q : q.items ≢ []) (alike : Alike s p q) where
  some_labels : (w : Plan) → w.items ≢ [] → labels w ≢ []
  some_labels w h = some_map (λ i. i.label) w.items h

  some_cells : (w : Plan) (r : List Value) → w.items ≢ [] → cells w.items r ≢ []
  some_cells w r h = some_map _ w.items h

  whole : (rows rest : List (List Value)) → bytes p rows ≡ bytes q rest → (labels p ≡ labels q) × (flat_map (λ r. line (cells p.items r)) rows ≡ flat_map (λ r. line (cells q.items r)) rest)
  whole rows rest e = split (labels p) (labels q) _ _ (some_labels p some_p) (some_labels q some_q) e

  pub same_labels : labels p ≡ labels q
  same_labels = (whole [] [] (none_given q (bytes p []) ((alike [] refl (bytes p [])).0 (gives_none p)))).0

  one_table : (r : List Value) → fits s r ≡ true → IsTrue (is_table s (r ∷ []))
  one_table r f = ap (λ b. (b && true) && true) f

  pub kept_there : (r : List Value) → fits s r ≡ true → p.keeps r ≡ true → (q.keeps r ≡ true) × (cells p.items r ≡ cells q.items r)
  kept_there r f k = by (q.keeps r) refl
    where
      there : Gives q (r ∷ []) (bytes p (r ∷ []))
      there = (alike (r ∷ []) (one_table r f) (bytes p (r ∷ []))).0 (gives_one p r k)

      by : (b : Bool) → q.keeps r ≡ b → (q.keeps r ≡ true) × (cells p.items r ≡ cells q.items r)
      by true e = (e, (split (cells p.items r) (cells q.items r) [] [] (some_cells p r some_p) (some_cells q r some_q) (whole (r ∷ []) (r ∷ []) (one_given q r _ e there)).1).0)
      by false e = absurd (no_line (cells p.items r) [] (some_cells p r some_p) (whole (r ∷ []) [] (no_given q r _ e there)).1)

  two_table : (r t : List Value) → fits s r ≡ true → fits s t ≡ true → key_cmp r t ≡ Less → IsTrue (is_table s (r ∷ t ∷ []))
  two_table r t f g h = ap (λ b. (b && (fits s t && true)) && (is_lt (key_cmp r t) && true)) f ∙ ap (λ b. (b && true) && (is_lt (key_cmp r t) && true)) g ∙ ap (λ o. is_lt o && true) h

  crossed : (r t : List Value) (x y : List ℕ) → fits s t ≡ true → p.keeps t ≡ true → line (cells p.items r) ++ x ≡ line (cells q.items t) ++ y → cells p.items r ≡ cells p.items t
  crossed r t x y f k e = (split (cells p.items r) (cells q.items t) x y (some_cells p r some_p) (some_cells q t some_q) e).0 ∙ sym (kept_there t f k).1

  -- rows that show different cells stand in one order
  pub same_order : (r t : List Value) → fits s r ≡ true → fits s t ≡ true → key_cmp r t ≡ Less → p.keeps r ≡ true → p.keeps t ≡ true
      → cells p.items r ≢ cells p.items t → order_cmp p.order r t ≡ Less → order_cmp q.order r t ≡ Less
  same_order r t f g h k l differ o = by (two_given q r t _ (kept_there r f k).0 (kept_there t g l).0 ((alike (r ∷ t ∷ []) (two_table r t f g h) _).0 (gives_two p r t k l o)))
    where
      by : ((order_cmp q.order r t ≡ Less) × (bytes p (r ∷ t ∷ []) ≡ bytes q (r ∷ t ∷ []))) ⊎ ((order_cmp q.order t r ≡ Less) × (bytes p (r ∷ t ∷ []) ≡ bytes q (t ∷ r ∷ []))) → order_cmp q.order r t ≡ Less
      by (inl w) = w.0
      by (inr w) = absurd (differ (crossed r t _ _ g l (whole (r ∷ t ∷ []) (t ∷ r ∷ []) w.1).1))

  pub same_turned : (r t : List Value) → fits s r ≡ true → fits s t ≡ true → key_cmp r t ≡ Less → p.keeps r ≡ true → p.keeps t ≡ true
      → cells p.items r ≢ cells p.items t → order_cmp p.order t r ≡ Less → order_cmp q.order t r ≡ Less
  same_turned r t f g h k l differ o = by (two_given q r t _ (kept_there r f k).0 (kept_there t g l).0 ((alike (r ∷ t ∷ []) (two_table r t f g h) _).0 (gives_turned p r t k l o)))
    where
      by : ((order_cmp q.order r t ≡ Less) × (bytes p (t ∷ r ∷ []) ≡ bytes q (r ∷ t ∷ []))) ⊎ ((order_cmp q.order t r ≡ Less) × (bytes p (t ∷ r ∷ []) ≡ bytes q (t ∷ r ∷ []))) → order_cmp q.order t r ≡ Less
      by (inl w) = absurd (differ (sym (crossed t r _ _ f k (whole (t ∷ r ∷ []) (r ∷ t ∷ []) w.1).1)))
      by (inr w) = w.0
