-- An answer carried row by row.
use Rattle.std.proofs.Common.{◌≡◌, ℕ, Bool, true, false, ◌&&◌, cond, List, [], ◌∷◌, ◌++◌, IsPermutation, map, filter, refl, sym, ap, ◌∙◌, subst}
use Rattle.std.specs.List.{AllByRecursion, flat_map}
use Rattle.std.specs.Ordering.{is_lt}
use Rattle.std.proofs.lemmas.List.Elements.{recursion_from_All, All-from_recursion}
use Rattle.std.proofs.lemmas.List.Sorted.{All-permutation, IsPermutation-map}
use Rattle.cite_schema.specs.Tables.{rises}
use Rattle.cite_schema.specs.Layout.{line, cells, labels}
use Rattle.cite_schema.specs.Answers.{Plan, Gives, order_cmp}
use Rattle.cite_schema.specs.declared.value.Value.{Value}

-- of rows of which P holds, the second plan asks of the carried row what the first asks of the row
pub record Carry (P : List Value → Type 0) (g : List Value → List Value) (p q : Plan) : Type 0 where
  pub keeps : (r : List Value) → P r → q.keeps (g r) ≡ p.keeps r
  pub order : (r t : List Value) → P r → P t → order_cmp q.order (g r) (g t) ≡ order_cmp p.order r t
  pub labels : labels q.items ≡ labels p.items
  pub cells : (r : List Value) → P r → cells q.items (g r) ≡ cells p.items r

module _ (P : List Value → Type 0) (g : List Value → List Value) (p q : Plan) (c : Carry P g p q) where
  kept : (table : List (List Value)) → AllByRecursion P table → filter q.keeps (map g table) ≡ map g (filter p.keeps table)
  kept [] h = refl
  kept (r ∷ rs) h = ap (λ b. cond b (g r ∷ filter q.keeps (map g rs)) (filter q.keeps (map g rs))) (c.keeps r h.0) ∙ by (p.keeps r) (kept rs h.1)
    where
      by : (b : Bool) → filter q.keeps (map g rs) ≡ map g (filter p.keeps rs) → cond b (g r ∷ filter q.keeps (map g rs)) (filter q.keeps (map g rs)) ≡ map g (cond b (r ∷ filter p.keeps rs) (filter p.keeps rs))
      by true e = ap (λ l. g r ∷ l) e
      by false e = e

  all_kept : (table : List (List Value)) → AllByRecursion P table → AllByRecursion P (filter p.keeps table)
  all_kept [] h = tt
  all_kept (r ∷ rs) h = by (p.keeps r) (all_kept rs h.1)
    where
      by : (b : Bool) → AllByRecursion P (filter p.keeps rs) → AllByRecursion P (cond b (r ∷ filter p.keeps rs) (filter p.keeps rs))
      by true k = (h.0, k)
      by false k = k

  in_order : (rows : List (List Value)) → AllByRecursion P rows → rises (λ r t. is_lt (order_cmp q.order r t)) (map g rows) ≡ rises (λ r t. is_lt (order_cmp p.order r t)) rows
  in_order [] h = refl
  in_order (r ∷ []) h = refl
  in_order (r ∷ t ∷ ts) h =
      ap (λ o. is_lt o && rises (λ x y. is_lt (order_cmp q.order x y)) (g t ∷ map g ts)) (c.order r t h.0 h.1.0)
      ∙ ap (λ b. is_lt (order_cmp p.order r t) && b) (in_order (t ∷ ts) h.1)

  lines : (rows : List (List Value)) → AllByRecursion P rows → flat_map (λ r. line (cells q.items r)) (map g rows) ≡ flat_map (λ r. line (cells p.items r)) rows
  lines [] h = refl
  lines (r ∷ rs) h = ap (λ x. line x ++ flat_map (λ t. line (cells q.items t)) (map g rs)) (c.cells r h.0) ∙ ap (λ l. line (cells p.items r) ++ l) (lines rs h.1)

  -- the second plan gives on the carried table what the first gives on the table
  pub carried_gives : (table : List (List Value)) (b : List ℕ) → AllByRecursion P table → Gives p table b → Gives q (map g table) b
  carried_gives table b h given =
      let all : AllByRecursion P given.rows = recursion_from_All P given.rows (All-permutation P (filter p.keeps table) given.rows given.answer.same (All-from_recursion P (filter p.keeps table) (all_kept table h))) in
      record {
        rows = map g given.rows;
        answer = record {
          same = subst (λ l. IsPermutation l (map g given.rows)) (sym (kept table h)) (IsPermutation-map g (filter p.keeps table) given.rows given.answer.same);
          in_order = in_order given.rows all ∙ given.answer.in_order;
        };
        bytes = given.bytes ∙ ap (λ l. line l ++ flat_map (λ r. line (cells p.items r)) given.rows) (sym c.labels) ∙ ap (λ l. line (labels q.items) ++ l) (sym (lines given.rows all));
      }
