use Rattle.std.proofs.Common.{◌≡◌, ◌↔◌, [], ◌∷◌, IsTrue, true, length, sym, ◌∙◌, subst, arith}
use Rattle.interval_normal.specs.Spans.{has, IsCanonical}
use Rattle.interval_normal.proofs.Order.{IsLine}
use Rattle.interval_normal.proofs.Places.{sole}
use Rattle.interval_normal.proofs.Lone.{whole_one, not_whole}
use Rattle.interval_normal.proofs.set.Set.is_full.Goals as goal

pub returns-in_default : goal.returns-in_default
returns-in_default g c =
    let p = g.P.Point in
    let met = g.met.P.Point in
    let line : IsLine p.cmp = record { total = met.total; exact = met.exact } in
    let same = c.as_slice.ensures ∙ c.self.view_is in
    not_whole p.valid p.cmp line p.bottom met.bottom_valid met.from_bottom c.args.self.now (subst (λ l. IsCanonical p.valid p.cmp l) c.self.view_is c.self.invariant)
    (subst (λ l. length l ≡ 1 → ⊥) same (λ (e : length c.as_slice.result.now ≡ 1). omega arith))

pub returns-in_default-2 : goal.returns-in_default-2
returns-in_default-2 g c =
    let p = g.P.Point in
    let met = g.met.P.Point in
    let line : IsLine p.cmp = record { total = met.total; exact = met.exact } in
    let same = c.as_slice.ensures ∙ c.self.view_is in
    not_whole p.valid p.cmp line p.bottom met.bottom_valid met.from_bottom c.args.self.now (subst (λ l. IsCanonical p.valid p.cmp l) c.self.view_is c.self.invariant)
    (subst (λ l. length l ≡ 1 → ⊥) same (λ (e : length c.as_slice.result.now ≡ 1). omega arith))

pub returns-in_ok-whole-in-len1 : goal.returns-in_ok-whole-in-len1
returns-in_ok-whole-in-len1 g c =
    let p = g.P.Point in
    let met = g.met.P.Point in
    let line : IsLine p.cmp = record { total = met.total; exact = met.exact } in
    let s = c.span-item.result in
    let one : c.args.self.now ≡ s ∷ [] = sym (c.as_slice.ensures ∙ c.self.view_is) ∙ sole c.as_slice.result.now s c.in-len1.len_at_least c.in-len1.len_below c.span-item.is in
    let canonical : IsCanonical p.valid p.cmp (s ∷ []) = subst (λ l. IsCanonical p.valid p.cmp l) (c.self.view_is ∙ one) c.self.invariant in
    subst (λ l. IsTrue c.in_ok-whole-in-len1.whole ↔ ((x : _) → p.valid x → has p.cmp l x ≡ true)) (sym one)
    (whole_one p.valid p.cmp line p.bottom met.bottom_valid met.from_bottom s canonical c.in_ok-whole-in-len1.whole c.in_ok-whole-in-len1.ensures)
