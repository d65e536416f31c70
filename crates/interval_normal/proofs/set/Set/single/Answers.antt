use Rattle.std.proofs.Common.{◌≡◌, ◌↔◌, [], ◌∷◌, Some, None, true, false, length, sym, ◌∙◌, subst, arith}
use Rattle.interval_normal.specs.Spans.{HoldsOne, IsCanonical}
use Rattle.interval_normal.proofs.Order.{IsLine}
use Rattle.interval_normal.proofs.Places.{sole}
use Rattle.interval_normal.proofs.Lone.{found, not_alone, not_lone}
use Rattle.interval_normal.proofs.set.Set.single.Goals as goal

pub returns-then-spans-ne1 : goal.returns-then-spans-ne1
returns-then-spans-ne1 g c =
    let p = g.P.Point in
    let met = g.met.P.Point in
    let line : IsLine p.cmp = record { total = met.total; exact = met.exact } in
    let same = c.as_slice-spans.ensures ∙ c.self.view_is in
    not_lone p.valid p.cmp line p.next met.next_is c.args.self.now (subst (λ l. IsCanonical p.valid p.cmp l) c.self.view_is c.self.invariant)
    (subst (λ l. length l ≡ 1 → ⊥) same (λ (e : length c.as_slice-spans.result.now ≡ 1). omega arith))

pub returns-then-branch : goal.returns-then-branch
returns-then-branch g c =
    let p = g.P.Point in
    let met = g.met.P.Point in
    let line : IsLine p.cmp = record { total = met.total; exact = met.exact } in
    let s = c.index-spans-0.result in
    let one : c.args.self.now ≡ s ∷ [] = sym (c.as_slice-spans.ensures ∙ c.self.view_is) ∙ sole c.as_slice-spans.result.now s (omega arith) (omega arith) c.index-spans-0.is in
    let canonical : IsCanonical p.valid p.cmp (s ∷ []) = subst (λ l. IsCanonical p.valid p.cmp l) (c.self.view_is ∙ one) c.self.invariant in
    λ x. subst (λ l. (Some s.low ≡ Some x) ↔ HoldsOne p.valid p.cmp l x) (sym one) (found p.valid p.cmp line p.next met.next_is s canonical (c.in_ok-is_alone.ensures.0 c.if-branch.true) x)

pub returns-else-branch : goal.returns-else-branch
returns-else-branch g c =
    let p = g.P.Point in
    let met = g.met.P.Point in
    let line : IsLine p.cmp = record { total = met.total; exact = met.exact } in
    let s = c.index-spans-0.result in
    let one : c.args.self.now ≡ s ∷ [] = sym (c.as_slice-spans.ensures ∙ c.self.view_is) ∙ sole c.as_slice-spans.result.now s (omega arith) (omega arith) c.index-spans-0.is in
    let canonical : IsCanonical p.valid p.cmp (s ∷ []) = subst (λ l. IsCanonical p.valid p.cmp l) (c.self.view_is ∙ one) c.self.invariant in
    λ x. subst (λ l. (None ≡ Some x) ↔ HoldsOne p.valid p.cmp l x) (sym one)
    (not_alone p.valid p.cmp line p.next met.next_is s canonical (λ e. let clash : true ≡ false = sym (c.in_ok-is_alone.ensures.1 e) ∙ c.if-branch.false in cc) x)
