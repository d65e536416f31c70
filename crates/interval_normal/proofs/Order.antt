-- What follows from a total order in which equal points are one.
use Rattle.std.proofs.Common.{◌≡◌, true, false, not, refl, sym, ap, ◌∙◌, subst}
use Rattle.std.specs.Cmp.{IsTotalOrder}
use Rattle.interval_normal.specs.Spans.{IsNextOf}
use Rattle.std.proofs.Common.{Some}
use Rattle.std.specs.Ordering.{ordering_reverse, is_lt, is_ge, is_gt}
use Rattle.std.specs.declared.cmp.Ordering.{Ordering}
use Rattle.std.specs.declared.cmp.Ordering.TheVariants.{Less, Equal, Greater}

-- an order in which equal points are one
pub record IsLine {P : Type 0} (cmp : P → P → Ordering) : Type 0 where
  pub total : IsTotalOrder cmp
  pub exact : (x y : P) → cmp x y ≡ Equal → x ≡ y

module _ {P : Type 0} (cmp : P → P → Ordering) (line : IsLine cmp) where
  pub self_equal : (x : P) → cmp x x ≡ Equal
  self_equal x = by (cmp x x) (line.total.antisymm x x)
    where
      by : (o : Ordering) → o ≡ ordering_reverse o → o ≡ Equal
      by Less h = cc
      by Equal h = refl
      by Greater h = cc

  pub greater_less : (x y : P) → cmp x y ≡ Greater → cmp y x ≡ Less
  greater_less x y h = line.total.antisymm y x ∙ ap ordering_reverse h

  pub less_greater : (x y : P) → cmp x y ≡ Less → cmp y x ≡ Greater
  less_greater x y h = line.total.antisymm y x ∙ ap ordering_reverse h

  -- x is not below y, and y is below z
  pub less_after : (x y z : P) → is_ge (cmp x y) ≡ true → cmp z y ≡ Less → cmp z x ≡ Less
  less_after x y z h k = by (cmp x y) refl h
    where
      by : (o : Ordering) → cmp x y ≡ o → is_ge o ≡ true → cmp z x ≡ Less
      by Less e g = cc
      by Equal e g = subst (λ w. cmp z w ≡ Less) (sym (line.exact x y e)) k
      by Greater e g = line.total.trans z y x k (greater_less x y e)

  pub less_not_less : (x y : P) → cmp x y ≡ Less → cmp y x ≡ Less → ⊥
  less_not_less x y h k = let e = less_greater x y h in cc

  pub ge_from_less : (x y : P) → cmp x y ≡ Less → is_ge (cmp y x) ≡ true
  ge_from_less x y h = ap is_ge (less_greater x y h)

  pub ge_from_same : (x : P) → is_ge (cmp x x) ≡ true
  ge_from_same x = ap is_ge (self_equal x)

  pub ge_trans : (x y z : P) → is_ge (cmp x y) ≡ true → is_ge (cmp y z) ≡ true → is_ge (cmp x z) ≡ true
  ge_trans x y z h k = by (cmp y z) refl k
    where
      by : (o : Ordering) → cmp y z ≡ o → is_ge o ≡ true → is_ge (cmp x z) ≡ true
      by Less e g = cc
      by Equal e g = subst (λ w. is_ge (cmp x w) ≡ true) (line.exact y z e) h
      by Greater e g = ge_from_less z x (less_after x y z h (greater_less y z e))

  -- x is at most y, and y is below z
  pub less_before : (x y z : P) → is_ge (cmp y x) ≡ true → cmp y z ≡ Less → cmp x z ≡ Less
  less_before x y z h k = by (cmp y x) refl h
    where
      by : (o : Ordering) → cmp y x ≡ o → is_ge o ≡ true → cmp x z ≡ Less
      by Less e g = cc
      by Equal e g = subst (λ w. cmp w z ≡ Less) (line.exact y x e) k
      by Greater e g = line.total.trans x y z (greater_less y x e) k

pub lt_not_ge : (o : Ordering) → is_lt o ≡ not (is_ge o)
lt_not_ge Less = refl
lt_not_ge Equal = refl
lt_not_ge Greater = refl

-- what is not below the next value of p is above p
module _ {P : Type 0} (valid : P → Type 0) (cmp : P → P → Ordering) (line : IsLine cmp) where
  pub from_next_above : (p n x : P) → IsNextOf valid cmp p (Some n) → valid x → is_ge (cmp x n) ≡ is_gt (cmp x p)
  from_next_above p n x h v = by (cmp x p) refl
    where
      below : cmp x n ≡ Less → (o : Ordering) → is_gt o ≡ false → is_ge (cmp x n) ≡ is_gt o
      below l o g = ap is_ge l ∙ sym g

      by : (o : Ordering) → cmp x p ≡ o → is_ge (cmp x n) ≡ is_gt (cmp x p)
      by Less e = ap is_ge (line.total.trans x p n e h.1) ∙ sym (ap is_gt e)
      by Equal e = ap is_ge (subst (λ w. cmp w n ≡ Less) (sym (line.exact x p e)) h.1) ∙ sym (ap is_gt e)
      by Greater e = h.2 x v (greater_less cmp line x p e) ∙ sym (ap is_gt e)
