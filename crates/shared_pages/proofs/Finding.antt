-- In a list in order, the element that is equal to a probe is the last one that isn't above it.
use Rattle.std.proofs.Common.{◌≡◌, Bool, true, false, cond, List, [], ◌∷◌, Option, Some, None, refl, sym, ap, ◌∙◌}
use Rattle.std.specs.Cmp.{IsTotalOrder}
use Rattle.std.specs.List.{AllByRecursion, filter, find}
use Rattle.std.specs.List.Sorted.{IsStrictlySortedBy}
use Rattle.std.specs.Ordering.{is_eq, is_le, is_lt}
use Rattle.std.specs.declared.cmp.Ordering.{Ordering}
use Rattle.std.specs.declared.cmp.Ordering.TheVariants.{Less, Equal, Greater}
use Rattle.shared_pages.specs.Probes.{last_of, last_up_to}
use Rattle.shared_pages.proofs.Order.{map_all, turned}
use Rattle.shared_pages.proofs.Probing.{filter_none}

-- the element, where it is equal to the probe
abbrev pub if_equal : {T : Type 0} → (T → T → Ordering) → T → Option T → Option T
if_equal cmp probe None = None
if_equal cmp probe (Some x) = cond (is_eq (cmp x probe)) (Some x) None

module _ {T : Type 0} (cmp : T → T → Ordering) (total : IsTotalOrder cmp) where
  -- what is above an element that is not below the probe, is above the probe
  above : (probe x y : T) → is_lt (cmp x probe) ≡ false → cmp x y ≡ Less → cmp y probe ≡ Greater
  above probe x y n l = by (cmp x probe) refl n
    where
      by : (o : Ordering) → cmp x probe ≡ o → is_lt o ≡ false → cmp y probe ≡ Greater
      by Less e m = cc
      by Equal e m = turned cmp total probe y Less (sym (total.congr x probe y e) ∙ l)
      by Greater e m = turned cmp total probe y Less (total.trans probe x y (turned cmp total x probe Greater e) l)

  below_last : (probe x : T) (xs : List T) → cmp x probe ≡ Less → if_equal cmp probe (last_of xs) ≡ if_equal cmp probe (last_of (x ∷ xs))
  below_last probe x [] e = sym (ap (λ o. cond (is_eq o) (Some x) None) e)
  below_last probe x (y ∷ ys) e = refl

  pub found_last : (probe : T) (xs : List T) → IsStrictlySortedBy cmp xs → find (λ x. is_eq (cmp x probe)) xs ≡ if_equal cmp probe (last_up_to cmp probe xs)
  unfolding IsStrictlySortedBy
  found_last probe [] s = refl
  found_last probe (x ∷ xs) s = by (cmp x probe) refl (found_last probe xs s.1)
    where
      up_to : T → Bool
      up_to y = is_le (cmp y probe)

      behind : is_lt (cmp x probe) ≡ false → filter up_to xs ≡ []
      behind n = filter_none up_to xs (map_all _ _ (λ y l. ap is_le (above probe x y n l)) xs s.0)

      by : (o : Ordering) → cmp x probe ≡ o → find (λ y. is_eq (cmp y probe)) xs ≡ if_equal cmp probe (last_of (filter up_to xs))
          → cond (is_eq o) (Some x) (find (λ y. is_eq (cmp y probe)) xs) ≡ if_equal cmp probe (last_of (cond (is_le o) (x ∷ filter up_to xs) (filter up_to xs)))
      by Less e more = more ∙ below_last probe x (filter up_to xs) e
      by Equal e more = sym (ap (λ l. if_equal cmp probe (last_of (x ∷ l))) (behind (ap is_lt e)) ∙ ap (λ o. cond (is_eq o) (Some x) None) e)
      by Greater e more = more
