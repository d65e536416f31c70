-- What a list in order, cut at a node, holds at a probe and from it on.
use Rattle.std.proofs.Common.{◌≡◌, ℕ, ◌+◌, ◌-◌, ◌<◌, ◌≤◌, Bool, true, false, cond, List, [], ◌∷◌, ◌++◌, Option, Some, None, length, slice_index_or, take, drop, refl, sym, ap, ◌∙◌, subst}
use Rattle.std.specs.Cmp.{IsTotalOrder}
use Rattle.std.specs.List.{AllByRecursion, filter, flat_map}
use Rattle.std.specs.List.Sorted.{IsStrictlySortedBy}
use Rattle.std.specs.Ordering.{is_le, is_lt, is_ge}
use Rattle.std.specs.declared.cmp.Ordering.{Ordering}
use Rattle.std.specs.declared.cmp.Ordering.TheVariants.{Less, Equal, Greater}
use Rattle.std.proofs.lemmas.List.Concat.{flat_map-append}
use Rattle.std.proofs.lemmas.List.{take-append-drop}
use Rattle.shared_pages.specs.declared.node.Single.{Single}
use Rattle.shared_pages.specs.Nodes.{first_of}
use Rattle.shared_pages.specs.Singles.{single_item}
use Rattle.shared_pages.specs.Walks.{IsFrom}
use Rattle.shared_pages.specs.Probes.{last_of, last_up_to, all_from}
use Rattle.shared_pages.specs.Search.{passes, Answers}
use Rattle.shared_pages.proofs.Editing.{append_none}
use Rattle.shared_pages.proofs.Levels.{around, node_around, node_sorted, after_node, after_prior}
use Rattle.shared_pages.proofs.Order.{map_all, all_right, turned, by_key, Below, Above, all_below, none_below}

pub filter-append : {X : Type 0} (p : X → Bool) (xs ys : List X) → filter p (xs ++ ys) ≡ filter p xs ++ filter p ys
filter-append p [] ys = refl
filter-append {X} p (x ∷ xs) ys = by (p x) (filter-append p xs ys)
  where
    by : (b : Bool) → filter p (xs ++ ys) ≡ filter p xs ++ filter p ys → cond b (x ∷ filter p (xs ++ ys)) (filter p (xs ++ ys)) ≡ cond b (x ∷ filter p xs) (filter p xs) ++ filter p ys
    by true e = ap (λ l. x ∷ l) e
    by false e = e

pub filter_none : {X : Type 0} (p : X → Bool) (xs : List X) → AllByRecursion (λ x. p x ≡ false) xs → filter p xs ≡ []
filter_none p [] h = refl
filter_none p (x ∷ xs) h = ap (λ b. cond b (x ∷ filter p xs) (filter p xs)) h.0 ∙ filter_none p xs h.1

pub filter_whole : {X : Type 0} (p : X → Bool) (xs : List X) → AllByRecursion (λ x. p x ≡ true) xs → filter p xs ≡ xs
filter_whole p [] h = refl
filter_whole p (x ∷ xs) h = ap (λ b. cond b (x ∷ filter p xs) (filter p xs)) h.0 ∙ ap (λ l. x ∷ l) (filter_whole p xs h.1)

abbrev the_item : {T : Type 0} → Single T → T
the_item n = n.item

singles_all : {T : Type 0} (P : T → Type 0) (ns : List (Single T)) → AllByRecursion P (flat_map single_item ns) → AllByRecursion (λ n. P (the_item n)) ns
singles_all P [] h = tt
singles_all P (n ∷ ns) h = (h.0, singles_all P ns h.1)

all_singles : {T : Type 0} (P : T → Type 0) (ns : List (Single T)) → AllByRecursion (λ n. P (the_item n)) ns → AllByRecursion P (flat_map single_item ns)
all_singles P [] h = tt
all_singles P (n ∷ ns) h = (h.0, all_singles P ns h.1)

pub last_of-append : {X : Type 0} (xs : List X) (y : X) (ys : List X) → last_of (xs ++ y ∷ ys) ≡ last_of (y ∷ ys)
last_of-append [] y ys = refl
last_of-append (x ∷ []) y ys = refl
last_of-append (x ∷ z ∷ zs) y ys = last_of-append (z ∷ zs) y ys

module _ {T : Type 0} (cmp : T → T → Ordering) (total : IsTotalOrder cmp) where
  -- above the probe there is nothing up to it
  pub up_to-above : (probe : T) (xs : List T) → Above cmp total (λ x. x) probe xs → filter (λ x. is_le (cmp x probe)) xs ≡ []
  up_to-above probe xs h = filter_none _ xs (map_all _ _ (λ x l. ap is_le (turned cmp total probe x Less l)) xs h)

  -- a node that the probe reaches decides
  pub up_to-node : (probe : T) (xs ys zs : List T) → Answers cmp true true (first_of ys) probe → Above cmp total (λ x. x) probe zs → last_up_to cmp probe (xs ++ (ys ++ zs)) ≡ last_up_to cmp probe ys
  up_to-node probe xs [] zs a h = absurd a
  up_to-node probe xs (y ∷ ys) zs a h =
      ap last_of (filter-append p xs ((y ∷ ys) ++ zs) ∙ ap (λ l. filter p xs ++ l) (filter-append p (y ∷ ys) zs ∙ ap (λ l. filter p (y ∷ ys) ++ l) (up_to-above probe zs h) ∙ append_none (filter p (y ∷ ys)) ∙ first)
      ∙ refl) ∙ last_of-append (filter p xs) y (filter p ys) ∙ ap last_of (sym first)
    where
      p : T → Bool
      p x = is_le (cmp x probe)

      reached : (o : Ordering) → passes true o ≡ true → is_le o ≡ true
      reached Less e = refl
      reached Equal e = refl
      reached Greater e = cc

      first : filter (λ x. is_le (cmp x probe)) (y ∷ ys) ≡ y ∷ filter (λ x. is_le (cmp x probe)) ys
      first = ap (λ b. cond b (y ∷ filter (λ x. is_le (cmp x probe)) ys) (filter (λ x. is_le (cmp x probe)) ys)) (reached (cmp y probe) a)

  -- what lies on the one side of a probe, on both, and on the other
  pub from-node : (probe : T) (xs ys zs : List T) → Below cmp total (λ x. x) probe xs → Above cmp total (λ x. x) probe zs → all_from cmp probe (xs ++ (ys ++ zs)) ≡ all_from cmp probe ys ++ zs
  from-node probe xs ys zs b a =
      filter-append _ xs (ys ++ zs)
      ∙ ap (λ l. l ++ all_from cmp probe (ys ++ zs)) (filter_none _ xs (map_all _ _ (λ x l. ap is_ge l) xs b))
      ∙ filter-append _ ys zs
      ∙ ap (λ l. all_from cmp probe ys ++ l) (filter_whole _ zs (map_all _ _ (λ x l. ap is_ge (turned cmp total probe x Less l)) zs a))

  not_lt : (o : Ordering) → is_lt o ≡ false → is_ge o ≡ true
  not_lt Less e = cc
  not_lt Equal e = refl
  not_lt Greater e = refl

  singles_sorted : (ns : List (Single T)) → IsStrictlySortedBy cmp (flat_map single_item ns) → IsStrictlySortedBy (by_key cmp total the_item) ns
  unfolding IsStrictlySortedBy
  singles_sorted [] s = tt
  singles_sorted (n ∷ ns) s = (singles_all (λ x. cmp n.item x ≡ Less) ns s.0, singles_sorted ns s.1)

  -- single items, cut where the first is that isn't below the probe
  pub from-singles : (probe : T) (ns rest : List (Single T)) (k : ℕ) → IsStrictlySortedBy cmp (flat_map single_item ns) → rest ≡ drop k ns → k ≤ length ns
      → ((n : Single T) → 0 < k → Answers cmp false true (Some (the_item (slice_index_or ns (k - 1) n))) probe)
      → ((n : Single T) → k < length ns → Answers cmp false false (Some (the_item (slice_index_or ns k n))) probe)
      → flat_map single_item rest ≡ all_from cmp probe (flat_map single_item ns)
  from-singles probe ns rest k s is l before behind =
      let sorted = singles_sorted ns s in
      let low = all_singles (λ x. cmp x probe ≡ Less) (take k ns) (all_below cmp total the_item ns k probe sorted l before) in
      let high = all_singles (λ x. is_lt (cmp x probe) ≡ false) (drop k ns) (none_below cmp total the_item ns k probe sorted behind) in
      ap (flat_map single_item) is
      ∙ sym (ap (all_from cmp probe) (ap (flat_map single_item) (sym (take-append-drop k ns)) ∙ flat_map-append single_item (take k ns) (drop k ns))
      ∙ filter-append _ (flat_map single_item (take k ns)) (flat_map single_item (drop k ns))
      ∙ ap (λ l. l ++ all_from cmp probe (flat_map single_item (drop k ns))) (filter_none _ (flat_map single_item (take k ns)) (map_all _ _ (λ x l. ap is_ge l) _ low))
      ∙ filter_whole _ (flat_map single_item (drop k ns)) (map_all _ _ (λ x n. not_lt (cmp x probe) n) _ high))

  module _ {N : Type 0} (items : N → List T) (whole : N → Type 0) (at : N → Option T) (led : (n : N) → at n ≡ first_of (items n)) where
    -- if no node is reached, no item is
    pub none_reached : (nodes : List N) (r : ℕ) (probe : T) → r ≡ 0 → IsStrictlySortedBy cmp (flat_map items nodes) → ((n : N) → r < length nodes → Answers cmp true false (at (slice_index_or nodes r n)) probe)
        → None ≡ last_up_to cmp probe (flat_map items nodes)
    none_reached nodes r probe none s h =
        let above : Above cmp total (λ x. x) probe (flat_map items (drop 0 nodes)) = subst (λ i. Above cmp total (λ x. x) probe (flat_map items (drop i nodes))) none (after_node cmp total items whole at led nodes r probe s h) in
        ap last_of (sym (up_to-above probe (flat_map items nodes) above))

    -- the last node that is reached decides
    pub last_reached : (nodes : List N) (n : N) (r : ℕ) (probe : T) → r - 1 < length nodes → n ≡ slice_index_or nodes (r - 1) n → 0 < r → IsStrictlySortedBy cmp (flat_map items nodes)
        → ((n : N) → 0 < r → Answers cmp true true (at (slice_index_or nodes (r - 1) n)) probe)
        → ((n : N) → r < length nodes → Answers cmp true false (at (slice_index_or nodes r n)) probe)
        → last_up_to cmp probe (items n) ≡ last_up_to cmp probe (flat_map items nodes)
    last_reached nodes n r probe within is some s before behind =
        let above = after_prior cmp total items whole nodes r probe (after_node cmp total items whole at led nodes r probe s behind) in
        let reached : Answers cmp true true (first_of (items n)) probe = subst (λ o. Answers cmp true true o probe) (led n) (subst (λ m. Answers cmp true true (at m) probe) (sym is) (before n some)) in
        let flat : flat_map items nodes ≡ flat_map items (take (r - 1) nodes) ++ (items n ++ flat_map items (drop (r - 1 + 1) nodes)) =
        ap (flat_map items) (around nodes (r - 1) n within is) ∙ flat_map-append items (take (r - 1) nodes) (n ∷ drop (r - 1 + 1) nodes) in
        sym (ap (last_up_to cmp probe) flat ∙ up_to-node probe (flat_map items (take (r - 1) nodes)) (items n) (flat_map items (drop (r - 1 + 1) nodes)) reached above)

    -- the node on which a probe falls decides
    pub from_at : (nodes rest : List N) (n : N) (k : ℕ) (probe : T) → k < length nodes → n ≡ slice_index_or nodes k n → rest ≡ drop (k + 1) nodes
        → AllByRecursion whole nodes → IsStrictlySortedBy cmp (flat_map items nodes)
        → Below cmp total (λ x. x) probe (flat_map items (take k nodes)) → Above cmp total (λ x. x) probe (flat_map items (drop (k + 1) nodes)) → IsFrom cmp items whole probe nodes n rest
    from_at nodes rest n k probe within is left w s below above =
        let parts = node_around nodes (take k nodes) rest k n within is refl left in
        record {
          well_formed = (all_right whole (take k nodes) (n ∷ rest) (subst (AllByRecursion whole) parts w)).0;
          sorted = node_sorted cmp total items whole nodes (take k nodes) rest n parts s;
          from =
              ap (all_from cmp probe) (ap (flat_map items) parts ∙ flat_map-append items (take k nodes) (n ∷ rest))
              ∙ from-node probe (flat_map items (take k nodes)) (items n) (flat_map items rest) below (subst (λ l. Above cmp total (λ x. x) probe (flat_map items l)) (sym left) above);
        }
