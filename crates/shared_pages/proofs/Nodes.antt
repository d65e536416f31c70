-- Nodes put behind others.
use Rattle.std.proofs.Common.{◌≡◌, List, [], ◌∷◌, ◌++◌, sym, ap, ◌∙◌, append_assoc}
use Rattle.std.specs.List.{AllByRecursion, flat_map}
use Rattle.std.proofs.lemmas.List.Concat.{flat_map-append}
use Rattle.shared_pages.specs.declared.node.Single.{Single}
use Rattle.shared_pages.specs.Nodes.{Adds}
use Rattle.shared_pages.specs.Singles.{IsSingle}
use Rattle.shared_pages.proofs.Order.{all_both}
use Rattle.shared_pages.proofs.Editing.{append_none}

pub all_singles : {T : Type 0} (ns : List (Single T)) → AllByRecursion IsSingle ns
all_singles [] = tt
all_singles (n ∷ ns) = (tt, all_singles ns)

module _ {N T : Type 0} (items : N → List T) (whole : N → Type 0) where
  -- nothing was put behind
  pub adds_none : (old : List N) → Adds items whole old old []
  adds_none old = record { holds = sym (append_none (flat_map items old)); kept = λ h. h }

  -- first these, then those
  pub adds_then : (a b c : List N) (xs ys : List T) → Adds items whole a b xs → Adds items whole b c ys → Adds items whole a c (xs ++ ys)
  adds_then a b c xs ys h k = record {
    holds = k.holds ∙ ap (λ l. l ++ ys) h.holds ∙ append_assoc (flat_map items a) xs ys;
    kept = λ w. k.kept (h.kept w);
  }

  -- a list of nodes
  pub adds_all : (old ns : List N) → AllByRecursion whole ns → Adds items whole old (old ++ ns) (flat_map items ns)
  adds_all old ns w = record { holds = flat_map-append items old ns; kept = λ h. all_both whole old ns h w }

  -- one node
  pub adds_one : (old : List N) (n : N) → whole n → Adds items whole old (old ++ n ∷ []) (items n)
  adds_one old n w = record {
    holds = flat_map-append items old (n ∷ []) ∙ ap (λ l. flat_map items old ++ l) (append_none (items n));
    kept = λ h. all_both whole old (n ∷ []) h (w, tt);
  }

  -- nodes put behind nothing
  pub from_none : (new : List N) (xs : List T) → Adds items whole [] new xs → flat_map items new ≡ xs
  from_none new xs h = h.holds
