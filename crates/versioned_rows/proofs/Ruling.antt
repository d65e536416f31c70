-- Calls that follow a rule.
use Rattle.std.proofs.Common.{◌≡◌, ℕ, zero, suc, ◌≤◌, ◌<◌, Bool, true, false, cond, nat_lt, List, [], ◌∷◌, ◌++◌, Option, Some, None, Result, Ok, option_map, map, slice_get, refl, sym, ap, ◌∙◌, subst, arith}
use Rattle.std.specs.Prelude.{is_none}
use Rattle.std.specs.List.{AllByRecursion, AllZip, find}
use Rattle.std.specs.Option.{option_and_then, option_or}
use Rattle.std.proofs.lemmas.Bool.Decides.{nat_tests}
use Rattle.cite_schema.specs.TableTexts.{all_some, before}
use Rattle.cite_schema.specs.declared.memory.NoMemory.{NoMemory}
use Rattle.cite_schema.specs.declared.value.Value.{Value}
use Rattle.versioned_rows.specs.declared.fault.MapFault.{MapFault}
use Rattle.versioned_rows.specs.declared.fault.MapFault.TheVariants as maps
use Rattle.versioned_rows.specs.Histories.{RowHistory, as_of, first_version, lost_key}
use Rattle.versioned_rows.specs.Nexts.{FollowsRule, Turns, IsTurned, IsNextByRule, TellsLost, IsNextByCalls, TellsFirstLost}

module _ {A : Type 0} (found : ℕ → Option A) where
  -- what there is, with a version
  abbrev tagged : ℕ → Option A → Option (ℕ × A)
  tagged n o = option_map (λ x. (n, x)) o

  none_yet : (n : ℕ) → ((v : ℕ) → v ≤ n → found v ≡ None) → first_version n found ≡ None
  none_yet zero h = refl
  none_yet (suc n) h = ap (λ o. option_or o (tagged (suc n) (found (suc n)))) (none_yet n (λ v l. h v (omega arith))) ∙ ap (tagged (suc n)) (h (suc n) (omega arith))

  -- the first version for which there is something
  first_at : (n version : ℕ) (x : A) → 1 ≤ version → version ≤ n → ((v : ℕ) → v < version → found v ≡ None) → found version ≡ Some x → first_version n found ≡ Some (version, x)
  first_at zero version x f l h e = absurd (omega arith)
  first_at (suc n) version x f l h e = by (nat_lt n version) refl (λ soon. first_at n version x f soon h e)
    where
      by : (b : Bool) → nat_lt n version ≡ b → (version ≤ n → first_version n found ≡ Some (version, x)) → first_version (suc n) found ≡ Some (version, x)
      by true t more =
          let late : n < version = grind (arith, nat_tests) in
          let is : version ≡ suc n = omega arith in
          ap (λ o. option_or o (tagged (suc n) (found (suc n)))) (none_yet n (λ v l. h v (omega arith))) ∙ subst (λ w. tagged w (found w) ≡ Some (version, x)) is (ap (tagged version) e)
      by false t more =
          let soon : version ≤ n = grind (arith, nat_tests) in
          ap (λ o. option_or o (tagged (suc n) (found (suc n)))) (more soon)

module _ (rule : List Value → Option (List Value)) (returns : List Value → Result (Option (List Value)) NoMemory → Type 0) (follows : FollowsRule rule returns) where
  all_given : (xs ys : List (List Value)) → AllZip (Turns returns) xs ys → all_some (map rule xs) ≡ Some ys
  all_given [] [] z = refl
  all_given [] (y ∷ ys) z = absurd z
  all_given (x ∷ xs) [] z = absurd z
  all_given (x ∷ xs) (y ∷ ys) z = ap (λ o. before o (all_some (map rule xs))) (sym (follows x (Some y) z.0)) ∙ ap (before (Some y)) (all_given xs ys z.1)

  none_lost : (xs : List (List Value)) → AllByRecursion (IsTurned returns) xs → find (λ r. is_none (rule r)) xs ≡ None
  none_lost [] h = refl
  none_lost (x ∷ xs) h = ap (λ o. cond (is_none o) (Some x) (find (λ r. is_none (rule r)) xs)) (sym (follows x (Some h.0.0) h.0.1)) ∙ none_lost xs h.1

  first_found : (pre : List (List Value)) (r : List Value) (rest : List (List Value)) → AllByRecursion (IsTurned returns) pre → returns r (Ok None) → find (λ r. is_none (rule r)) (pre ++ r ∷ rest) ≡ Some r
  first_found [] r rest h l = ap (λ o. cond (is_none o) (Some r) (find (λ r. is_none (rule r)) rest)) (sym (follows r None l))
  first_found (x ∷ xs) r rest h l = ap (λ o. cond (is_none o) (Some x) (find (λ r. is_none (rule r)) (xs ++ r ∷ rest))) (sym (follows x (Some h.0.0) h.0.1)) ∙ first_found xs r rest h.1 l

  pub next_given : (old new : RowHistory) → IsNextByCalls returns old new → IsNextByRule rule old new
  next_given old new n = record { last = n.last; table = all_given _ _ n.table; past = λ v l. all_given _ _ (n.past v l); kept = all_given _ _ n.kept }

  pub fault_given : (old : RowHistory) (fault : MapFault) → TellsFirstLost returns old fault → TellsLost rule old fault
  fault_given old maps.NoMemory t = tt
  fault_given old (maps.Overflow version key) t =
      first_at (λ v. lost_key rule (as_of old v)) old.last version key t.from t.to (λ v l. ap (option_and_then (λ r. slice_get r 0)) (none_lost (as_of old v) (t.older v l)))
      (ap (lost_key rule) t.table ∙ ap (option_and_then (λ r. slice_get r 0)) (first_found t.before t.row t.rest t.turned t.lost) ∙ t.has)
