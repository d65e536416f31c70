-- The index of citations where one more comes.
use Rattle.std.proofs.Common.{◌≡◌, ℕ, zero, suc, ◌+◌, ◌<◌, true, false, inl, inr, ⊎_elim, List, [], ◌∷◌, ◌++◌, Some, length, refl, sym, ap, ◌∙◌, subst, arith}
use Rattle.std.specs.Cmp.{nat_cmp_is}
use Rattle.std.specs.List.{AllByRecursion}
use Rattle.std.specs.Ordering.{nat_cmp, ordering_then, match_ordering, is_eq}
use Rattle.std.specs.declared.cmp.Ordering.{Ordering}
use Rattle.std.specs.declared.cmp.Ordering.TheVariants.{Less, Equal, Greater}
use Rattle.std.proofs.lemmas.Option.{none-some}
use Rattle.cite_schema.proofs.Rising.{In}
use Rattle.shared_pages.specs.declared.edit.Edit.TheVariants.{Put}
use Rattle.shared_pages.specs.Edits.{changed}
use Rattle.shared_pages.proofs.AnyOrder.{in_right}
use Rattle.shared_pages.proofs.Order.{map_all, all_both, all_left, all_right}
use Rattle.query_store.specs.declared.citation.Citation.{Citation}
use Rattle.query_store.specs.declared.finding.Finding.{Finding}
use Rattle.query_store.specs.Citations.{numbered}
use Rattle.query_store.specs.Places.{digest_cmp, finding_cmp, finding_of, IsFound, IsIndex}
use Rattle.query_store.proofs.Numbers.{number_last, kept_number, next_number, earlier_or_next}

-- a list is another with one element more somewhere
pub record IsWithOne {X : Type 0} (xs : List X) (y : X) (ys : List X) : Type 0 where
  pub pre : List X
  pub post : List X
  pub was : xs ≡ pre ++ post
  pub is : ys ≡ pre ++ y ∷ post

-- what is put where nothing equal stands is one element more
put_between : {X : Type 0} (cmp : X → X → Ordering) (xs : List X) (y : X) → AllByRecursion (λ x. is_eq (cmp x y) ≡ false) xs → IsWithOne xs y (changed cmp xs (Put y))
put_between cmp [] y h = record { pre = []; post = []; was = refl; is = refl }
put_between {X} cmp (x ∷ xs) y h = by (put_between cmp xs y h.1) (cmp x y) h.0
  where
    by : IsWithOne xs y (changed cmp xs (Put y)) → (o : Ordering) → is_eq o ≡ false → IsWithOne (x ∷ xs) y (match_ordering o (x ∷ changed cmp xs (Put y)) (y ∷ xs) (y ∷ x ∷ xs))
    by w Less e = record { pre = x ∷ w.pre; post = w.post; was = ap (λ l. x ∷ l) w.was; is = ap (λ l. x ∷ l) w.is }
    by w Equal e = let no : true ≡ false = e in absurd (cc)
    by w Greater e = record { pre = []; post = x ∷ xs; was = refl; is = refl }

-- an element stays one
in_more : {X : Type 0} (x : X) (pre post : List X) (y : X) → In x (pre ++ post) → In x (pre ++ y ∷ post)
in_more x [] post y i = inr i
in_more x (z ∷ zs) post y (inl e) = inl e
in_more x (z ∷ zs) post y (inr i) = inr (in_more x zs post y i)

-- nothing in the index is equal to the finding of the next number
apart : (o : Ordering) (a n : ℕ) → a < n → is_eq (ordering_then o (nat_cmp a n)) ≡ false
apart Less a n l = refl
apart Equal a n l = sym (ap is_eq (nat_cmp_is a n Less l))
apart Greater a n l = refl

-- the index of no citation has nothing
pub index_none : IsIndex [] []
index_none = record { sound = tt; whole = none }
  where
    none : (n : ℕ) (c : Citation) → numbered [] n ≡ Some c → In (finding_of n c) []
    none zero c e = absurd (none-some c e)
    none (suc n) c e = absurd (none-some c e)

-- with what the new citation is found by, the index is that of one citation more
pub index_with : (cs : List Citation) (index : List Finding) (new : Citation) (n : ℕ) → n ≡ length cs + 1 → IsIndex cs index → IsIndex (cs ++ new ∷ []) (changed finding_cmp index (Put (finding_of n new)))
index_with cs index new n next h = by (put_between finding_cmp index (finding_of n new) (map_all (IsFound cs) _ (λ x w. none x w) index h.sound))
  where
    none : (x : Finding) → IsFound cs x → is_eq (finding_cmp x (finding_of n new)) ≡ false
    none x w =
        let le = number_last cs x.number w.citation w.is in
        let less : x.number < n = omega arith in
        apart (digest_cmp x (finding_of n new)) x.number n less

    later : (x : Finding) → IsFound cs x → IsFound (cs ++ new ∷ []) x
    later x w = record { citation = w.citation; is = kept_number cs new x.number w.citation w.is; found = w.found }

    by : IsWithOne index (finding_of n new) (changed finding_cmp index (Put (finding_of n new))) → IsIndex (cs ++ new ∷ []) (changed finding_cmp index (Put (finding_of n new)))
    by w = record { sound = sound; whole = whole }
      where
        old : AllByRecursion (IsFound (cs ++ new ∷ [])) (w.pre ++ w.post)
        old = subst (AllByRecursion (IsFound (cs ++ new ∷ []))) w.was (map_all (IsFound cs) (IsFound (cs ++ new ∷ [])) later index h.sound)

        sound : AllByRecursion (IsFound (cs ++ new ∷ [])) (changed finding_cmp index (Put (finding_of n new)))
        sound =
            subst (AllByRecursion (IsFound (cs ++ new ∷ []))) (sym w.is)
            (all_both (IsFound (cs ++ new ∷ [])) w.pre (finding_of n new ∷ w.post) (all_left (IsFound (cs ++ new ∷ [])) w.pre w.post old)
            (record { citation = new; is = next_number cs new n next; found = refl }, all_right (IsFound (cs ++ new ∷ [])) w.pre w.post old))

        whole : (m : ℕ) (c : Citation) → numbered (cs ++ new ∷ []) m ≡ Some c → In (finding_of m c) (changed finding_cmp index (Put (finding_of n new)))
        whole m c e =
            subst (In (finding_of m c)) (sym w.is)
            (⊎_elim (λ before. in_more (finding_of m c) w.pre w.post (finding_of n new) (subst (In (finding_of m c)) w.was (h.whole m c before)))
            (λ now. in_right (finding_of m c) w.pre (finding_of n new ∷ w.post) (inl (ap (λ k. finding_of k c) (now.0 ∙ sym next) ∙ ap (finding_of n) (sym now.1))))
            (earlier_or_next cs new m c e))
