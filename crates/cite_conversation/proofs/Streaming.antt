-- One call of a source or a sink after another.
use Rattle.std.proofs.Common.{◌≡◌, ◌+◌, ◌-◌, ℕ, List, [], ◌∷◌, ◌++◌, Option, None, Some, ap, refl, sym, ◌∙◌, append_assoc, append-nil, take, drop, length, length-drop}
use Rattle.std.specs.Io.KnownBytes.{Keeps}
use Rattle.std.proofs.Math.Seq.{take-length, take-add}
use Rattle.cite_ports.specs.Ports.{EndsExactly, Gives, Holds}
use Rattle.cite_conversation.specs.Streams.{AllTaken, Taken}

pub holds_more : (a b c : Option (List ℕ)) (xs ys : List ℕ) → Holds xs a b → Holds ys b c → Holds (xs ++ ys) a c
holds_more None b c xs ys p q = tt
holds_more (Some x) None c xs ys p q = absurd p
holds_more (Some x) (Some y) None xs ys p q = absurd q
holds_more (Some x) (Some y) (Some z) xs ys p q = q ∙ ap (λ had. had ++ ys) p ∙ append_assoc x xs ys

pub taken_nothing : (a : Option (List ℕ)) → Taken [] a a
taken_nothing None = tt
taken_nothing (Some x) = refl

pub taken_more : (a b c : Option (List ℕ)) (xs ys : List ℕ) → Taken xs a b → Taken ys b c → Taken (xs ++ ys) a c
taken_more None b c xs ys p q = tt
taken_more (Some x) None c xs ys p q = absurd p
taken_more (Some x) (Some y) None xs ys p q = absurd q
taken_more (Some x) (Some y) (Some z) xs ys p q = p ∙ ap (λ rest. xs ++ rest) q ∙ sym (append_assoc xs ys z)

-- nothing changed
pub keeps_same : (a : Option (List ℕ)) → Keeps a a
keeps_same None = tt
keeps_same (Some x) = refl

-- a call that failed took nothing
pub taken_kept : (a b c : Option (List ℕ)) (xs : List ℕ) → Taken xs a b → Keeps b c → Taken xs a c
taken_kept None b c xs p q = tt
taken_kept (Some x) None c xs p q = absurd p
taken_kept (Some x) (Some y) None xs p q = absurd q
taken_kept (Some x) (Some y) (Some z) xs p q = p ∙ ap (λ rest. xs ++ rest) (sym q)

no_rest : (xs ys : List ℕ) → [] ≡ xs ++ ys → ys ≡ []
no_rest [] ys e = sym e
no_rest (x ∷ xs) ys e = cc

-- where a call gives nothing, what was taken before was all
pub all_taken : (a b c : Option (List ℕ)) (xs into : List ℕ) (n : ℕ) → Taken xs a b → Gives n into b c → EndsExactly n b → n ≡ 0 → AllTaken xs a c
all_taken None b c xs into n p q end zero = tt
all_taken (Some x) None c xs into n p q end zero = absurd p
all_taken (Some x) (Some y) None xs into n p q end zero = absurd q
all_taken (Some x) (Some y) (Some z) xs into n p q end zero =
    let empty : y ≡ [] = end.0 zero in
    (p ∙ ap (λ rest. xs ++ rest) empty ∙ append-nil xs, ap Some (no_rest (take n into) z (sym empty ∙ q)))

pub rest_whole : {A : Type 0} (at : ℕ) (bytes : List A) → take (length bytes - at) (drop at bytes) ≡ drop at bytes
rest_whole at bytes = rw (← length-drop at bytes) (take-length (drop at bytes))

pub front_more : (at n : ℕ) (bytes : List ℕ) → take at bytes ++ take n (take (length bytes - at) (drop at bytes)) ≡ take (at + n) bytes
front_more at n bytes = ap (λ r. take at bytes ++ take n r) (rest_whole at bytes) ∙ sym (take-add at n bytes)
