-- How far a text was searched in vain.
use Rattle.std.proofs.Common.{◌≡◌, ℕ, ◌+◌, ◌-◌, ◌<◌, ◌≤◌, List, [], ◌++◌, length, drop, take, Option, Some, None, false, length-append, length-drop, refl, sym, ap, ◌∙◌, subst, arith}
use Rattle.std.proofs.lemmas.List.{take-append-le, append_assoc, append-nil}
use Rattle.httparse.specs.Grammar.{RequestHead}
use Rattle.cite_http.specs.Heads.{ends_empty, HasNoEnd, HeadEnd, NoEnd, EndAt}
use Rattle.cite_http.specs.Reading.{Reads, ReadsHead, Good, FitsHead, after_head, has_many_lines}
use Rattle.cite_http.specs.Reading as meant
use Rattle.cite_http.specs.Waiting.{Searched, OnUnfinished}
use Rattle.cite_http.specs.declared.found.Progress.{Progress}
use Rattle.cite_http.specs.declared.found.Found.{Found}
use Rattle.cite_http.specs.declared.found.Found.TheVariants.{Unfinished, Refused, Whole}
use Rattle.cite_http.proofs.EndLaws.{unended_append}
use Rattle.cite_http.proofs.Stable.{end_append, reads_at}

pub unfinished_map : {P Q : Progress → Type 0} (found : Found) → ((progress : Progress) → P progress → Q progress) → OnUnfinished found P → OnUnfinished found Q
unfinished_map (Unfinished progress) f x = f progress x
unfinished_map (Refused s n) f x = tt
unfinished_map (Whole w) f x = tt

-- a head that waits for its body does so in each text that begins with it
pub head_waits : (text other : List ℕ) (n wanted : ℕ) (h : RequestHead) → FitsHead (take n text) h
    → ((rest : List ℕ) → n + length rest < wanted → after_head h rest n ≡ meant.Unfinished)
    → take n other ≡ take n text → n ≤ length other → length other < wanted → ReadsHead other n meant.Unfinished
head_waits text other n wanted h fits waits same le short =
    let P : List ℕ → Type 0 = λ t. FitsHead t h in
    let Q : meant.Found → Type 0 = λ f. ReadsHead other n f in
    subst Q (waits (drop n other) (omega (arith, length-drop n other))) (Good h (subst P (sym same) fits))

-- nothing was searched
pub searched_nothing : (text : List ℕ) → Searched text (record { searched = 0; wanted = 0 })
searched_nothing text = record { within = omega arith; unended = λ k h. first k h; waiting = λ more h. absurd (omega arith) }
  where
    first : (k : ℕ) → k ≤ 0 → ends_empty (take k text) ≡ false
    first k h = let z : k ≡ 0 = omega arith in rw z refl

-- all was searched, and no head ends
pub searched_all : (text : List ℕ) → HeadEnd text None → length text < 16384 → Searched text (record { searched = length text; wanted = 0 })
searched_all text e lt = by None refl e
  where
    by : (o : Option ℕ) → o ≡ None → HeadEnd text o → Searched text (record { searched = length text; wanted = 0 })
    by o z (NoEnd h) = record { within = omega arith; unended = λ k le. h k (omega arith); waiting = λ more h. absurd (omega arith) }
    by o z (EndAt n p s w h x) = absurd (cc)

-- the head is there, and not all of the body
pub searched_head : (text : List ℕ) (n : ℕ) (found : Found) → HeadEnd text (Some n) → has_many_lines (take n text) ≡ false
    → OnUnfinished found (λ progress. (other : List ℕ) → take n other ≡ take n text → n ≤ length other → length other < progress.wanted → ReadsHead other n meant.Unfinished)
    → OnUnfinished found (λ progress. progress.searched ≡ n - 1) → OnUnfinished found (Searched text)
searched_head text n (Refused s k) e l w p = tt
searched_head text n (Whole f) e l w p = tt
searched_head text n (Unfinished progress) e l w p = by (Some n) refl e
  where
    by : (o : Option ℕ) → o ≡ Some n → HeadEnd text o → Searched text progress
    by o z (NoEnd h) = absurd (cc)
    by o z (EndAt m pos small within h x) =
        let s : m ≡ n = cc in
        let le : n ≤ length text = omega arith in
        record {
          within = omega arith;
          unended = rw p (let P : ℕ → Type 0 = λ k. HasNoEnd text (k - 1) in subst P s h);
          waiting = λ more short.
              let t : take n (text ++ more) ≡ take n text = take-append-le n text more le in
              let b : length (text ++ more) ≡ length text + length more = length-append text more in
              let c : has_many_lines (take n (text ++ more)) ≡ false = ap has_many_lines t ∙ l in
              let d : HeadEnd (text ++ more) (Some n) = let P : ℕ → Type 0 = λ k. HeadEnd (text ++ more) (Some k) in subst P s (end_append text more m pos small within h x) in
              reads_at (text ++ more) n false meant.Unfinished d c (w (text ++ more) t (omega arith) (omega arith));
        }

-- more bytes come
pub searched_more : (text more : List ℕ) (progress : Progress) → Searched text progress → Searched (text ++ more) progress
searched_more text more progress s = record {
  within = omega (arith, length-append text more, s.within);
  unended = unended_append text more progress.searched s.within s.unended;
  waiting = λ rest short.
      let a : text ++ more ++ rest ≡ text ++ (more ++ rest) = append_assoc text more rest in
      let P : List ℕ → Type 0 = λ t. Reads t meant.Unfinished in
      subst P (sym a) (s.waiting (more ++ rest) (omega (arith, length-append text more, length-append more rest, short)));
}

-- with fewer bytes than wanted
pub searched_short : (text : List ℕ) (progress : Progress) → Searched text progress → length text < progress.wanted → Reads text meant.Unfinished
searched_short text progress s lt =
    let P : List ℕ → Type 0 = λ t. Reads t meant.Unfinished in
    subst P (append-nil text) (s.waiting [] (omega arith))
