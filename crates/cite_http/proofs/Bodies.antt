-- From the parts of a head to what stands at the front of a text.
use Rattle.std.proofs.Common.{◌≡◌, ℕ, ◌+◌, ◌-◌, ◌≤◌, ◌==◌, ◌||◌, List, length, drop, take, map, codes, Option, Some, Bool, true, false, if◌then◌else◌, refl, sym, ap, ◌∙◌, arith, nat_lt, nat_le, slice_range, length-drop}
use Rattle.std.proofs.lemmas.List.{drop-take, take-take}
use Rattle.std.proofs.lemmas.Bool.Decides.{nat_tests}
use Rattle.std.specs.List.{list_any}
use Rattle.httparse.specs.Grammar.{RequestHead}
use Rattle.httparse.specs.Spans.{span_bytes, header_bytes, IsRequestWithin}
use Rattle.httparse.specs.declared.spans.HeaderSpan.{HeaderSpan}
use Rattle.httparse.specs.declared.spans.RequestSpans.{RequestSpans}
use Rattle.cite_http.specs.Fields.{values_named, body_length, has_close}
use Rattle.cite_http.specs.Reading.{Refused, Whole, after_head, with_length, closes}
use Rattle.cite_http.specs.Offsets.{IsHeadAt}
use Rattle.cite_http.specs.declared.status.Status.TheVariants.{TransferCoding}

after_whole : (h : RequestHead) (rest : List ℕ) (n k : ℕ) (a : Bool) (o : Option ℕ) → a ≡ false → o ≡ Some k → nat_lt 8388608 k ≡ false → nat_le k (length rest) ≡ true
    → (if a then Refused TransferCoding n else with_length h rest n o) ≡ Whole h.method h.target (closes h) (take k rest) (n + k)
after_whole h rest n k a o ea eo e1 e2 = rw (ea, eo, e1, e2) refl

pub range_taken : (xs : List ℕ) (n s e : ℕ) → s ≤ e → e ≤ n → slice_range (take n xs) s e ≡ slice_range xs s e
range_taken xs n s e h k =
    let p : n ≡ s + (n - s) = omega arith in
    let q : e - s ≤ n - s = omega arith in
    ap (λ m. take (e - s) (drop s (take m xs))) p ∙ ap (take (e - s)) (drop-take s (n - s) xs) ∙ take-take (e - s) (n - s) (drop s xs) q

pub answer_whole : (text : List ℕ) (n k : ℕ) (closing : Bool) (h : RequestHead) (r : RequestSpans) (headers : List HeaderSpan)
    → IsRequestWithin (take n text) headers r → r.len ≤ n → IsHeadAt (take n text) headers r h
    → nat_lt 0 (length (values_named (codes "transfer-encoding") (map (header_bytes (take n text)) (take r.headers headers)))) ≡ false
    → body_length (values_named (codes "content-length") (map (header_bytes (take n text)) (take r.headers headers))) ≡ Some k
    → k ≤ 8388608 → k ≤ length text - n
    → closing ≡ (r.version == 0 || list_any has_close (values_named (codes "connection") (map (header_bytes (take n text)) (take r.headers headers))))
    → Whole (span_bytes text r.method) (span_bytes text r.path) closing (slice_range text n (n + k)) (n + k) ≡ after_head h (drop n text) n
answer_whole text n k closing h r headers within fits at te len small room cl =
    let m : span_bytes text r.method ≡ h.method = sym (range_taken text n r.method.start r.method.end within.method.0 (omega (arith, within.method.1, fits))) ∙ at.method in
    let t : span_bytes text r.path ≡ h.target = sym (range_taken text n r.path.start r.path.end within.path.0 (omega (arith, within.path.1, fits))) ∙ at.target in
    let c : closing ≡ closes h = cl ∙ ap (λ v. v == 0 || list_any has_close (values_named (codes "connection") (map (header_bytes (take n text)) (take r.headers headers)))) at.version ∙ ap (λ fs. h.minor == 0 || list_any has_close (values_named (codes "connection") fs)) at.same_fields in
    let b : slice_range text n (n + k) ≡ take k (drop n text) = let e : n + k - n ≡ k = omega arith in ap (λ j. take j (drop n text)) e in
    let le : k ≤ length (drop n text) = omega (arith, length-drop n text) in
    let e1 = ap (λ fs. nat_lt 0 (length (values_named (codes "transfer-encoding") fs))) (sym at.same_fields) ∙ te in
    let e2 = ap (λ fs. body_length (values_named (codes "content-length") fs)) (sym at.same_fields) ∙ len in
    let t1 : nat_lt 8388608 k ≡ false = grind (arith, nat_tests) in
    let t2 : nat_le k (length (drop n text)) ≡ true = grind (arith, nat_tests) in
    let w = after_whole h (drop n text) n k _ _ e1 e2 t1 t2 in
    ap (λ x. Whole x (span_bytes text r.path) closing (slice_range text n (n + k)) (n + k)) m
    ∙ ap (λ x. Whole h.method x closing (slice_range text n (n + k)) (n + k)) t
    ∙ ap (λ x. Whole h.method h.target x (slice_range text n (n + k)) (n + k)) c
    ∙ ap (λ x. Whole h.method h.target (closes h) x (n + k)) b
    ∙ sym w
