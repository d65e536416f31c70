-- What is told of a whole body, by its header, by the number of its lines, and by them.
use Rattle.std.proofs.Common.{◌≡◌, ◌≢◌, ◌≤◌, ◌⊎◌, inl, inr, ℕ, Bool, true, false, not, List, [], ◌∷◌, Result, length, refl, sym, ap, ◌∙◌, arith}
use Rattle.std.specs.Prelude.{Ok, Err, nat_lt}
use Rattle.std.proofs.lemmas.Bool.{lt-ltb, le-ltb, ltb-true, ltb-false}
use Rattle.cite_schema.specs.declared.schema.Column.{Column}
use Rattle.cite_schema.specs.declared.line.Line.{Line}
use Rattle.cite_schema.specs.Tests.{demand}
use Rattle.cite_schema.proofs.Results.{demanded}
use Rattle.csv_records.specs.Records.{records_of}
use Rattle.batches.specs.declared.fault.BatchFault.{BatchFault}
use Rattle.batches.specs.declared.fault.BatchFault.TheVariants.{BadHeader, EmptyBatch, TooManyLines}
use Rattle.batches.specs.Bodies.{is_header, lines_from, lines_of_records, lines_of}
use Rattle.batches.specs.Laws.{AreLines, NameOwnKeys, batch_header, AreBroken, IsBroken, FirstBrokenIsTold, IsBatch, BatchesBreakNone}
use Rattle.batches.proofs.Headers.{header_fields, fields_header}
use Rattle.batches.proofs.FirstLines.{first_broken, none_broken}

-- where a fault came, it is that of the test, or the test held and it is that of what followed
refused : {A F : Type 0} (b : Bool) (fault : F) (rest : Result A F) (told : F) → demand b fault rest ≡ Err told → ((b ≡ false) × (told ≡ fault)) ⊎ ((b ≡ true) × (rest ≡ Err told))
refused true fault rest told e = inr (refl, e)
refused false fault rest told e = let same : told ≡ fault = cc in inl (refl, same)

was_true : (b : Bool) → not b ≡ true → b ≡ false
was_true true e = absurd (cc)
was_true false e = refl

was_false : (b : Bool) → not b ≡ false → b ≡ true
was_false true e = refl
was_false false e = absurd (cc)

module _ (columns : List Column) where
  -- what the records under a header say
  under : List (List (List ℕ)) → Result (List Line) BatchFault
  under rs = demand (nat_lt 0 (length rs)) EmptyBatch (demand (not (nat_lt 20000 (length rs))) TooManyLines (lines_from columns [] 1 rs))

  counted : (rs : List (List (List ℕ))) (rest : Result (List Line) BatchFault) → 1 ≤ length rs → length rs ≤ 20000 → lines_from columns [] 1 rs ≡ rest → under rs ≡ rest
  unfolding under
  counted rs rest some few e =
      let least : nat_lt 0 (length rs) ≡ true = lt-ltb 0 (length rs) (omega (arith, some)) in
      let most : nat_lt 20000 (length rs) ≡ false = le-ltb 20000 (length rs) few in
      rw (least, most) e

  under_broken : (rs : List (List (List ℕ))) (fault : BatchFault) → under rs ≡ Err fault → AreBroken columns rs fault
  unfolding under
  under_broken rs fault e = by (refused (nat_lt 0 (length rs)) EmptyBatch (demand (not (nat_lt 20000 (length rs))) TooManyLines (lines_from columns [] 1 rs)) fault e)
    where
      some_there : nat_lt 0 (length rs) ≡ true → 1 ≤ length rs
      some_there h = let least = ltb-true 0 (length rs) h in omega (arith, least)

      at : nat_lt 0 (length rs) ≡ true → ((not (nat_lt 20000 (length rs)) ≡ false) × (fault ≡ TooManyLines)) ⊎ ((not (nat_lt 20000 (length rs)) ≡ true) × (lines_from columns [] 1 rs ≡ Err fault)) → AreBroken columns rs fault
      at h (inl many) = inr (inl (ltb-true 20000 (length rs) (was_false (nat_lt 20000 (length rs)) many.0), many.1))
      at h (inr few) = inr (inr (some_there h, ltb-false 20000 (length rs) (was_true (nat_lt 20000 (length rs)) few.0), (first_broken columns rs fault).0 few.1))

      by : ((nat_lt 0 (length rs) ≡ false) × (fault ≡ EmptyBatch)) ⊎ ((nat_lt 0 (length rs) ≡ true) × (demand (not (nat_lt 20000 (length rs))) TooManyLines (lines_from columns [] 1 rs) ≡ Err fault)) → AreBroken columns rs fault
      by (inl none) = let most = ltb-false 0 (length rs) none.0 in inl (omega (arith, most), none.1)
      by (inr some) = at some.0 (refused (not (nat_lt 20000 (length rs))) TooManyLines (lines_from columns [] 1 rs) fault some.1)

  broken_under : (rs : List (List (List ℕ))) (fault : BatchFault) → AreBroken columns rs fault → under rs ≡ Err fault
  unfolding under
  broken_under rs fault (inl none) = let n = none.0 in let least : nat_lt 0 (length rs) ≡ false = le-ltb 0 (length rs) (omega (arith, n)) in rw least (ap Err (sym none.1))
  broken_under rs fault (inr (inl many)) =
      let n = many.0 in
      let least : nat_lt 0 (length rs) ≡ true = lt-ltb 0 (length rs) (omega (arith, n)) in
      let most : nat_lt 20000 (length rs) ≡ true = lt-ltb 20000 (length rs) n in
      rw (least, most) (ap Err (sym many.1))
  broken_under rs fault (inr (inr h)) = counted rs (Err fault) h.0 h.1 ((first_broken columns rs fault).1 h.2)

  under_spelled : (rs : List (List (List ℕ))) (lines : List Line) → under rs ≡ Ok lines → (1 ≤ length rs) × (length rs ≤ 20000) × AreLines columns 1 rs lines × NameOwnKeys lines
  unfolding under
  under_spelled rs lines e =
      let (some, e1) = demanded (nat_lt 0 (length rs)) EmptyBatch (demand (not (nat_lt 20000 (length rs))) TooManyLines (lines_from columns [] 1 rs)) lines e in
      let (few, e2) = demanded (not (nat_lt 20000 (length rs))) TooManyLines (lines_from columns [] 1 rs) lines e1 in
      let least = ltb-true 0 (length rs) some in
      let h = (none_broken columns rs lines).0 e2 in
      (omega (arith, least), ltb-false 20000 (length rs) (was_true (nat_lt 20000 (length rs)) few), h.0, h.1)

  headed : (head : List (List ℕ)) (rs : List (List (List ℕ))) → lines_of_records columns (head ∷ rs) ≡ demand (is_header columns head) BadHeader (under rs)
  unfolding under
  headed head rs = refl

  no_header : (head : List (List ℕ)) → head ≢ batch_header columns → is_header columns head ≡ false
  no_header head other = by (is_header columns head) refl
    where
      by : (b : Bool) → is_header columns head ≡ b → b ≡ false
      by true e = absurd (other (header_fields columns head e))
      by false e = refl

  other_fields : (head : List (List ℕ)) → is_header columns head ≡ false → head ≢ batch_header columns
  other_fields head none e = let held = fields_header columns head e in absurd (cc)

  records_broken : (records : List (List (List ℕ))) (fault : BatchFault) → lines_of_records columns records ≡ Err fault → IsBroken columns records fault
  records_broken [] fault e = cc
  records_broken (head ∷ rs) fault e = by (refused (is_header columns head) BadHeader (under rs) fault (sym (headed head rs) ∙ e))
    where
      by : ((is_header columns head ≡ false) × (fault ≡ BadHeader)) ⊎ ((is_header columns head ≡ true) × (under rs ≡ Err fault)) → IsBroken columns (head ∷ rs) fault
      by (inl none) = inl (other_fields head none.0, none.1)
      by (inr some) = inr (header_fields columns head some.0, under_broken rs fault some.1)

  broken_records : (records : List (List (List ℕ))) (fault : BatchFault) → IsBroken columns records fault → lines_of_records columns records ≡ Err fault
  broken_records [] fault b = ap Err (sym b)
  broken_records (head ∷ rs) fault (inl none) = headed head rs ∙ ap (λ b. demand b BadHeader (under rs)) (no_header head none.0) ∙ ap Err (sym none.1)
  broken_records (head ∷ rs) fault (inr h) = headed head rs ∙ ap (λ b. demand b BadHeader (under rs)) (fields_header columns head h.0) ∙ broken_under rs fault h.1

  records_spelled : (records : List (List (List ℕ))) (lines : List Line) → lines_of_records columns records ≡ Ok lines → IsBatch columns records lines
  records_spelled [] lines e = absurd (cc)
  records_spelled (head ∷ rs) lines e =
      let (header, rest) = demanded (is_header columns head) BadHeader (under rs) lines (sym (headed head rs) ∙ e) in
      let h = under_spelled rs lines rest in
      (header_fields columns head header, h.0, h.1, h.2, h.3)

  spelled_records : (records : List (List (List ℕ))) (lines : List Line) → IsBatch columns records lines → lines_of_records columns records ≡ Ok lines
  spelled_records [] lines b = absurd b
  spelled_records (head ∷ rs) lines b =
      headed head rs ∙ ap (λ t. demand t BadHeader (under rs)) (fields_header columns head b.0) ∙ counted rs (Ok lines) b.1 b.2 ((none_broken columns rs lines).1 (b.3, b.4))

pub first_broken_is_told : FirstBrokenIsTold
unfolding lines_of
first_broken_is_told columns body fault = (records_broken columns (records_of body) fault, broken_records columns (records_of body) fault)

pub batches_break_none : BatchesBreakNone
unfolding lines_of
batches_break_none columns body lines = (records_spelled columns (records_of body) lines, spelled_records columns (records_of body) lines)
