-- One read of a record, and the records that are left after it.
use Rattle.std.proofs.Common.{◌≡◌, ℕ, Bool, true, false, List, [], ◌∷◌, Some, refl, sym, ap, ◌∙◌, subst, inl}
use Rattle.std.specs.Prelude.{unwrap_or}
use Rattle.std.specs.Borrow.{Bor}
use Rattle.csv.specs.Machine.{ends_at_end}
use Rattle.csv.specs.Reading.{Reached, ReadRecord, default_config, is_flexible}
use Rattle.csv.specs.declared.parser.State.{State}
use Rattle.csv.specs.declared.reader.Reader.{Reader}
use Rattle.csv.proofs.ReadFacts.{rows-more, rows-end}
use Rattle.csv_records.specs.Records.{IsReading, Reads, left_of, rest_of, bytes_left}
use Rattle.csv_records.proofs.RecordSteps.{one_more, no_more, took}

-- the records left are those of the bytes left
left_is : (r : Reader (Bor (List ℕ))) (y : List ℕ) → bytes_left r ≡ Some y → left_of r ≡ rest_of r.state y
left_is r y e = ap (λ o. rest_of r.state (unwrap_or o [])) e

pub record Found (a b : Reader (Bor (List ℕ))) (f : List (List ℕ)) : Type 0 where
  pub reading : IsReading b
  pub taken : left_of a ≡ f ∷ left_of b

pub read_found : (a b : Reader (Bor (List ℕ))) (f : List (List ℕ)) → IsReading a → b.first ≡ true → is_flexible b ≡ is_flexible a → ReadRecord (λ slice. Some slice.now) a b true f → Found a b f
unfolding Reached
read_found a b f h first flexible r =
    let m = rows-more (λ (slice : Bor (List ℕ)). Some slice.now) a b f default_config a.state h.bytes h.bytes [] h.config h.known (refl, refl) r in
    let p = m.2.0 in
    let next = m.2.1 in
    let between = subst (λ (s : State). ends_at_end s ≡ false) m.2.3.0 (took a.state [] [] h.bytes p next).between in
    record {
      reading = record { plain = r.3 ∙ h.plain; flexible = flexible ∙ h.flexible; config = r.2 ∙ h.config; ready = inl first; between = between; bytes = m.0; known = m.1 };
      taken =
          left_is a h.bytes h.known ∙ one_more a.state h.bytes p h.between next
          ∙ ap (λ (g : List (List ℕ)). g ∷ rest_of p.1 p.2) (sym m.2.2)
          ∙ ap (λ (s : State). f ∷ rest_of s p.2) m.2.3.0
          ∙ ap (λ (z : List ℕ). f ∷ rest_of b.state z) m.2.3.1
          ∙ ap (λ l. f ∷ l) (sym (left_is b m.0 m.1));
    }

pub read_none : (a b : Reader (Bor (List ℕ))) (f : List (List ℕ)) → IsReading a → ReadRecord (λ slice. Some slice.now) a b false f → left_of a ≡ []
read_none a b f h r = left_is a h.bytes h.known ∙ no_more a.state h.bytes (rows-end (λ (slice : Bor (List ℕ)). Some slice.now) a b f default_config h.bytes h.config h.known r)

pub read_either : (found : Bool) (a b : Reader (Bor (List ℕ))) (f : List (List ℕ)) → IsReading a → b.first ≡ true → is_flexible b ≡ is_flexible a → ReadRecord (λ slice. Some slice.now) a b found f → Reads found f (left_of a) (left_of b)
read_either true a b f h first flexible r = (read_found a b f h first flexible r).taken
read_either false a b f h first flexible r = read_none a b f h r
