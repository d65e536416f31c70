-- How long the journal of a history is.
use Rattle.std.proofs.Common.{◌≡◌, ℕ, ◌+◌, List, [], ◌∷◌, ◌++◌, length, refl, ap, arith}
use Rattle.std.proofs.lemmas.List.{length-append, map-append}
use Rattle.archive_journal.specs.Records.{header, body, open_records, front}
use Rattle.archive_journal.proofs.Images.{length-body, length-front-push}
use Rattle.entry_codec.specs.declared.entry.Entry.{Entry}
use Rattle.entry_codec.specs.Payloads.{payload}
use Rattle.archive_model.specs.Histories.{records_length, journal_length}
use Rattle.archive_core.specs.Keeping.{payloads_of}

-- the payload of an entry behind a history stands behind those of the history
pub payloads_grow : (history : List Entry) (e : Entry) → payloads_of (history ++ e ∷ []) ≡ payloads_of history ++ payload e ∷ []
payloads_grow history e = map-append payload history (e ∷ [])

length_records : (history : List Entry) → length (open_records (payloads_of history)) ≡ records_length history
length_records [] = refl
length_records (e ∷ es) =
    let both = length-append (body (payload e)) (open_records (payloads_of es)) in
    let here = length-body (payload e) in
    let more = length_records es in
    omega (arith, both, here, more)

-- but for its last gate, the journal is as long as the records and the bytes before them
pub front_length : (history : List Entry) → length (front (payloads_of history)) + 1 ≡ journal_length history
front_length history =
    let both = length-append header (open_records (payloads_of history)) in
    let records = length_records history in
    omega (arith, both, records)

-- an entry makes the journal longer by its payload and 37 bytes
pub journal_length_grows : (history : List Entry) (e : Entry) → journal_length (history ++ e ∷ []) ≡ journal_length history + length (payload e) + 37
journal_length_grows history e =
    let old = front_length history in
    let new = front_length (history ++ e ∷ []) in
    let same = ap (λ (ps : List (List ℕ)). length (front ps)) (payloads_grow history e) in
    let more = length-front-push (payloads_of history) (payload e) in
    omega (arith, old, new, same, more)
